-- The first byte of those that are carried and of a piece, and a node's own bytes by it.
use Rattle.std.proofs.Common.{◌≡◌, ℕ, zero, suc, ◌≤◌, List, [], ◌∷◌, ◌++◌, length, take, Some, None}
use Rattle.std.proofs.Common.{refl, ap, ◌∙◌, arith}
use Rattle.std.specs.Prelude.{slice_get, slice_index_or}
use Rattle.std.proofs.lemmas.List.{length-take-le}
use Rattle.grammar_core.specs.declared.form.Form.{Form}
use Rattle.form_core.specs.Needs.{AreOwn, IsFirst, need}

-- the first byte of what is carried and of the piece
pub first_carried : (c piece : List ℕ) (first : ℕ) → Some first ≡ slice_get c 0 →
    IsFirst first (c ++ piece)
first_carried [] piece first h = absurd cc
first_carried (x ∷ c) piece first h = let same : x ≡ first = cc in
    (c ++ piece, ap (λ (y : ℕ). y ∷ (c ++ piece)) same)

-- where nothing is carried, the first byte is that of the piece
pub first_of_piece : (c piece : List ℕ) → None ≡ slice_get c 0 → 1 ≤ length piece →
    IsFirst (slice_index_or piece 0 0) (c ++ piece)
first_of_piece [] [] h some = absurd (omega (arith, some))
first_of_piece [] (x ∷ piece) h some = (piece, refl)
first_of_piece (y ∷ c) piece h some = absurd cc

-- where a piece has as many bytes as its first one says that a node needs, they are the node's own
pub whole_front : (f : Form) (piece : List ℕ) (len : ℕ) → len ≡ need f (slice_index_or piece 0 0) →
    1 ≤ len → len ≤ length piece → AreOwn f (take len piece)
whole_front f [] len is some there = absurd (omega (arith, some, there))
whole_front f (first ∷ rest) zero is some there = absurd (omega (arith, some))
whole_front f (first ∷ rest) (suc n) is some there =
    (first, take n rest, refl, length-take-le (suc n) (first ∷ rest) there ∙ is)

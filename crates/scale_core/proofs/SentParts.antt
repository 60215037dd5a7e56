-- Bytes that are sent in parts.
use Rattle.std.proofs.Common.{◌≡◌, ℕ, ◌+◌, List, ◌++◌, take, drop, Option, Some, None}
use Rattle.std.proofs.Common.{append_assoc, sym, ◌∙◌, ap}
use Rattle.std.proofs.Math.Seq.{take-add}
use Rattle.std.specs.Io.KnownBytes.{Appends}

-- two appends of neighbouring parts are one
pub appends_next : (a b c : Option (List ℕ)) (xs : List ℕ) (w n : ℕ) → Appends a b (take w xs) →
    Appends b c (take n (drop w xs)) → Appends a c (take (w + n) xs)
appends_next None b c xs w n p q = tt
appends_next (Some a) None c xs w n p q = absurd p
appends_next (Some a) (Some b) None xs w n p q = absurd q
appends_next (Some a) (Some b) (Some c) xs w n p q =
    q ∙ ap (λ v. v ++ take n (drop w xs)) p ∙ append_assoc a (take w xs) (take n (drop w xs))
    ∙ ap (λ v. a ++ v) (sym (take-add w n xs))

-- If memory ran out, the grammar rejects none of the bytes taken: more are needed and one is there,
-- or they have a further node.
use Rattle.std.specs.Prelude.{◌≡◌, ◌⊎◌, ℕ, suc, ◌≤◌, List, [], ◌∷◌, ◌++◌, length, take}
use Rattle.grammar_core.specs.Preorder.{Entry}
use Rattle.decode_core.specs.Decoding.{RanOut}
use Rattle.outcome_core.specs.Outcome.{Query, more, IsOutcome}
use Rattle.outcome_core.specs.Reported.{Reported, after, reported_at}

-- whatever follows these bytes, these nodes are read first
abbrev pub AreRead : Query → List ℕ → List Entry → Type 0
AreRead j b nodes = (later : List ℕ) → (rest : Reported)
    × (reported_at j.registry (suc j.depth) j.ty (b ++ later) ≡ after nodes rest)

-- more bytes are needed, and at least one is there; or a node is read after the earlier ones, and
-- it needs no further byte
abbrev pub GoesOn : Query → List ℕ → List ℕ → Type 0
GoesOn j front rest = (IsOutcome j front more (length front) × (1 ≤ length rest))
    ⊎ ((nodes : List Entry) × (node : Entry) × AreRead j front (nodes ++ node ∷ []))

-- if memory ran out, none of the bytes that were taken before the failed allocation are rejected
abbrev pub WantedGoesOn : Type 0
WantedGoesOn = (j : Query) (b : List ℕ) (n : ℕ) → RanOut j b n → (front rest : List ℕ)
    × (take j.bytes b ≡ front ++ rest) × (length front ≡ n) × GoesOn j front rest

-- Bytes that have moved from a reader to a vector.
use Rattle.std.specs.Prelude.{◌≡◌, ℕ, List, ◌++◌, take, drop, Option, Some, None}

-- the first n known bytes, or all if there are fewer, moved from the reader to the end of a list
abbrev pub LeavesReader : Option (List ℕ) → Option (List ℕ) → List ℕ → List ℕ → ℕ → Type 0
LeavesReader None after old new n = Unit {0}
LeavesReader (Some xs) None old new n = ⊥
LeavesReader (Some xs) (Some ys) old new n = (new ≡ old ++ take n xs) × (ys ≡ drop n xs)

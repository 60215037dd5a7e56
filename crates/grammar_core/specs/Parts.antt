-- The parts of an open node that are still to be read.
use Rattle.std.specs.Prelude.{ℕ, zero, suc, List, [], ◌∷◌, length, Option, Some, None}

-- one value of each of these types, or so many values of one type
pub data Part : Type 0 where
  each : List ℕ → Part
  times : ℕ → ℕ → Part

-- the type of the next part, if any is left
abbrev pub first_of : Part → Option ℕ
first_of (each []) = None
first_of (each (t ∷ ts)) = Some t
first_of (times zero t) = None
first_of (times (suc n) t) = Some t

-- the parts left after the next one
abbrev pub left_after : Part → Part
left_after (each []) = each []
left_after (each (t ∷ ts)) = each ts
left_after (times zero t) = times zero t
left_after (times (suc n) t) = times n t

-- how many values are left
abbrev pub how_many_left : Part → ℕ
how_many_left (each ts) = length ts
how_many_left (times n t) = n

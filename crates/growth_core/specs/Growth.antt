-- The growth rule of vectors: for how many further elements a full vector reserves capacity.
use Rattle.std.specs.Prelude.{ℕ, ◌*◌, ◌/◌, max, min, nat_lt, Option, None, Some, if◌then◌else◌}

-- if nothing is known of the elements that follow: half of the length, at least 16, and from 65,536
-- elements on a quarter; if some are expected: as many, up to three times the length or 16, but at
-- least an eighth of the length
abbrev pub ahead : ℕ → Option ℕ → ℕ
ahead len None = if nat_lt len 65536 then max 16 (len / 2) else len / 4
ahead len (Some expected) = max (len / 8) (min expected (max 16 (3 * len)))

-- if it is known how many elements are left: as many, up to three times the length or 16
abbrev pub ahead_of_end : ℕ → ℕ → ℕ
ahead_of_end len left = min left (max 16 (3 * len))

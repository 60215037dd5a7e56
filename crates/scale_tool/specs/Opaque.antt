-- The places of what follows the length of an opaque value.
use Rattle.std.specs.Prelude.{ℕ, ◌+◌}
use Rattle.scale_calls.specs.declared.refusal.ValueRefusal.{ValueRefusal}
use Rattle.scale_calls.specs.declared.refusal.ValueRefusal.TheVariants as value

-- the refusal of bytes that begin at this place, with its own place from the first byte of all
abbrev pub placed_after : ℕ → ValueRefusal → ValueRefusal
placed_after start (value.Fault f) =
    value.Fault (record { reason = f.reason; at = start + f.at })
placed_after start (value.TrailingBytes at) = value.TrailingBytes (start + at)
placed_after start e = e

-- the place of a refusal in its bytes, 0 if it has none
abbrev pub place_of : ValueRefusal → ℕ
place_of (value.Fault f) = f.at
place_of (value.TrailingBytes at) = at
place_of _ = 0

-- Decimal digits of numbers that are split, and digits of bits.
use Rattle.std.specs.Prelude.{ℕ, zero, suc, ◌+◌, List, [], ◌∷◌, ◌++◌, drop, Bool, if◌then◌else◌}
use Rattle.std.specs.Fmt.{decimal}
use Rattle.types_core.specs.Bits.{is_one}
use Rattle.types_core.specs.declared.bits.BitForm.{BitForm}

-- the number in as many digits as the unit, a power of ten, has zeros, with leading zeros: the
-- digits of the sum of both, without the first
abbrev pub last_digits : ℕ → ℕ → List ℕ
last_digits unit low = drop 1 (decimal (unit + low))

-- the digit 1 or 0 that stands for a bit
abbrev pub bit_digit : Bool → ℕ
bit_digit one = if one then 49 else 48

-- the digits of the first n bits
abbrev pub bit_digits : BitForm → List ℕ → ℕ → List ℕ
bit_digits f s zero = []
bit_digits f s (suc n) = bit_digits f s n ++ bit_digit (is_one f s n) ∷ []

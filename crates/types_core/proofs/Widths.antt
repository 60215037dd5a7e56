-- What is true of every width of an integer.
use Rattle.std.proofs.Common.{◌≡◌, ◌*◌, ◌/◌, ◌^◌, ◌≤◌, refl, arith}
use Rattle.types_core.specs.Kinds.{width_bytes}
use Rattle.types_core.specs.declared.kind.IntegerWidth.{IntegerWidth}
use Rattle.types_core.specs.declared.kind.IntegerWidth.TheVariants.{Bits8, Bits16, Bits32}
use Rattle.types_core.specs.declared.kind.IntegerWidth.TheVariants.{Bits64, Bits128}

-- an integer has at least one byte
pub width_some : (w : IntegerWidth) → 1 ≤ width_bytes w
width_some Bits8 = omega arith
width_some Bits16 = omega arith
width_some Bits32 = omega arith
width_some Bits64 = omega arith
width_some Bits128 = omega arith

-- and at most sixteen
pub width_most : (w : IntegerWidth) → width_bytes w ≤ 16
width_most Bits8 = omega arith
width_most Bits16 = omega arith
width_most Bits32 = omega arith
width_most Bits64 = omega arith
width_most Bits128 = omega arith

-- as many numbers are below 0 as are not
pub width_halves : (w : IntegerWidth) → 256 ^ width_bytes w ≡ 2 * (256 ^ width_bytes w / 2)
width_halves Bits8 = refl
width_halves Bits16 = refl
width_halves Bits32 = refl
width_halves Bits64 = refl
width_halves Bits128 = refl

-- there are at least two numbers, one of them with the top bit
pub width_numbers : (w : IntegerWidth) → 2 ≤ 256 ^ width_bytes w
width_numbers Bits8 = omega arith
width_numbers Bits16 = omega arith
width_numbers Bits32 = omega arith
width_numbers Bits64 = omega arith
width_numbers Bits128 = omega arith

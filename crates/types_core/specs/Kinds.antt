-- What kind of type a primitive is, and how many bytes an integer has (SCALE codec, fixed-width
-- integers).
use Rattle.std.specs.Prelude.{ℕ}
use Rattle.types_core.specs.declared.primitive.Primitive.{Primitive}
use Rattle.types_core.specs.declared.primitive.Primitive.TheVariants as P
use Rattle.types_core.specs.declared.kind.PrimitiveKind.{PrimitiveKind}
use Rattle.types_core.specs.declared.kind.PrimitiveKind.TheVariants as kind
use Rattle.types_core.specs.declared.kind.IntegerWidth.{IntegerWidth}
use Rattle.types_core.specs.declared.kind.IntegerWidth.TheVariants.{Bits8, Bits16, Bits32}
use Rattle.types_core.specs.declared.kind.IntegerWidth.TheVariants.{Bits64, Bits128}
use Rattle.types_core.specs.declared.kind.Signedness.TheVariants as sign

abbrev pub kind_of : Primitive → PrimitiveKind
kind_of P.Bool = kind.Bool
kind_of P.Char = kind.Char
kind_of P.Str = kind.Str
kind_of P.U8 = kind.Unsigned Bits8
kind_of P.U16 = kind.Unsigned Bits16
kind_of P.U32 = kind.Unsigned Bits32
kind_of P.U64 = kind.Unsigned Bits64
kind_of P.U128 = kind.Unsigned Bits128
kind_of P.U256 = kind.Wide sign.Unsigned
kind_of P.I8 = kind.Signed Bits8
kind_of P.I16 = kind.Signed Bits16
kind_of P.I32 = kind.Signed Bits32
kind_of P.I64 = kind.Signed Bits64
kind_of P.I128 = kind.Signed Bits128
kind_of P.I256 = kind.Wide sign.Signed

-- how many bytes an integer of this width has
abbrev pub width_bytes : IntegerWidth → ℕ
width_bytes Bits8 = 1
width_bytes Bits16 = 2
width_bytes Bits32 = 4
width_bytes Bits64 = 8
width_bytes Bits128 = 16

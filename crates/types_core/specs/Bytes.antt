-- The bytes of the primitives.
use Rattle.std.specs.Prelude.{ℕ, List, [], ◌∷◌}
use Rattle.types_core.specs.declared.primitive.Primitive.{Primitive}
use Rattle.types_core.specs.declared.primitive.Primitive.TheVariants.{Bool, Char, Str, U8, U16}
use Rattle.types_core.specs.declared.primitive.Primitive.TheVariants.{U32, U64, U128, U256, I8}
use Rattle.types_core.specs.declared.primitive.Primitive.TheVariants.{I16, I32, I64, I128, I256}

-- the primitives in the order of their bytes, from 0
abbrev pub primitives : List Primitive
primitives = Bool ∷ Char ∷ Str ∷ U8 ∷ U16 ∷ U32 ∷ U64 ∷ U128 ∷ U256 ∷ I8 ∷ I16 ∷ I32 ∷ I64 ∷ I128 ∷
    I256 ∷ []

-- the byte of a primitive
abbrev pub primitive_byte : Primitive → ℕ
primitive_byte Bool = 0
primitive_byte Char = 1
primitive_byte Str = 2
primitive_byte U8 = 3
primitive_byte U16 = 4
primitive_byte U32 = 5
primitive_byte U64 = 6
primitive_byte U128 = 7
primitive_byte U256 = 8
primitive_byte I8 = 9
primitive_byte I16 = 10
primitive_byte I32 = 11
primitive_byte I64 = 12
primitive_byte I128 = 13
primitive_byte I256 = 14

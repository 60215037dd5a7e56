-- The line of a type: its position, its class, its kind and its path; and the line of a version.
use Rattle.std.specs.Prelude.{ℕ, List, [], ◌∷◌, ◌+◌, ◌++◌, codes, decimal, flat_map, slice_get}
use Rattle.std.specs.Prelude.{Option, Some, None, option_map}
use Rattle.serde_json.specs.Data.{string}
use Rattle.serde_json.specs.Written.{compact_text}
use Rattle.types_core.specs.declared.type_info.TypeInfo.{TypeInfo}
use Rattle.registry_core.specs.declared.version.Version.{Version}
use Rattle.registry_core.specs.Bytes.{version_byte}
use Rattle.widths_core.specs.declared.class.Class.{Class}
use Rattle.widths_core.specs.declared.class.Class.TheVariants as class
use Rattle.widths_core.specs.Classes.{class_of}
use Rattle.types_core.specs.declared.primitive.Primitive.{Primitive}
use Rattle.types_core.specs.declared.primitive.Primitive.TheVariants as primitive
use Rattle.types_core.specs.declared.definition.TypeDef.{TypeDef}
use Rattle.types_core.specs.declared.definition.TypeDef.TheVariants as definition

abbrev pub class_name : Class → List ℕ
class_name class.NoValue = codes "NoValue"
class_name class.Empty = codes "Empty"
class_name class.Sized = codes "Sized"

abbrev pub primitive_name : Primitive → List ℕ
primitive_name primitive.Bool = codes "bool"
primitive_name primitive.Char = codes "char"
primitive_name primitive.Str = codes "str"
primitive_name primitive.U8 = codes "u8"
primitive_name primitive.U16 = codes "u16"
primitive_name primitive.U32 = codes "u32"
primitive_name primitive.U64 = codes "u64"
primitive_name primitive.U128 = codes "u128"
primitive_name primitive.U256 = codes "u256"
primitive_name primitive.I8 = codes "i8"
primitive_name primitive.I16 = codes "i16"
primitive_name primitive.I32 = codes "i32"
primitive_name primitive.I64 = codes "i64"
primitive_name primitive.I128 = codes "i128"
primitive_name primitive.I256 = codes "i256"

abbrev pub kind_name : TypeDef → List ℕ
kind_name (definition.Composite fields) = codes "composite"
kind_name (definition.Variant arms) = codes "variant"
kind_name (definition.Sequence element) = codes "sequence"
kind_name (definition.Array len element) = codes "array"
kind_name (definition.Tuple members) = codes "tuple"
kind_name (definition.Primitive p) = primitive_name p
kind_name (definition.Compact target) = codes "compact"
kind_name (definition.BitSequence store order form) = codes "bitsequence"

-- the segments, joined by `::`
abbrev pub joined_segments : List (List ℕ) → List ℕ
joined_segments [] = []
joined_segments (s ∷ ss) = s ++ flat_map (λ t. codes "::" ++ t) ss

-- position, class, kind and path, separated by spaces, with the path as a JSON text
abbrev pub line_of_type : ℕ → Class → TypeInfo → List ℕ
line_of_type i class info =
    decimal i ++ 32 ∷ (class_name
    class ++ 32 ∷ (kind_name
    info.shape ++ 32 ∷ (compact_text (string (joined_segments info.path)) ++ 10 ∷ [])))

-- the lines of these types of r, from position i on
abbrev pub lines_from : List TypeInfo → ℕ → List TypeInfo → List ℕ
lines_from r i [] = []
lines_from r i (x ∷ xs) = line_of_type i (class_of r i) x ++ lines_from r (i + 1) xs

-- the lines of all types
unfoldable pub type_lines : List TypeInfo → List ℕ
type_lines r = lines_from r 0 r

-- the line of the type at a position
abbrev pub type_line : List TypeInfo → ℕ → Option (List ℕ)
type_line r i = option_map (λ x. line_of_type i (class_of r i) x) (slice_get r i)

-- the line of the version of metadata; none for a registry alone
abbrev pub version_line : Option Version → List ℕ
version_line None = []
version_line (Some version) = codes "metadata " ++ decimal (version_byte version) ++ 10 ∷ []

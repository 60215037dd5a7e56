-- The one spelling of a registry (scale-info, `PortableRegistry` in its portable form).
use Rattle.std.specs.Prelude.{ℕ, ◌+◌, List, [], ◌∷◌, ◌++◌, length, Option, Some, None, flat_map}
use Rattle.scale_core.specs.Number.{le_bytes}
use Rattle.scale_core.specs.Compact.{compact}
use Rattle.types_core.specs.declared.definition.Field.{Field}
use Rattle.types_core.specs.declared.definition.Arm.{Arm}
use Rattle.types_core.specs.declared.definition.TypeDef.{TypeDef}
use Rattle.types_core.specs.declared.definition.TypeDef.TheVariants as def
use Rattle.types_core.specs.declared.type_info.Param.{Param}
use Rattle.types_core.specs.declared.type_info.TypeInfo.{TypeInfo}
use Rattle.types_core.specs.declared.type_id.TypeId.{TypeId}
use Rattle.registry_core.specs.declared.version.Version.{Version}
use Rattle.types_core.specs.Bytes.{primitive_byte}
use Rattle.registry_core.specs.Bytes.{magic, version_byte}

-- a sequence: its length, and its elements
abbrev pub sequence : {X : Type 0} → (X → List ℕ) → List X → List ℕ
sequence spell xs = compact (length xs) ++ flat_map spell xs

-- a text: its length, and its bytes
abbrev pub text : List ℕ → List ℕ
text s = compact (length s) ++ s

abbrev pub texts : List (List ℕ) → List ℕ
texts = sequence text

-- an option: a byte, and the value after the byte 1
abbrev pub option : {X : Type 0} → (X → List ℕ) → Option X → List ℕ
option spell None = 0 ∷ []
option spell (Some x) = 1 ∷ spell x

abbrev pub type_id : TypeId → List ℕ
type_id t = compact t.0

abbrev pub param : Param → List ℕ
param p = text p.name ++ option type_id p.ty

abbrev pub field : Field → List ℕ
field f = option text f.name ++ type_id f.ty ++ option text f.type_name ++ texts f.docs

abbrev pub arm : Arm → List ℕ
arm a = text a.name ++ sequence field a.fields ++ a.index ∷ texts a.docs

abbrev pub definition : TypeDef → List ℕ
definition (def.Composite fields) = 0 ∷ sequence field fields
definition (def.Variant arms) = 1 ∷ sequence arm arms
definition (def.Sequence element) = 2 ∷ type_id element
definition (def.Array len element) = 3 ∷ le_bytes 4 len ++ type_id element
definition (def.Tuple members) = 4 ∷ sequence type_id members
definition (def.Primitive p) = 5 ∷ primitive_byte p ∷ []
definition (def.Compact target) = 6 ∷ type_id target
definition (def.BitSequence store order form) = 7 ∷ type_id store ++ type_id order

abbrev pub type_info : TypeInfo → List ℕ
type_info t = texts t.path ++ sequence param t.params ++ definition t.shape ++ texts t.docs

-- types from position i on, each after its position
abbrev pub types_from : ℕ → List TypeInfo → List ℕ
types_from i [] = []
types_from i (t ∷ ts) = compact i ++ type_info t ++ types_from (i + 1) ts

-- a registry: how many types, and the types from position 0 on
unfoldable pub spelling : List TypeInfo → List ℕ
spelling r = compact (length r) ++ types_from 0 r

-- a registry after the prefix of metadata of a version
abbrev pub metadata : Version → List TypeInfo → List ℕ
metadata version r = magic ++ version_byte version ∷ spelling r

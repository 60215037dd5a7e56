-- Reading a registry from left to right, up to the first fault.
use Rattle.std.specs.Prelude.{ℕ, zero, suc, ◌+◌, List, [], ◌∷◌, Option, Some, None, Ok, Err, ◌==◌}
use Rattle.std.specs.Prelude.{slice_get, if◌then◌else◌}
use Rattle.scale_core.specs.Read.{Read, ◌>>=◌, compact_at, text_at, number_at}
use Rattle.scale_core.specs.declared.compact.Target.TheVariants.{U32 as u32_target}
use Rattle.scale_core.specs.declared.fault.Reason.{Reason}
use Rattle.scale_core.specs.declared.fault.Reason.TheVariants as scale
use Rattle.types_core.specs.declared.definition.Field.{Field}
use Rattle.types_core.specs.declared.definition.Arm.{Arm}
use Rattle.types_core.specs.declared.definition.TypeDef.{TypeDef}
use Rattle.types_core.specs.declared.definition.TypeDef.TheVariants as def
use Rattle.types_core.specs.declared.type_info.Param.{Param}
use Rattle.types_core.specs.declared.type_info.TypeInfo.{TypeInfo}
use Rattle.types_core.specs.declared.type_id.TypeId.{TypeId}
use Rattle.types_core.specs.declared.primitive.Primitive.{Primitive}
use Rattle.registry_core.specs.declared.fault.RegistryReason.{RegistryReason}
use Rattle.registry_core.specs.declared.fault.RegistryReason.TheVariants as registry
use Rattle.registry_core.specs.declared.version.Version.{Version}
use Rattle.types_core.specs.Bytes.{primitives}
use Rattle.registry_core.specs.Bytes.{magic, version_of}

-- why a length, an id or a text is rejected, as a reason of the registry; the last three don't
-- occur, by the contracts of `read_compact` and `read_text`
abbrev pub registry_reason_of : Reason → RegistryReason
registry_reason_of scale.Truncated = registry.Truncated
registry_reason_of scale.BadUtf8 = registry.BadUtf8
registry_reason_of scale.CompactNotShortest = registry.CompactNotShortest
registry_reason_of scale.CompactTooLarge = registry.CompactTooLarge
registry_reason_of scale.BadBool = registry.BadOption
registry_reason_of scale.BadChar = registry.BadUtf8
registry_reason_of scale.UnusedBits = registry.BadUtf8

abbrev pub lifted : {X : Type 0} → Read Reason X → Read RegistryReason X
lifted (Ok x) = Ok x
lifted (Err e) = Err (registry_reason_of e.0, e.1)

abbrev pub Reader : Type 0 → Type 0
Reader X = List ℕ → Read RegistryReason X

-- ---- lengths, texts, options, ids

abbrev pub length_at : Reader ℕ
length_at bytes = lifted (compact_at u32_target bytes)

-- n parts, one after the other
abbrev pub repeated : {X : Type 0} → ℕ → Reader X → Reader (List X)
repeated zero part bytes = Ok ([], bytes)
repeated (suc n) part bytes = do
  first ← part bytes
  others ← repeated n part first.1
  Ok (first.0 ∷ others.0, others.1)

-- a sequence: its length, and its elements
abbrev pub sequence_at : {X : Type 0} → Reader X → Reader (List X)
sequence_at part bytes = do
  n ← length_at bytes
  repeated n.0 part n.1

abbrev pub string_at : Reader (List ℕ)
string_at bytes = lifted (text_at bytes)

unfoldable pub texts_at : Reader (List (List ℕ))
texts_at = sequence_at string_at

-- an option: a byte, and the value after the byte 1
abbrev pub option_at : {X : Type 0} → Reader X → Reader (Option X)
option_at part [] = Err (registry.Truncated, [])
option_at part (zero ∷ rest) = Ok (None, rest)
option_at part (suc zero ∷ rest) = do
  x ← part rest
  Ok (Some x.0, x.1)
option_at part (suc (suc b) ∷ rest) = Err (registry.BadOption, suc (suc b) ∷ rest)

abbrev pub type_id_at : Reader TypeId
type_id_at bytes = do
  id ← length_at bytes
  Ok (record { 0 = id.0 }, id.1)

abbrev pub byte_at : Reader ℕ
byte_at [] = Err (registry.Truncated, [])
byte_at (b ∷ rest) = Ok (b, rest)

-- ---- parameters, fields, arms

unfoldable pub param_at : Reader Param
param_at bytes = do
  name ← string_at bytes
  ty ← option_at type_id_at name.1
  Ok (record { name = name.0; ty = ty.0 }, ty.1)

unfoldable pub field_at : Reader Field
field_at bytes = do
  name ← option_at string_at bytes
  ty ← type_id_at name.1
  type_name ← option_at string_at ty.1
  docs ← texts_at type_name.1
  Ok (record { name = name.0; ty = ty.0; type_name = type_name.0; docs = docs.0 }, docs.1)

unfoldable pub fields_at : Reader (List Field)
fields_at = sequence_at field_at

unfoldable pub arm_read_at : Reader Arm
arm_read_at bytes = do
  name ← string_at bytes
  fields ← fields_at name.1
  index ← byte_at fields.1
  docs ← texts_at index.1
  Ok (record { name = name.0; fields = fields.0; index = index.0; docs = docs.0 }, docs.1)

-- ---- definitions

-- the value that a byte names, or this reason if it names none
abbrev pub named : {X : Type 0} → RegistryReason → List ℕ → Option X → List ℕ →
    Read RegistryReason X
named reason at (Some x) rest = Ok (x, rest)
named reason at None rest = Err (reason, at)

abbrev pub primitive_at : Reader Primitive
primitive_at bytes = do
  b ← byte_at bytes
  named registry.BadPrimitive bytes (slice_get primitives b.0) b.1

-- a part, as one kind of definition
abbrev pub as_definition : {X : Type 0} → (X → TypeDef) → Reader X → Reader TypeDef
as_definition make part bytes = do
  x ← part bytes
  Ok (make x.0, x.1)

unfoldable pub array_at : Reader TypeDef
array_at bytes = do
  len ← lifted (number_at 4 bytes)
  element ← type_id_at len.1
  Ok (def.Array len.0 element.0, element.1)

unfoldable pub bit_sequence_at : Reader TypeDef
bit_sequence_at bytes = do
  store ← type_id_at bytes
  order ← type_id_at store.1
  Ok (def.BitSequence store.0 order.0 None, order.1)

unfoldable pub arms_read_at : Reader (List Arm)
arms_read_at = sequence_at arm_read_at

unfoldable pub type_ids_at : Reader (List TypeId)
type_ids_at = sequence_at type_id_at

-- the readers of what follows a definition's first byte, in the order of that byte
abbrev pub definitions : List (Reader TypeDef)
definitions = as_definition def.Composite fields_at
    ∷ as_definition def.Variant arms_read_at
    ∷ as_definition def.Sequence type_id_at
    ∷ array_at
    ∷ as_definition def.Tuple type_ids_at
    ∷ as_definition def.Primitive primitive_at
    ∷ as_definition def.Compact type_id_at
    ∷ bit_sequence_at
    ∷ []

-- the element at position i, or `other` if there is none
abbrev pub pick : {X : Type 0} → List X → ℕ → X → X
pick [] i other = other
pick (x ∷ xs) zero other = x
pick (x ∷ xs) (suc i) other = pick xs i other

unfoldable pub definition_at : Reader TypeDef
definition_at bytes = do
  b ← byte_at bytes
  pick definitions b.0 (λ _. Err (registry.BadDefinition, bytes)) b.1

-- ---- types

unfoldable pub params_at : Reader (List Param)
params_at = sequence_at param_at

unfoldable pub type_info_at : Reader TypeInfo
type_info_at bytes = do
  path ← texts_at bytes
  params ← params_at path.1
  shape ← definition_at params.1
  docs ← texts_at shape.1
  Ok (record { path = path.0; params = params.0; shape = shape.0; docs = docs.0 }, docs.1)

-- an id, which must be i
abbrev pub id_at : ℕ → Reader ℕ
id_at i bytes = do
  id ← length_at bytes
  if id.0 == i then Ok id else Err (registry.IdOutOfPlace, bytes)

-- n types, from position i on, each after its position
abbrev pub types_at : ℕ → ℕ → Reader (List TypeInfo)
types_at zero i bytes = Ok ([], bytes)
types_at (suc n) i bytes = do
  id ← id_at i bytes
  first ← type_info_at id.1
  others ← types_at n (i + 1) first.1
  Ok (first.0 ∷ others.0, others.1)

unfoldable pub registry_at : Reader (List TypeInfo)
registry_at bytes = do
  n ← length_at bytes
  types_at n.0 0 n.1

-- ---- the prefix of metadata

-- this letter, or `NotMetadata` if it is another
abbrev pub letter_at : ℕ → Reader (Unit {0})
letter_at letter bytes = do
  b ← byte_at bytes
  if b.0 == letter then Ok (tt, b.1) else Err (registry.NotMetadata, bytes)

-- these letters, one by one
abbrev pub letters_at : List ℕ → Reader (Unit {0})
letters_at [] bytes = Ok (tt, bytes)
letters_at (letter ∷ letters) bytes = do
  first ← letter_at letter bytes
  letters_at letters first.1

-- the version that a byte stands for
abbrev pub version_at : Reader Version
version_at bytes = do
  b ← byte_at bytes
  named registry.WrongVersion bytes (version_of b.0) b.1

-- the letters `meta`, and the version after them
unfoldable pub prefix_at : Reader Version
prefix_at bytes = do
  letters ← letters_at magic bytes
  version_at letters.1

-- the prefix of metadata and the registry after it: its types, and the version
unfoldable pub metadata_at : Reader (List TypeInfo × Version)
metadata_at bytes = do
  version ← prefix_at bytes
  types ← registry_at version.1
  Ok ((types.0, version.0), types.1)

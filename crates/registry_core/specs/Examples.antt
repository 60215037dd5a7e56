-- Worked registries: read, and spelled again.
use Rattle.std.specs.Prelude.{◌≡◌, ℕ, zero, suc, ◌+◌, ◌*◌, List, [], ◌∷◌, ◌++◌, length, Ok, Err}
use Rattle.scale_core.specs.Read.{Read}
use Rattle.types_core.specs.declared.definition.TypeDef.{TypeDef}
use Rattle.types_core.specs.declared.definition.TypeDef.TheVariants as def
use Rattle.types_core.specs.declared.primitive.Primitive.TheVariants.{U8}
use Rattle.types_core.specs.declared.type_info.TypeInfo.{TypeInfo}
use Rattle.registry_core.specs.declared.fault.RegistryReason.{RegistryReason}
use Rattle.registry_core.specs.declared.fault.RegistryReason.TheVariants.{BadUtf8, CompactTooLarge}
use Rattle.registry_core.specs.declared.fault.RegistryReason.TheVariants.{IdOutOfPlace, NotMetadata}
use Rattle.registry_core.specs.declared.fault.RegistryReason.TheVariants.{Truncated, WrongVersion}
use Rattle.registry_core.specs.declared.version.Version.TheVariants.{V14, V15}
use Rattle.registry_core.specs.Reading.{registry_at, metadata_at}
use Rattle.registry_core.specs.Spelling.{spelling}

-- a type without a name
abbrev pub bare : TypeDef → TypeInfo
bare shape = record { path = []; params = []; shape = shape; docs = [] }

-- a u32 and the option of it, with a parameter, two arms and a field
abbrev pub option_bytes : List ℕ
option_bytes = 0x08 ∷ 0x00 ∷ 0x00 ∷ 0x00 ∷ 0x05 ∷ 0x05 ∷ 0x00 ∷ 0x04 ∷ 0x04 ∷ 0x18 ∷ 0x4f ∷ 0x70 ∷
    0x74 ∷ 0x69 ∷ 0x6f ∷ 0x6e ∷ 0x04 ∷ 0x04 ∷ 0x54 ∷ 0x01 ∷ 0x00 ∷ 0x01
    ∷ 0x08 ∷ 0x10 ∷ 0x4e ∷ 0x6f ∷ 0x6e ∷ 0x65 ∷ 0x00 ∷ 0x00 ∷ 0x00 ∷ 0x10 ∷ 0x53 ∷ 0x6f ∷ 0x6d ∷
    0x65 ∷ 0x04 ∷ 0x00 ∷ 0x00 ∷ 0x01 ∷ 0x04 ∷ 0x54 ∷ 0x00 ∷ 0x01 ∷ 0x00 ∷ 0x00 ∷ []

-- a tuple that has the type before it twice, after its position
abbrev pub pair_bytes : ℕ → List ℕ
pair_bytes i = 4 * (i + 1) ∷ 0 ∷ 0 ∷ 4 ∷ 8 ∷ 4 * i ∷ 4 * i ∷ 0 ∷ []

-- n of these tuples, from this position on
abbrev pub pairs_bytes : ℕ → ℕ → List ℕ
pairs_bytes zero i = []
pairs_bytes (suc n) i = pair_bytes i ++ pairs_bytes n (i + 1)

-- a unit, and forty tuples, each of which has the type before it twice
abbrev pub nested_bytes : List ℕ
nested_bytes = 0xa4 ∷ 0 ∷ 0 ∷ 0 ∷ 4 ∷ 0 ∷ 0 ∷ pairs_bytes 40 0

-- what was read, spelled again, and what is left
abbrev pub again : Read RegistryReason (List TypeInfo) → List ℕ
again (Ok x) = spelling x.0 ++ x.1
again (Err e) = []

-- registries that are read: a u8; a u32 and the option of it; and many nested tuples
pub record ReadRows : Type 0 where
  pub byte_is_read : registry_at (0x04 ∷ 0x00 ∷ 0x00 ∷ 0x00 ∷ 0x05 ∷ 0x03 ∷ 0x00 ∷ [])
      ≡ Ok (bare (def.Primitive U8) ∷ [], [])
  pub option_is_spelled_again : again (registry_at option_bytes) ≡ option_bytes
  pub nested_are_short : length nested_bytes ≡ 327
  pub nested_are_spelled_again : again (registry_at nested_bytes) ≡ nested_bytes

-- registries that are rejected, each at its first fault
pub record FaultRows : Type 0 where
  pub id_is_refused_at_its_first_byte : registry_at
      (0x04 ∷ 0x04 ∷ 0x00 ∷ 0x00 ∷ 0x05 ∷ 0x03 ∷ 0x00 ∷ [])
      ≡ Err (IdOutOfPlace, 0x04 ∷ 0x00 ∷ 0x00 ∷ 0x05 ∷ 0x03 ∷ 0x00 ∷ [])
  pub claimed_types_are_missing : registry_at (0xfe ∷ 0xff ∷ 0xff ∷ 0xff ∷ 0x00 ∷ [])
      ≡ Err (Truncated, [])
  pub text_is_no_utf8 : registry_at (0x04 ∷ 0x00 ∷ 0x04 ∷ 0x04 ∷ 0xff ∷ [])
      ≡ Err (BadUtf8, 0xff ∷ [])
  pub length_claims_too_many_bytes : registry_at (0x07 ∷ 0x00 ∷ 0x00 ∷ 0x00 ∷ 0x00 ∷ 0x00 ∷ [])
      ≡ Err (CompactTooLarge, 0x07 ∷ 0x00 ∷ 0x00 ∷ 0x00 ∷ 0x00 ∷ 0x00 ∷ [])

-- metadata: the bytes after the registry are left, and another letter or version is rejected
pub record MetadataRows : Type 0 where
  pub fourteen_is_read : metadata_at
      (0x6d ∷ 0x65 ∷ 0x74 ∷ 0x61 ∷ 0x0e ∷ 0x04 ∷ 0x00 ∷ 0x00 ∷ 0x00 ∷ 0x05 ∷ 0x03 ∷ 0x00 ∷ 0xff ∷
      []) ≡ Ok ((bare (def.Primitive U8) ∷ [], V14), 0xff ∷ [])
  pub fifteen_is_read : metadata_at
      (0x6d ∷ 0x65 ∷ 0x74 ∷ 0x61 ∷ 0x0f ∷ 0x04 ∷ 0x00 ∷ 0x00 ∷ 0x00 ∷ 0x05 ∷ 0x03 ∷ 0x00 ∷ 0xff ∷
      []) ≡ Ok ((bare (def.Primitive U8) ∷ [], V15), 0xff ∷ [])
  pub other_letter_is_refused : metadata_at (0x6d ∷ 0x66 ∷ []) ≡ Err (NotMetadata, 0x66 ∷ [])
  pub thirteen_is_refused : metadata_at (0x6d ∷ 0x65 ∷ 0x74 ∷ 0x61 ∷ 0x0d ∷ [])
      ≡ Err (WrongVersion, 0x0d ∷ [])
  pub sixteen_is_refused : metadata_at (0x6d ∷ 0x65 ∷ 0x74 ∷ 0x61 ∷ 0x10 ∷ [])
      ≡ Err (WrongVersion, 0x10 ∷ [])

-- The names of the codes.
use Rattle.std.specs.Prelude.{ℕ, List, [], ◌∷◌, ◌-◌, codes, nat_le, if◌then◌else◌, slice_index_or}
use Rattle.registry_core.specs.Names.{registry_reason_name}
use Rattle.registry_core.specs.declared.fault.RegistryReason.TheVariants as types
use Rattle.machine_core.specs.Reasons as value
use Rattle.machine_core.specs.declared.reason.DecodeReason.TheVariants as reason

-- the codes from 0 on
abbrev pub calls : List (List ℕ)
calls = codes "Ok" ∷ codes "More" ∷ codes "NoRoom" ∷ codes "OutOfMemory" ∷ codes "Lent"
    ∷ codes "NoHandle" ∷ codes "Taken" ∷ []

-- those from 101 on: the reasons of a registry, and four more
abbrev pub of_registry : List (List ℕ)
of_registry = registry_reason_name types.Truncated ∷ registry_reason_name types.BadUtf8
    ∷ registry_reason_name types.CompactNotShortest ∷ registry_reason_name types.CompactTooLarge
    ∷ registry_reason_name types.BadOption ∷ registry_reason_name types.BadDefinition
    ∷ registry_reason_name types.BadPrimitive ∷ registry_reason_name types.IdOutOfPlace
    ∷ registry_reason_name types.NotMetadata ∷ registry_reason_name types.WrongVersion
    ∷ codes "TrailingBytes" ∷ codes "UnknownType" ∷ codes "UnknownReference"
    ∷ codes "TooLarge" ∷ []

-- those from 201 on
abbrev pub of_opening : List (List ℕ)
of_opening = codes "UnknownType" ∷ codes "LimitOutOfRange" ∷ codes "UnknownPart"
    ∷ codes "UnknownName" ∷ codes "NoBytes" ∷ []

-- those from 301 on: the reasons of a value, and bytes after it
abbrev pub of_value : List (List ℕ)
of_value = value.reason_name reason.Truncated ∷ value.reason_name reason.BadBool
    ∷ value.reason_name reason.BadChar ∷ value.reason_name reason.BadUtf8
    ∷ value.reason_name reason.CompactNotShortest ∷ value.reason_name reason.CompactTooLarge
    ∷ value.reason_name reason.NoSuchVariant ∷ value.reason_name reason.TooDeep
    ∷ value.reason_name reason.NoFiniteValue ∷ value.reason_name reason.BitSequence
    ∷ value.reason_name reason.BadCompact ∷ value.reason_name reason.TooLong
    ∷ codes "TrailingBytes" ∷ value.reason_name reason.UnusedBits ∷ []

-- those from 401 on: the reasons of a builder
abbrev pub of_records : List (List ℕ)
of_records = codes "TooDeep" ∷ codes "NoFiniteValue" ∷ codes "BitSequence" ∷ codes "BadCompact"
    ∷ codes "WrongKind" ∷ codes "OutOfRange" ∷ codes "NoSuchVariant" ∷ codes "UnfinishedValue"
    ∷ codes "BadText" ∷ []

-- the name of a code; empty for any other number
abbrev pub code_name : ℕ → List ℕ
code_name code = if nat_le code 6 then slice_index_or calls code []
    else if nat_le code 100 then []
    else if nat_le code 114 then slice_index_or of_registry (code - 101) []
    else if nat_le code 200 then []
    else if nat_le code 205 then slice_index_or of_opening (code - 201) []
    else if nat_le code 300 then []
    else if nat_le code 314 then slice_index_or of_value (code - 301) []
    else if nat_le code 400 then []
    else if nat_le code 409 then slice_index_or of_records (code - 401) []
    else []

-- Metadata that is opened with its names.
use Rattle.std.specs.Prelude.{◌≡◌, ◌+◌, ◌-◌, ◌<◌, ◌^◌, min, ℕ, List, ◌++◌, length, Option, Some}
use Rattle.std.specs.Prelude.{None, Ok, Err, Bool, true, ◌⊎◌}
use Rattle.growth_core.specs.Evidence.{evidence}
use Rattle.scale_core.specs.Read.{place}
use Rattle.types_core.specs.declared.type_info.TypeInfo.{TypeInfo}
use Rattle.registry_core.specs.Reading.{metadata_at}
use Rattle.registry_core.specs.declared.fault.RegistryFault.{RegistryFault}
use Rattle.registry_core.specs.declared.fault.RegistryReason.{RegistryReason}
use Rattle.registry_core.specs.declared.fault.RegistryReason.TheVariants as registry
use Rattle.registry_core.specs.declared.version.Version.{Version}
use Rattle.graph_core.specs.References.{first_fault}
use Rattle.widths_core.specs.Classes.{class_of}
use Rattle.node_core.specs.Shown.{Seen}
use Rattle.outcome_core.specs.Outcome.{Query}
use Rattle.decode_core.specs.Decoding.{FinishesDecoder}
use Rattle.decode_core.specs.Streaming.{Trails}
use Rattle.decode_core.specs.declared.fault.DecodeFault.{DecodeFault}
use Rattle.chain_core.specs.declared.fault.NamesFault.{NamesFault}
use Rattle.chain_core.specs.declared.fault.NamesFault.TheVariants as names
use Rattle.chain_core.specs.Listed.{things}
use Rattle.chain_core.specs.Names.{Entry, entries_of, placed}
use Rattle.chain_core.specs.RestTypes.{rest_root, rest_types}
use Rattle.chain_core.specs.Synthetic.{synthetic}
use Rattle.chain_core.specs.Unknown.{unknown_in}
use Rattle.scale_calls.specs.Opened.{IsFirstFault, types_by}
use Rattle.scale_calls.specs.Values.{value_in}
use Rattle.scale_calls.specs.declared.metadata.MetadataRefusal.{MetadataRefusal}
use Rattle.scale_calls.specs.declared.metadata.MetadataRefusal.TheVariants as refusal
use Rattle.scale_calls.specs.declared.metadata.NamedMetadata.{NamedMetadata}

-- how what follows the registry is read
abbrev pub rest_query : Version → Query
rest_query v = record { registry = rest_types; ty = (rest_root v).0; depth = 64; bytes = 2 ^ 28 }

-- what follows the registry, as a value
abbrev pub rest_in : Version → List ℕ → Option Seen
rest_in v bytes = value_in (rest_query v) bytes

-- metadata: its version, the registry's own types, and what follows them
pub record Metadata : Type 0 where
  pub version : Version
  pub own : List TypeInfo
  pub rest : Seen

-- the own types, and the synthetic ones after them
abbrev pub all_types : Metadata → List TypeInfo
all_types m = m.own ++ synthetic m.own (things m.version m.own m.rest)

-- the first types have the same classes among all types as on their own
abbrev pub KeepsClasses : List TypeInfo → List TypeInfo → Type 0
KeepsClasses own all = (t : ℕ) → t < length own → class_of all t ≡ class_of own t

-- all names, each with the position of its type
abbrev pub all_names : Metadata → List Entry
all_names m = placed (things m.version m.own m.rest) (length m.own)

-- this is opened of the metadata: its version, all types, of which its own keep their classes, and
-- the names
pub record Shows (m : NamedMetadata) (x : Metadata) : Type 0 where
  pub version : m.version ≡ x.version
  pub own : m.own ≡ length x.own
  pub types : m.checked.types ≡ all_types x
  pub classes : KeepsClasses x.own m.checked.types
  pub names : entries_of m.names ≡ all_names x

-- every reference is a position of the own types: those of the rest, and those of these types; so
-- is every reference of the synthetic types, of all
pub record IsKnown (m : Metadata) : Type 0 where
  pub rest : unknown_in (length m.own) m.rest ≡ None
  pub own : first_fault m.own ≡ None
  pub all : first_fault (all_types m) ≡ None

-- the metadata that these bytes are, with bits allowed or without
pub record IsMetadata (bits : Bool) (bytes : List ℕ) (m : Metadata) : Type 0 where
  pub types : List TypeInfo
  pub left : List ℕ
  pub read : metadata_at bytes ≡ Ok ((types, m.version), left)
  pub own : m.own ≡ types_by bits types
  pub rest : rest_in m.version left ≡ Some m.rest
  pub known : IsKnown m

-- a place behind the first `end` bytes, at most 2^64 - 1
abbrev pub shifted : ℕ → ℕ → ℕ
shifted end at = min (at + end) (2 ^ 64 - 1)

-- why what follows the registry, from the place `end` on, is no value of its type
abbrev pub RefusesRest : Version → List ℕ → ℕ → MetadataRefusal → Type 0
RefusesRest v bytes end (refusal.Rest f) = (rest_in v bytes ≡ None)
    × ((g : DecodeFault) × (f ≡ record { reason = g.reason; at = shifted end g.at })
    × FinishesDecoder (rest_query v) bytes (Err g))
RefusesRest v bytes end (refusal.TrailingBytes at) = (rest_in v bytes ≡ None)
    × ((n : ℕ) × (at ≡ shifted end n) × Trails (rest_query v) n bytes)
RefusesRest v bytes end (refusal.Memory _) = Unit {0}
RefusesRest v bytes end _ = ⊥

-- why the references of metadata are refused, whose registry ends at the place `end`: the first of
-- the rest that is no position, or the first of the types
abbrev pub RefusesReferences : Metadata → ℕ → MetadataRefusal → Type 0
RefusesReferences m end (refusal.UnknownReference ty at) = (n : ℕ)
    × (unknown_in (length m.own) m.rest ≡ Some (ty, n)) × (at ≡ shifted end n)
RefusesReferences m end (refusal.Check unknown) = (unknown_in (length m.own) m.rest ≡ None)
    × ((first_fault m.own ≡ Some (unknown.from, unknown.to))
    ⊎ ((first_fault m.own ≡ None) × (first_fault (all_types m) ≡ Some (unknown.from, unknown.to))))
RefusesReferences m end (refusal.TooLarge _) = Unit {0}
RefusesReferences m end (refusal.Memory _) = Unit {0}
RefusesReferences m end _ = ⊥

-- why metadata is refused: the first fault of its prefix and registry, what follows these, or a
-- reference
abbrev pub RefusesMetadata : Bool → List ℕ → MetadataRefusal → Type 0
RefusesMetadata bits bytes (refusal.Memory _) = Unit {0}
RefusesMetadata bits bytes (refusal.TooLarge _) = Unit {0}
RefusesMetadata bits bytes (refusal.Registry f) = IsFirstFault true bytes f
RefusesMetadata bits bytes r = (types : List TypeInfo) × (v : Version) × (left : List ℕ)
    × (metadata_at bytes ≡ Ok ((types, v), left)) × (RefusesRest v left (place bytes left) r
    ⊎ ((rest : Seen) × (rest_in v left ≡ Some rest) × RefusesReferences
    (record { version = v; own = types_by bits types; rest = rest }) (place bytes left) r))

abbrev pub metadata_refusal_by : RegistryReason → RegistryFault → MetadataRefusal
metadata_refusal_by (registry.OutOfMemory _) f = refusal.Memory evidence
metadata_refusal_by _ f = refusal.Registry f

-- the refusal of a registry's fault; an allocation failure is no fault of the bytes
abbrev pub metadata_refusal : RegistryFault → MetadataRefusal
metadata_refusal f = metadata_refusal_by f.reason f

-- the refusal of metadata whose names are not found
abbrev pub names_refusal : NamesFault → MetadataRefusal
names_refusal (names.TooLarge many) = refusal.TooLarge many
names_refusal (names.OutOfMemory refused) = refusal.Memory refused

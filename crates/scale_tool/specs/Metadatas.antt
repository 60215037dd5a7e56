-- The metadata that bytes are.
use Rattle.std.specs.Prelude.{◌≡◌, ℕ, List, length, Option, Some, None, Bool, false, Ok, Err}
use Rattle.std.specs.Prelude.{option_and_then, IfSome}
use Rattle.scale_core.specs.Read.{Read}
use Rattle.types_core.specs.declared.type_info.TypeInfo.{TypeInfo}
use Rattle.registry_core.specs.Reading.{metadata_at}
use Rattle.registry_core.specs.declared.fault.RegistryReason.{RegistryReason}
use Rattle.registry_core.specs.declared.version.Version.{Version}
use Rattle.graph_core.specs.References.{first_fault}
use Rattle.chain_core.specs.Unknown.{unknown_in}
use Rattle.scale_calls.specs.Named.{IsMetadata, Metadata, all_names, all_types, rest_in}
use Rattle.scale_calls.specs.NameLines.{AreLines}
use Rattle.scale_calls.specs.Opened.{types_by}

-- the second, unless the first is there
abbrev pub unless : {A B : Type 0} → Option A → Option B → Option B
unless None x = x
unless (Some fault) x = None

-- the metadata, if every reference is a position
abbrev pub checked_metadata : Metadata → Option Metadata
checked_metadata m = unless (unknown_in (length m.own) m.rest)
    (unless (first_fault m.own) (unless (first_fault (all_types m)) (Some m)))

-- the metadata that was read up to the end of its registry
abbrev pub metadata_from : Bool → Read RegistryReason (List TypeInfo × Version) → Option Metadata
metadata_from bits (Err e) = None
metadata_from bits (Ok x) = option_and_then (λ rest. checked_metadata
    (record { version = x.0.1; own = types_by bits x.0.0; rest = rest })) (rest_in x.0.1 x.1)

-- the metadata that these bytes are, with bits allowed or without
unfoldable pub metadata_of : Bool → List ℕ → Option Metadata
metadata_of bits bytes = metadata_from bits (metadata_at bytes)

-- the bytes are this metadata, if they are known
abbrev pub IsOpened : Bool → Option (List ℕ) → Metadata → Type 0
IsOpened bits registry x = IfSome registry (λ r. IsMetadata bits r x)

-- lines of some of the metadata's names, if the bytes are metadata
abbrev pub IsNamesText : List ℕ → Option (List ℕ) → Type 0
IsNamesText registry None = metadata_of false registry ≡ None
IsNamesText registry (Some text) =
    (x : Metadata) × IsMetadata false registry x × AreLines (all_names x) text

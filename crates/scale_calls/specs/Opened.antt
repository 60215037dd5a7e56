-- The registry that bytes hold, and why they hold none.
use Rattle.std.specs.Prelude.{◌≡◌, ◌<◌, ℕ, List, [], ◌∷◌, length, drop, Option, Some, None, Ok, Err}
use Rattle.std.specs.Prelude.{Bool, true, false, option_map, option_and_then, if◌then◌else◌}
use Rattle.types_core.specs.Bits.{with_bits}
use Rattle.scale_core.specs.Read.{Read, place}
use Rattle.registry_core.specs.Answers.{FaultAnswers}
use Rattle.registry_core.specs.Reading.{registry_at, metadata_at}
use Rattle.registry_core.specs.declared.fault.RegistryFault.{RegistryFault}
use Rattle.types_core.specs.declared.type_info.TypeInfo.{TypeInfo}
use Rattle.registry_core.specs.declared.version.Version.{Version}
use Rattle.graph_core.specs.References.{first_fault}
use Rattle.scale_calls.specs.declared.refusal.RegistryRefusal.{RegistryRefusal}
use Rattle.scale_calls.specs.declared.registry.OpenOptions.{OpenOptions}
use Rattle.scale_calls.specs.declared.refusal.RegistryRefusal.TheVariants as refusal

-- what is read, if nothing follows it
abbrev pub alone : {E X : Type 0} → Read E X → Option X
alone (Ok (x, [])) = Some x
alone (Ok (x, b ∷ bs)) = None
alone (Err e) = None

-- what is read, whatever follows it
abbrev pub in_front : {E X : Type 0} → Read E X → Option X
in_front (Ok x) = Some x.0
in_front (Err e) = None

-- the types of a registry's file: metadata, read only up to the end of its types, or a registry
-- alone
abbrev pub file_types : Bool → List ℕ → Option (List TypeInfo)
file_types true bytes = option_map (λ m. m.0) (in_front (metadata_at bytes))
file_types false bytes = alone (registry_at bytes)

abbrev pub types_by : Bool → List TypeInfo → List TypeInfo
types_by bits types = if bits then with_bits types else types

-- the types of a registry's file, with bits allowed or without
abbrev pub types_of : OpenOptions → List ℕ → Option (List TypeInfo)
types_of options bytes = option_map (types_by options.bits) (file_types options.metadata bytes)

-- the version of a registry's file, if it is metadata
abbrev pub file_version : Bool → List ℕ → Option Version
file_version true bytes = option_map (λ m. m.1) (in_front (metadata_at bytes))
file_version false bytes = None

-- where what is read ends, from the start of the input
abbrev pub end_of : {E X : Type 0} → List ℕ → Read E X → Option ℕ
end_of input (Ok x) = Some (place input x.1)
end_of input (Err e) = None

-- where the registry of a file ends
abbrev pub file_end : Bool → List ℕ → Option ℕ
file_end true bytes = end_of bytes (metadata_at bytes)
file_end false bytes = end_of bytes (registry_at bytes)

abbrev pub unless_fault : Option (ℕ × ℕ) → List TypeInfo → Option (List TypeInfo)
unless_fault None types = Some types
unless_fault (Some fault) types = None

-- the types of a registry's file, if every reference is a position
unfoldable pub checked_of : OpenOptions → List ℕ → Option (List TypeInfo)
checked_of options bytes =
    option_and_then (λ types. unless_fault (first_fault types) types) (types_of options bytes)

-- the first fault of a registry's file
abbrev pub IsFirstFault : Bool → List ℕ → RegistryFault → Type 0
IsFirstFault true bytes f = FaultAnswers bytes f (metadata_at bytes)
IsFirstFault false bytes f = FaultAnswers bytes f (registry_at bytes)

-- why no types are read: the first fault, or bytes after the registry, unless an allocation failed
abbrev pub RefusesTypes : OpenOptions → List ℕ → RegistryRefusal → Type 0
RefusesTypes options bytes (refusal.Fault f) = (types_of options bytes ≡ None)
    × IsFirstFault options.metadata bytes f
RefusesTypes options bytes (refusal.TrailingBytes at) = (types_of options bytes ≡ None)
    × (options.metadata ≡ false) × (at < length bytes)
    × ((types : List TypeInfo) × (registry_at bytes ≡ Ok (types, drop at bytes)))
RefusesTypes options bytes (refusal.Check unknown) = ⊥
RefusesTypes options bytes (refusal.TooLarge _) = ⊥
RefusesTypes options bytes (refusal.Memory _) = Unit {0}

-- why types are rejected: the first reference that is no position, unless an allocation failed
abbrev pub RefusesCheck : List TypeInfo → RegistryRefusal → Type 0
RefusesCheck types (refusal.Check unknown) = first_fault types ≡ Some (unknown.from, unknown.to)
RefusesCheck types (refusal.TooLarge _) = Unit {0}
RefusesCheck types (refusal.Memory _) = Unit {0}
RefusesCheck types (refusal.Fault f) = ⊥
RefusesCheck types (refusal.TrailingBytes at) = ⊥

-- why a registry's file is rejected
abbrev pub RefusesRegistry : OpenOptions → List ℕ → RegistryRefusal → Type 0
RefusesRegistry options bytes (refusal.Fault f) = (checked_of options bytes ≡ None)
    × IsFirstFault options.metadata bytes f
RefusesRegistry options bytes (refusal.TrailingBytes at) = (checked_of options bytes ≡ None)
    × (options.metadata ≡ false) × (at < length bytes)
    × ((types : List TypeInfo) × (registry_at bytes ≡ Ok (types, drop at bytes)))
RefusesRegistry options bytes (refusal.Check unknown) = (checked_of options bytes ≡ None)
    × ((types : List TypeInfo) × (types_of options bytes ≡ Some types)
    × (first_fault types ≡ Some (unknown.from, unknown.to)))
RefusesRegistry options bytes (refusal.TooLarge _) = Unit {0}
RefusesRegistry options bytes (refusal.Memory _) = Unit {0}

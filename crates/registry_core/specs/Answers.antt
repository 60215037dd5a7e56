-- What the readers of a complete registry return, compared with the reading.
use Rattle.std.specs.Prelude.{◌≡◌, ◌≢◌, ℕ, ◌≤◌, ◌⊎◌, List, length, drop, Result, Ok, Err}
use Rattle.growth_core.specs.Evidence.{evidence}
use Rattle.scale_core.specs.Read.{Read, place}
use Rattle.registry_core.specs.declared.fault.RegistryFault.{RegistryFault}
use Rattle.registry_core.specs.declared.fault.RegistryReason.{RegistryReason}
use Rattle.registry_core.specs.declared.fault.RegistryReason.TheVariants.{OutOfMemory}
use Rattle.types_core.specs.declared.type_info.TypeInfo.{TypeInfo}
use Rattle.registry_core.specs.declared.version.Version.{Version}

-- the answer if an allocation failed
abbrev pub out_of_memory : RegistryFault
out_of_memory = record { reason = OutOfMemory evidence; at = 0 }

-- the fault is the first one that reading meets, at its place, unless an allocation failed
abbrev pub FaultAnswers : {X : Type 0} → List ℕ → RegistryFault → Read RegistryReason X → Type 0
FaultAnswers input f read = (f ≡ out_of_memory)
    ⊎ ((left : List ℕ) × (read ≡ Err (f.reason, left)) × (f.at ≡ place input left)
    × (f.reason ≢ OutOfMemory evidence))

-- the registry and how many bytes it took, or the fault
abbrev pub RegistryAnswers : List ℕ → Result (List TypeInfo × ℕ) RegistryFault →
    Read RegistryReason (List TypeInfo) → Type 0
RegistryAnswers input (Ok x) read = (x.1 ≤ length input) × (read ≡ Ok (x.0, drop x.1 input))
RegistryAnswers input (Err f) read = FaultAnswers input f read

-- the registry, how many bytes it and the prefix took, and the version, or the fault
abbrev pub MetadataAnswers : List ℕ → Result (List TypeInfo × ℕ × Version) RegistryFault →
    Read RegistryReason (List TypeInfo × Version) → Type 0
MetadataAnswers input (Ok x) read = (x.1 ≤ length input) × (read ≡ Ok ((x.0, x.2), drop x.1 input))
MetadataAnswers input (Err f) read = FaultAnswers input f read

-- this answer, unless an allocation failed
abbrev pub IsUnlessMemory : {X : Type 0} → X → Result X RegistryFault → Type 0
IsUnlessMemory x (Ok y) = y ≡ x
IsUnlessMemory x (Err f) = f ≡ out_of_memory

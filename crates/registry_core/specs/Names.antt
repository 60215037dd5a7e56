-- How the faults of a registry are printed.
use Rattle.std.specs.Prelude.{ℕ, List, ◌++◌, codes, decimal}
use Rattle.registry_core.specs.declared.fault.RegistryFault.{RegistryFault}
use Rattle.registry_core.specs.declared.fault.RegistryReason.{RegistryReason}
use Rattle.registry_core.specs.declared.fault.RegistryReason.TheVariants as reason

-- the name of a reason
abbrev pub registry_reason_name : RegistryReason → List ℕ
registry_reason_name reason.Truncated = codes "Truncated"
registry_reason_name reason.BadUtf8 = codes "BadUtf8"
registry_reason_name reason.CompactNotShortest = codes "CompactNotShortest"
registry_reason_name reason.CompactTooLarge = codes "CompactTooLarge"
registry_reason_name reason.BadOption = codes "BadOption"
registry_reason_name reason.BadDefinition = codes "BadDefinition"
registry_reason_name reason.BadPrimitive = codes "BadPrimitive"
registry_reason_name reason.IdOutOfPlace = codes "IdOutOfPlace"
registry_reason_name reason.NotMetadata = codes "NotMetadata"
registry_reason_name reason.WrongVersion = codes "WrongVersion"
registry_reason_name (reason.OutOfMemory _) = codes "OutOfMemory"

-- a fault's reason and place
abbrev pub registry_fault_text : RegistryFault → List ℕ
registry_fault_text fault = registry_reason_name fault.reason ++ (codes " at " ++ decimal fault.at)

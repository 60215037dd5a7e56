-- The faults of the readers below, as the refusal of a call.
use Rattle.registry_core.specs.declared.fault.RegistryFault.{RegistryFault}
use Rattle.registry_core.specs.declared.fault.RegistryReason.{RegistryReason}
use Rattle.registry_core.specs.declared.fault.RegistryReason.TheVariants as registry
use Rattle.graph_core.specs.declared.fault.CheckFault.{CheckFault}
use Rattle.graph_core.specs.declared.fault.CheckFault.TheVariants as check
use Rattle.decode_core.specs.declared.fault.DecodeFault.{DecodeFault}
use Rattle.machine_core.specs.declared.reason.DecodeReason.{DecodeReason}
use Rattle.machine_core.specs.declared.reason.DecodeReason.TheVariants as reason
use Rattle.decode_core.specs.declared.fault.OpenFault.{OpenFault}
use Rattle.decode_core.specs.declared.fault.OpenFault.TheVariants as opening
use Rattle.scale_calls.specs.declared.refusal.RegistryRefusal.{RegistryRefusal}
use Rattle.scale_calls.specs.declared.refusal.RegistryRefusal.TheVariants as types
use Rattle.scale_calls.specs.declared.refusal.ValueRefusal.{ValueRefusal}
use Rattle.scale_calls.specs.declared.refusal.ValueRefusal.TheVariants as value

-- the refusal of a fault with this reason
abbrev pub registry_refusal_by : RegistryReason → RegistryFault → RegistryRefusal
registry_refusal_by (registry.OutOfMemory refused) f = types.Memory refused
registry_refusal_by _ f = types.Fault f

-- the refusal of a registry's fault; an allocation failure is no fault of the bytes
abbrev pub registry_refusal : RegistryFault → RegistryRefusal
registry_refusal f = registry_refusal_by f.reason f

-- the refusal of a check's fault; an allocation failure is no fault of the registry
abbrev pub check_refusal : CheckFault → RegistryRefusal
check_refusal (check.UnknownType from to) = types.Check (record { from = from.0; to = to.0 })
check_refusal (check.TooLarge many) = types.TooLarge many
check_refusal (check.OutOfMemory refused) = types.Memory refused

-- the refusal of a fault with this reason
abbrev pub value_refusal_by : DecodeReason → DecodeFault → ValueRefusal
value_refusal_by (reason.OutOfMemory refused) f = value.Memory refused
value_refusal_by _ f = value.Fault f

-- the refusal of a value's fault; an allocation failure is no fault of the bytes
abbrev pub value_refusal : DecodeFault → ValueRefusal
value_refusal f = value_refusal_by f.reason f

-- why no decoder is made
abbrev pub opening_refusal : OpenFault → ValueRefusal
opening_refusal opening.UnknownType = value.UnknownType
opening_refusal opening.LimitOutOfRange = value.LimitOutOfRange
opening_refusal (opening.OutOfMemory refused) = value.Memory refused

-- the refusal is about the bytes, and not about the type or the limits
abbrev pub IsOfBytes : ValueRefusal → Type 0
IsOfBytes value.UnknownType = ⊥
IsOfBytes value.LimitOutOfRange = ⊥
IsOfBytes _ = Unit {0}

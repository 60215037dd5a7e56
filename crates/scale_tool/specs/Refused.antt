-- Why each part of a job is rejected, as the refusal of the job, with its exit status and line.
use Rattle.std.specs.Prelude.{◌≡◌, ℕ}
use Rattle.growth_core.specs.Evidence.{evidence}
use Rattle.decode_core.specs.declared.stream.StreamFault.{StreamFault}
use Rattle.decode_core.specs.declared.stream.StreamFault.TheVariants as stream
use Rattle.registry_core.specs.declared.fault.RegistryFault.{RegistryFault}
use Rattle.registry_core.specs.declared.fault.RegistryReason.{RegistryReason}
use Rattle.registry_core.specs.declared.fault.RegistryReason.TheVariants as reason
use Rattle.scale_calls.specs.Refused.{opening_refusal, value_refusal}
use Rattle.scale_calls.specs.declared.metadata.MetadataRefusal.{MetadataRefusal}
use Rattle.scale_calls.specs.declared.metadata.MetadataRefusal.TheVariants as metadata
use Rattle.scale_calls.specs.declared.refusal.RegistryRefusal.{RegistryRefusal}
use Rattle.scale_calls.specs.declared.refusal.RegistryRefusal.TheVariants as types
use Rattle.scale_calls.specs.declared.refusal.ValueRefusal.{ValueRefusal}
use Rattle.scale_calls.specs.declared.refusal.ValueRefusal.TheVariants as value
use Rattle.hex_text.specs.declared.fault.HexRefusal.{HexRefusal}
use Rattle.hex_text.specs.declared.fault.HexRefusal.TheVariants as hex
use Rattle.scale_tool.specs.declared.refusal.Refusal.{Refusal}
use Rattle.scale_tool.specs.declared.refusal.Refusal.TheVariants as refusal

-- the exit status
abbrev pub status_of : Refusal → ℕ
status_of refusal.RegistryDevice = 3
status_of refusal.ValueDevice = 3
status_of refusal.OutputDevice = 3
status_of (refusal.TooLarge _) = 4
status_of (refusal.Memory _) = 4
status_of _ = 1

-- the input is rejected
abbrev pub IsRejected : Refusal → Type 0
IsRejected e = status_of e ≡ 1

-- a device failed
abbrev pub IsDevice : Refusal → Type 0
IsDevice e = status_of e ≡ 3

-- ---- registries

-- the refusal of the job
abbrev pub refusal_of_registry : RegistryRefusal → Refusal
refusal_of_registry (types.Fault fault) = refusal.Registry fault
refusal_of_registry (types.TrailingBytes at) = refusal.TrailingRegistry at
refusal_of_registry (types.Check unknown) = refusal.Check unknown
refusal_of_registry (types.TooLarge many) = refusal.TooLarge many
refusal_of_registry (types.Memory refused) = refusal.Memory refused

-- the refusal of a fault with this reason; an allocation failure is no fault of the bytes
abbrev pub refusal_of_reason : RegistryReason → RegistryFault → Refusal
refusal_of_reason (reason.OutOfMemory refused) fault = refusal.Memory refused
refusal_of_reason _ fault = refusal.Registry fault

-- the refusal of a job with names
abbrev pub refusal_of_metadata : MetadataRefusal → Refusal
refusal_of_metadata (metadata.Registry fault) = refusal_of_reason fault.reason fault
refusal_of_metadata (metadata.Rest fault) = refusal.Rest fault
refusal_of_metadata (metadata.TrailingBytes at) = refusal.TrailingRegistry at
refusal_of_metadata (metadata.UnknownReference ty at) = refusal.UnknownReference ty at
refusal_of_metadata (metadata.Check unknown) = refusal.Check unknown
refusal_of_metadata (metadata.TooLarge many) = refusal.TooLarge many
refusal_of_metadata (metadata.Memory refused) = refusal.Memory refused

-- the exit status if a registry's bytes are rejected
abbrev pub status_of_registry : RegistryRefusal → ℕ
status_of_registry e = status_of (refusal_of_registry e)

-- ---- values

-- the refusal of the job, if the bytes of a value are rejected
abbrev pub refusal_of_value : ValueRefusal → Refusal
refusal_of_value (value.Fault f) = refusal.Value f
refusal_of_value (value.TrailingBytes at) = refusal.TrailingValue at
refusal_of_value _ = refusal.Memory evidence

-- the same, if the bytes come from a reader
abbrev pub refusal_of_stream : StreamFault → Refusal
refusal_of_stream (stream.Open f) = refusal_of_value (opening_refusal f)
refusal_of_stream (stream.Decode f) = refusal_of_value (value_refusal f)
refusal_of_stream (stream.TrailingBytes at) = refusal.TrailingValue at
refusal_of_stream stream.Device = refusal.ValueDevice

-- the same, if digits give no bytes
abbrev pub refusal_of_hex : HexRefusal → Refusal
refusal_of_hex (hex.Fault f) = refusal.Hex f
refusal_of_hex (hex.Memory refused) = refusal.Memory refused

-- Answers as numbers.
use Rattle.std.specs.Prelude.{ℕ, nat_le, if◌then◌else◌, Option, Some, None}
use Rattle.registry_core.specs.Bytes.{version_byte}
use Rattle.registry_core.specs.declared.fault.RegistryReason.{RegistryReason}
use Rattle.registry_core.specs.declared.fault.RegistryReason.TheVariants as registry
use Rattle.registry_core.specs.declared.version.Version.{Version}
use Rattle.machine_core.specs.declared.reason.DecodeReason.{DecodeReason}
use Rattle.machine_core.specs.declared.reason.DecodeReason.TheVariants as reason
use Rattle.decode_core.specs.declared.decoder.Progress.{Progress}
use Rattle.decode_core.specs.declared.decoder.Progress.TheVariants as progress
use Rattle.scale_calls.specs.declared.metadata.MetadataRefusal.{MetadataRefusal}
use Rattle.scale_calls.specs.declared.metadata.MetadataRefusal.TheVariants as metadata
use Rattle.scale_calls.specs.declared.refusal.RegistryRefusal.{RegistryRefusal}
use Rattle.scale_calls.specs.declared.refusal.RegistryRefusal.TheVariants as types
use Rattle.scale_calls.specs.declared.refusal.ValueRefusal.{ValueRefusal}
use Rattle.scale_calls.specs.declared.refusal.ValueRefusal.TheVariants as value
use Rattle.value_core.specs.declared.build_fault.BuildFault.{BuildFault}
use Rattle.value_core.specs.declared.build_fault.BuildFault.TheVariants as fault
use Rattle.record_core.specs.declared.replaying.RecordFault.{RecordFault}
use Rattle.record_core.specs.declared.replaying.RecordFault.TheVariants as records
use Rattle.c_answers.specs.declared.answer.Answer.{Answer}

-- the number of a reason: from 101 for a registry's bytes, from 301 for a value's, and 3 for an
-- allocation failure
abbrev pub registry_code : RegistryReason → ℕ
registry_code registry.Truncated = 101
registry_code registry.BadUtf8 = 102
registry_code registry.CompactNotShortest = 103
registry_code registry.CompactTooLarge = 104
registry_code registry.BadOption = 105
registry_code registry.BadDefinition = 106
registry_code registry.BadPrimitive = 107
registry_code registry.IdOutOfPlace = 108
registry_code registry.NotMetadata = 109
registry_code registry.WrongVersion = 110
registry_code (registry.OutOfMemory _) = 3

abbrev pub value_code : DecodeReason → ℕ
value_code reason.Truncated = 301
value_code reason.BadBool = 302
value_code reason.BadChar = 303
value_code reason.BadUtf8 = 304
value_code reason.CompactNotShortest = 305
value_code reason.CompactTooLarge = 306
value_code reason.NoSuchVariant = 307
value_code reason.TooDeep = 308
value_code reason.NoFiniteValue = 309
value_code reason.BitSequence = 310
value_code reason.BadCompact = 311
value_code reason.TooLong = 312
value_code (reason.OutOfMemory _) = 3
value_code reason.UnusedBits = 314

-- a code alone, with a number, and with a place
abbrev pub plain : ℕ → Answer
plain code = record { code = code; from = 0; at = 0; length = 0 }

abbrev pub count_answer : ℕ → ℕ → Answer
count_answer code length = record { code = code; from = 0; at = 0; length = length }

-- the answer for a text of `len` bytes and memory for `room` bytes: it is written, or doesn't fit
abbrev pub text_answer : ℕ → ℕ → Answer
text_answer len room = count_answer (if nat_le len room then 0 else 2) len

-- an open registry: the version of its metadata, or 0 if it stands alone; where it ends; and how
-- many types it has
abbrev pub version_number : Option Version → ℕ
version_number None = 0
version_number (Some version) = version_byte version

abbrev pub opened_answer : Option Version → ℕ → ℕ → Answer
opened_answer version end types =
    record { code = 0; from = version_number version; at = end; length = types }

abbrev pub refused : ℕ → ℕ → Answer
refused code at = record { code = code; from = 0; at = at; length = 0 }

-- why there is no registry
abbrev pub registry_answer : RegistryRefusal → Answer
registry_answer (types.Fault fault) = refused (registry_code fault.reason) fault.at
registry_answer (types.TrailingBytes at) = refused 111 at
registry_answer (types.Check unknown) =
    record { code = 112; from = unknown.from; at = unknown.to; length = 0 }
registry_answer (types.TooLarge _) = plain 114
registry_answer (types.Memory _) = plain 3

-- why there is no value
abbrev pub value_answer : ValueRefusal → Answer
value_answer value.UnknownType = plain 201
value_answer value.LimitOutOfRange = plain 202
value_answer (value.Fault fault) = refused (value_code fault.reason) fault.at
value_answer (value.TrailingBytes at) = refused 313 at
value_answer (value.Memory _) = plain 3

-- why there is no metadata: what follows the registry is a value
abbrev pub metadata_answer : MetadataRefusal → Answer
metadata_answer (metadata.Registry fault) = registry_answer (types.Fault fault)
metadata_answer (metadata.Rest fault) = value_answer (value.Fault fault)
metadata_answer (metadata.TrailingBytes at) = registry_answer (types.TrailingBytes at)
metadata_answer (metadata.UnknownReference ty at) =
    record { code = 113; from = ty; at = at; length = 0 }
metadata_answer (metadata.Check unknown) = registry_answer (types.Check unknown)
metadata_answer (metadata.TooLarge many) = registry_answer (types.TooLarge many)
metadata_answer (metadata.Memory _) = plain 3

-- why records are no value: the builder's reasons, from 401 on
abbrev pub record_code : BuildFault → ℕ
record_code fault.TooDeep = 401
record_code fault.NoFiniteValue = 402
record_code fault.BitSequence = 403
record_code fault.BadCompact = 404
record_code fault.WrongKind = 405
record_code fault.OutOfRange = 406
record_code fault.NoSuchVariant = 407
record_code fault.UnfinishedValue = 408
record_code (fault.BadText valid) = 409
record_code fault.UnknownType = 201
record_code (fault.OutOfMemory _) = 3

abbrev pub opening_code : BuildFault → ℕ
opening_code fault.OutOfRange = 202
opening_code reason = record_code reason

abbrev pub rejected : ℕ → BuildFault → Answer
rejected at (fault.OutOfMemory _) = plain 3
rejected at reason = refused (record_code reason) at

abbrev pub records_answer : RecordFault → Answer
records_answer (records.Open reason) = plain (opening_code reason)
records_answer (records.Record at reason) = rejected at reason

-- the answer to a piece: more bytes are missing, or a value is complete
abbrev pub progress_answer : Progress → Answer
progress_answer progress.More = plain 1
progress_answer (progress.Done used) = count_answer 0 used

-- The reason of a fault, as the decoder reports it, and its name.
use Rattle.std.specs.Prelude.{ℕ, List, codes}
use Rattle.scale_core.specs.declared.fault.Reason.TheVariants as scale
use Rattle.grammar_core.specs.declared.form.StopReason.{StopReason}
use Rattle.grammar_core.specs.declared.form.StopReason.TheVariants as stop
use Rattle.grammar_core.specs.Reading.{Refusal, basic, no_such_variant, too_deep, no_finite_value}
use Rattle.grammar_core.specs.Reading.{bit_sequence, bad_compact}
use Rattle.machine_core.specs.declared.reason.DecodeReason.{DecodeReason}
use Rattle.machine_core.specs.declared.reason.DecodeReason.TheVariants as reason

abbrev pub reason_of : Refusal → DecodeReason
reason_of (basic scale.Truncated) = reason.Truncated
reason_of (basic scale.BadBool) = reason.BadBool
reason_of (basic scale.BadChar) = reason.BadChar
reason_of (basic scale.BadUtf8) = reason.BadUtf8
reason_of (basic scale.CompactNotShortest) = reason.CompactNotShortest
reason_of (basic scale.CompactTooLarge) = reason.CompactTooLarge
reason_of (basic scale.UnusedBits) = reason.UnusedBits
reason_of no_such_variant = reason.NoSuchVariant
reason_of too_deep = reason.TooDeep
reason_of no_finite_value = reason.NoFiniteValue
reason_of bit_sequence = reason.BitSequence
reason_of bad_compact = reason.BadCompact

-- the refusal of a walk that stops
abbrev pub stop_refusal : StopReason → Refusal
stop_refusal stop.TooDeep = too_deep
stop_refusal stop.NoFiniteValue = no_finite_value
stop_refusal stop.BitSequence = bit_sequence
stop_refusal stop.BadCompact = bad_compact

-- the name of a reason
abbrev pub reason_name : DecodeReason → List ℕ
reason_name reason.Truncated = codes "Truncated"
reason_name reason.BadBool = codes "BadBool"
reason_name reason.BadChar = codes "BadChar"
reason_name reason.BadUtf8 = codes "BadUtf8"
reason_name reason.CompactNotShortest = codes "CompactNotShortest"
reason_name reason.CompactTooLarge = codes "CompactTooLarge"
reason_name reason.UnusedBits = codes "UnusedBits"
reason_name reason.NoSuchVariant = codes "NoSuchVariant"
reason_name reason.TooDeep = codes "TooDeep"
reason_name reason.NoFiniteValue = codes "NoFiniteValue"
reason_name reason.BitSequence = codes "BitSequence"
reason_name reason.BadCompact = codes "BadCompact"
reason_name reason.TooLong = codes "TooLong"
reason_name (reason.OutOfMemory _) = codes "OutOfMemory"

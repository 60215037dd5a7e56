-- The length in front of an opaque value.
use Rattle.std.specs.Prelude.{ℕ, ◌+◌, List, length, nat_lt, if◌then◌else◌, Result, Ok, Err}
use Rattle.scale_core.specs.Read.{Read, compact_at, place}
use Rattle.scale_core.specs.declared.compact.Target.TheVariants.{U32}
use Rattle.scale_core.specs.declared.fault.Reason.{Reason}
use Rattle.grammar_core.specs.Reading.{basic}
use Rattle.machine_core.specs.Reasons.{reason_of}
use Rattle.machine_core.specs.declared.reason.DecodeReason.TheVariants as reason
use Rattle.scale_calls.specs.declared.refusal.ValueRefusal.{ValueRefusal}
use Rattle.scale_calls.specs.declared.refusal.ValueRefusal.TheVariants as value

-- where the value begins: after its length, which is that of all bytes after it; or the fault of
-- the length, too few bytes, or bytes that follow
abbrev pub start_after : List ℕ → Read Reason ℕ → Result ℕ ValueRefusal
start_after b (Err e) =
    Err (value.Fault (record { reason = reason_of (basic e.0); at = place b e.1 }))
start_after b (Ok x) =
    if nat_lt (length x.1) x.0 then Err
    (value.Fault (record { reason = reason.Truncated; at = length b }))
    else if nat_lt x.0 (length x.1) then Err (value.TrailingBytes (place b x.1 + x.0))
    else Ok (place b x.1)

-- where the value begins in all the bytes, or why they are rejected before it is read
abbrev pub opaque_start : List ℕ → Result ℕ ValueRefusal
opaque_start b = start_after b (compact_at U32 b)

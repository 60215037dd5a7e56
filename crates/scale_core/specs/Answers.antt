-- How a reader's answer agrees with the reading: the value and how many bytes it took, or the fault
-- and its place.
use Rattle.std.specs.Prelude.{◌≡◌, ℕ, ◌^◌, ◌≤◌, List, length, drop, Result, Ok, Err, nat_lt, ◌==◌}
use Rattle.std.specs.Prelude.{if◌then◌else◌}
use Rattle.scale_core.specs.Compact.{compact, target_bytes}
use Rattle.scale_core.specs.Read.{Read, place}
use Rattle.scale_core.specs.declared.compact.Target.{Target}
use Rattle.scale_core.specs.declared.fault.Fault.{Fault}
use Rattle.scale_core.specs.declared.fault.Reason.{Reason}
use Rattle.scale_core.specs.declared.fault.Reason.TheVariants.{Truncated, CompactNotShortest}
use Rattle.scale_core.specs.declared.fault.Reason.TheVariants.{CompactTooLarge}

abbrev pub Answers : {X Y : Type 0} → (X → Y) → List ℕ → Result (X × ℕ) Fault → Read Reason Y →
    Type 0
Answers view input (Ok x) read = (x.1 ≤ length input) × (read ≡ Ok (view x.0, drop x.1 input))
Answers view input (Err f) read = (left : List ℕ) × (read ≡ Err (f.reason, left))
    × (f.at ≡ place input left)

-- the fault of an input that ends too early
abbrev pub truncated_fault : List ℕ → Fault
truncated_fault input = record { reason = Truncated; at = length input }

-- the answer for a compact of len bytes that stands for n: both numbers, or why it is rejected
abbrev pub judged_compact : Target → ℕ → ℕ → Result (ℕ × ℕ) Fault
judged_compact m n len =
    if len == length (compact n) then
    (if nat_lt n (256 ^ target_bytes m) then Ok (n, len) else Err
    (record { reason = CompactTooLarge; at = 0 }))
    else Err (record { reason = CompactNotShortest; at = 0 })

-- Where a fault stands, from what it leaves.
use Rattle.std.proofs.Common.{◌≡◌, ℕ, ◌≤◌, List, ◌++◌, length, drop, Err, refl, ap, arith}
use Rattle.std.proofs.Common.{length-append}
use Rattle.std.proofs.lemmas.List.{drop_at}
use Rattle.scale_core.specs.Read.{Read, place}
use Rattle.scale_core.specs.declared.fault.Fault.{Fault as ScaleFault}
use Rattle.scale_core.specs.declared.fault.Reason.{Reason}
use Rattle.registry_core.specs.declared.reading.read_stop.ReadStop.{ReadStop}
use Rattle.registry_core.specs.declared.reading.read_stop.ReadStop.TheVariants.{Memory, Fault}
use Rattle.registry_core.specs.Gives.{StopsReading, IsFaultAt}
use Rattle.registry_core.specs.Laws.{IsAfter}
use Rattle.registry_core.specs.Reading.{registry_reason_of, lifted}
use Rattle.registry_core.proofs.Inside.{Inside, CutAtEnd}

-- what is within the bytes is no longer than they are
pub after-length : (b left : List ℕ) → IsAfter b left → length left ≤ length b
after-length b left h = omega (arith, ap (λ (x : List ℕ). length x) h.1, length-append h.0 left)

-- what a fault leaves stands after the fault's place
pub drop-place : (b left : List ℕ) → IsAfter b left → drop (place b left) b ≡ left
drop-place b left h =
    let len : place (h.0 ++ left) left ≡ length h.0 = omega (arith, length-append h.0 left) in
    rw (h.1, len) (drop_at h.0 left (length h.0) refl)

-- what an integer or a text leaves where it is refused is within the bytes
err_after : {X : Type 0} (b : List ℕ) (read : Read Reason X) (reason : Reason) (left : List ℕ) →
    Inside CutAtEnd b read → read ≡ Err (reason, left) → IsAfter b left
err_after b read reason left h e = (rw e at h).0

-- a number or a text that is refused, as a part of a registry
pub stops_at : {X : Type 0} (b : List ℕ) (fault : ScaleFault) (read : Read Reason X)
    (stop : ReadStop) →
    Inside CutAtEnd b read →
    (left : List ℕ) × (read ≡ Err (fault.reason, left)) × (fault.at ≡ place b left) →
    IsFaultAt (registry_reason_of fault.reason) (drop fault.at b) stop →
    StopsReading stop (lifted read)
stops_at b fault read (Memory _) h reported is = absurd is
stops_at b fault read (Fault reason left) h reported is =
    let same = drop-place b reported.0 (err_after b read fault.reason reported.0 h reported.1) in
    let from : left.now ≡ reported.0 = rw (is.1, reported.2) same in
    rw (reported.1, is.0, from) refl

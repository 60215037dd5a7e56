-- Two turns on a composite or a tuple and its one part, an array of u8 that a piece has whole.
use Rattle.std.proofs.Common.{◌≡◌, ℕ, ◌+◌, ◌-◌, List, [], length, length-take, take, drop}
use Rattle.std.proofs.Common.{Some, None, Ok, refl, ap, ◌∙◌, arith}
use Rattle.std.proofs.lemmas.List.{take_rest}
use Rattle.grammar_core.specs.Parts.{how_many_left}
use Rattle.grammar_core.specs.Cells.{fields_part}
use Rattle.grammar_core.specs.Preorder as head
use Rattle.grammar_core.specs.Tree as tree
use Rattle.grammar_core.specs.declared.form.Form.TheVariants as form
use Rattle.grammar_core.specs.declared.form.Next.TheVariants as next
use Rattle.value_core.specs.Built.{Built, next_layout, with_fields}
use Rattle.value_core.specs.Walked.{next_of}
use Rattle.value_core.specs.Wrapped.{Wraps}
use Rattle.machine_core.specs.NodeAdds.{IsAdded}
use Rattle.machine_core.specs.Running.{IsRunning}
use Rattle.machine_core.specs.Turned.{IsSound, StepReports, WholeReports, WholeTurnsReport}
use Rattle.machine_core.specs.declared.turned.Tried.TheVariants as tried
use Rattle.machine_core.proofs.steps.LengthAdding.{fields_read}
use Rattle.machine_core.proofs.steps.Moving.{moves_none, turn_goes_on, turn_nearer, wants_goes_on}
use Rattle.machine_core.proofs.steps.ByteArrays.{byte_array_read}
use Rattle.machine_core.proofs.steps.TurnReports.{bare_reports, bare_running}
use Rattle.machine_core.proofs.steps.TurnReports.{carry_none}
use Rattle.machine_core.proofs.steps.TurnReports.{of_fields}
use Rattle.machine_core.proofs.steps.Settling.{added_running, added_run}
use Rattle.machine_core.proofs.steps.TurnEffects.{added_count, added_same, added_steps}
use Rattle.machine_core.proofs.steps.MachineTurn.{at_next}

-- the composite or tuple is the first of the two nodes
pub fields_added : (b : Built) → next_of b.walk ≡ next.Wants form.Fields →
    IsAdded b (with_fields b) []
fields_added b wants = (
  (
    head.branch tree.fields (how_many_left (fields_part (next_layout b))),
    Some (fields_part (next_layout b)),
  ),
  fields_read b wants,
  refl,
)

-- the array is the second, by its bytes
array_added : (b new : Built) (piece : List ℕ) (len : ℕ) → Wraps b new piece len →
    IsAdded (with_fields b) new (take len piece)
array_added b new piece len w = (
  (head.leaf (tree.bytes (take len piece)), None),
  byte_array_read (with_fields b) len (take len piece) w.wants
      (omega (arith, length-take len piece, w.within)),
  w.is,
)

-- after both the decoder is in progress
pub wrapped_running : (b new : Built) (c piece : List ℕ) (len : ℕ) → IsRunning b c →
    next_of b.walk ≡ next.Wants form.Fields → b.run ≡ None → Wraps b new piece len →
    IsRunning new c
wrapped_running b new c piece len h wants closed w =
    let none = carry_none b c form.Fields h.carried wants (λ no. no) in
    rw none
    (added_running (with_fields b) new (take len piece)
    (at_next (with_fields b) (form.ByteArray len) w.wants)
    (added_run b (with_fields b) [] closed (fields_added b wants))
    (array_added b new piece len w))

-- they are two turns, of which the first takes no byte
pub wrapped_reports : (b new : Built) (c piece : List ℕ) (len start to : ℕ) →
    IsRunning b c → next_of b.walk ≡ next.Wants form.Fields →
    b.run ≡ None → Wraps b new piece len → to ≡ start + 2 →
    WholeTurnsReport (of_fields b c) (of_fields new c) piece start to 0 (tried.Added len)
wrapped_reports b new c piece len start to h wants closed w is =
    let mid = with_fields b in
    let first = fields_added b wants in
    let second = array_added b new piece len w in
    let none = carry_none b c form.Fields h.carried wants (λ no. no) in
    let closed_mid = added_run b mid [] closed first in
    let running : IsRunning mid c =
    bare_running {E = Unit {0}} b mid c form.Fields (Ok tt) h wants (λ no. no) closed first in
    let bare = bare_reports b mid c form.Fields h wants (λ no. no) closed first in
    let opened : StepReports (of_fields b c) (of_fields mid c) piece (Ok 0) =
    (omega arith, bare.0, bare.1) in
    let on : StepReports (of_fields b c) (of_fields mid c) (take (length piece - 0) (drop 0 piece))
    (Ok 0) = rw (take_rest piece 0) opened in
    let sound : IsSound (of_fields mid c) = record {
      begun = w.begun;
      frames = running.deep;
      carried = running.carried;
      run_next = running.run_next;
    } in
    let count = added_count b mid [] first in
    let added : WholeReports (of_fields mid c) (of_fields new c) piece (tried.Added len) =
    rw none (
      (
        w.within,
        added_same mid new [] [] (take len piece) second,
        added_steps mid new [] (take len piece) (take len piece)
            (at_next mid (form.ByteArray len) w.wants) closed_mid refl second,
      ),
      (refl, ap (λ (x : Built). x.run) w.is ∙ closed_mid),
    ) in
    record {
      before = of_fields mid c;
      within = omega arith;
      moves = (turn_goes_on (of_fields b c) (of_fields b c) (of_fields mid c) piece 0 0
          (omega arith) (moves_none (of_fields b c)) on).1;
      nearer = omega (arith, turn_nearer (of_fields b c) (of_fields mid c) piece 0 0 on);
      few = (omega (arith, is, count), omega (arith, is, count));
      sound = sound;
      reports = added;
      whole = λ done. wants_goes_on (of_fields b c) form.Fields wants done;
    }

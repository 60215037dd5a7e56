use Rattle.std.proofs.Common.{◌≡◌, [], drop}
use Rattle.value_core.specs.Walked.{elements_after}
use Rattle.form_core.specs.Fronts.{form_of_front}
use Rattle.machine_core.specs.Turned.{left_to_do}
use Rattle.machine_core.proofs.steps.Calls.{NodesSoFar}
use Rattle.machine_core.proofs.partial.Partial.repeat.Given as goal

abbrev pub invariant-elements : goal.invariant-elements
invariant-elements g l = record {
  piece : l.piece ≡ l.fn.piece;
  form : l.form ≡ l.fn.form;
  so_far : NodesSoFar l.fn.self l.self (form_of_front (g.F.LeafForm.front l.fn.form)) l.piece l.at
      l.fn.turns.so_far l.turns.so_far;
  empty : l.self.carry ≡ [];
  after : l.after ≡ elements_after l.self.built.walk;
}

abbrev pub decreases-elements : goal.decreases-elements
decreases-elements g l = left_to_do l.self (drop l.at l.piece)

use Rattle.std.proofs.Common.{◌≡◌, ◌≤◌, drop}
use Rattle.machine_core.specs.Turned.{CallSoFar, IsReady, left_to_do}
use Rattle.machine_core.proofs.partial.Partial.whole_turns.Given as goal

abbrev pub invariant-nodes : goal.invariant-nodes
invariant-nodes g l = record {
  piece : l.piece ≡ l.fn.piece;
  so_far : CallSoFar l.fn.self l.self l.piece l.at l.fn.turns.so_far l.turns.so_far;
  nearer : left_to_do l.self (drop l.at l.piece) ≤ left_to_do l.fn.self l.piece;
  ready : IsReady l.self;
}

abbrev pub decreases-nodes : goal.decreases-nodes
decreases-nodes g l = left_to_do l.self (drop l.at l.piece)

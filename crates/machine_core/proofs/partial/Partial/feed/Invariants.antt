use Rattle.std.proofs.Common.{◌≡◌, drop}
use Rattle.machine_core.specs.Turned.{left_to_do}
use Rattle.machine_core.specs.Turned.{CallSoFar}
use Rattle.machine_core.proofs.partial.Partial.feed.Given as goal

abbrev pub invariant-turns : goal.invariant-turns
invariant-turns g l = record {
  piece : l.piece ≡ l.fn.piece;
  so_far : CallSoFar l.fn.self l.self l.piece l.at l.fn.turns.so_far l.turns.so_far;
}

abbrev pub decreases-turns : goal.decreases-turns
decreases-turns g l = left_to_do l.self (drop l.at l.piece)

use Rattle.std.proofs.Common.{◌≡◌}
use Rattle.graph_core.proofs.ReadingOn.{FaultAhead}
use Rattle.graph_core.proofs.references.first_unknown.Given as goal

abbrev pub invariant-types : goal.invariant-types
invariant-types l = FaultAhead l.fn.graph.registry l.graph × (l.graph.cursor.types ≡ l.position)

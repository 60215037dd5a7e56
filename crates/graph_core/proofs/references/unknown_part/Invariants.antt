use Rattle.std.proofs.Common.{length}
use Rattle.graph_core.specs.Cursors.{parts_left}
use Rattle.graph_core.proofs.ReadingOn.{PartsSoFar}
use Rattle.graph_core.proofs.references.unknown_part.Given as goal

abbrev pub invariant-parts : goal.invariant-parts
invariant-parts l = PartsSoFar l.fn.graph l.graph

abbrev pub decreases-parts : goal.decreases-parts
decreases-parts l = length (parts_left l.graph)

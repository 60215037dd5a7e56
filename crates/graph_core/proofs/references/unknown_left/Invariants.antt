use Rattle.std.proofs.Common.{length}
use Rattle.graph_core.specs.Cursors.{arms_left}
use Rattle.graph_core.proofs.ReadingOn.{LeftSoFar}
use Rattle.graph_core.proofs.references.unknown_left.Given as goal

abbrev pub invariant-arms : goal.invariant-arms
invariant-arms l = LeftSoFar l.fn.graph l.graph

abbrev pub decreases-arms : goal.decreases-arms
decreases-arms l = length (arms_left l.graph)

use Rattle.widths_core.specs.Progress.{progress_of}
use Rattle.widths_core.proofs.PropagatesOne.{PropagatesSo}
use Rattle.widths_core.proofs.settling.Settling.propagate.Given as goal

abbrev pub invariant-references : goal.invariant-references
invariant-references l =
    PropagatesSo l.fn.graph.registry l.fn.graph l.graph (progress_of l.fn.self)
    (progress_of l.self)
    l.propagated l.found l.byte l.at

abbrev pub decreases-references : goal.decreases-references
decreases-references l = l.at

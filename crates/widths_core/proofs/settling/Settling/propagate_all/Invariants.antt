use Rattle.std.proofs.Common.{◌-◌, length}
use Rattle.widths_core.specs.Progress.{progress_of}
use Rattle.widths_core.proofs.PropagatesOne.{PropagatesSoFar}
use Rattle.widths_core.proofs.settling.Settling.propagate_all.Given as goal

abbrev pub invariant-propagated : goal.invariant-propagated
invariant-propagated l =
    PropagatesSoFar l.fn.graph.registry l.fn.graph l.graph (progress_of l.fn.self)
    (progress_of l.self)
    l.done

abbrev pub decreases-propagated : goal.decreases-propagated
decreases-propagated l = length l.fn.graph.registry - l.done

use Rattle.widths_core.specs.Progress.{progress_of}
use Rattle.widths_core.proofs.Ends.{BeginsTo}
use Rattle.widths_core.proofs.settling.Settling.begin.Given as goal

abbrev pub invariant-counters : goal.invariant-counters
invariant-counters l =
    BeginsTo l.fn.graph.registry (progress_of l.fn.self) (progress_of l.self) l.number

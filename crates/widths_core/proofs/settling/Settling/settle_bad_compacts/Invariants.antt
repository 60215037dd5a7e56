use Rattle.widths_core.specs.Progress.{progress_of}
use Rattle.widths_core.proofs.Ends.{SettlesBadTo}
use Rattle.widths_core.proofs.settling.Settling.settle_bad_compacts.Given as goal

abbrev pub invariant-counters : goal.invariant-counters
invariant-counters l = SettlesBadTo l.fn.graph.registry l.fn.graph.looks.listed.entries
    (progress_of l.fn.self) (progress_of l.self) l.number

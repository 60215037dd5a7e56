use Rattle.graph_core.proofs.SizesTo.{SizesTo}
use Rattle.graph_core.proofs.sizes.sizes_of.Given as goal

abbrev pub invariant-types : goal.invariant-types
invariant-types l =
    SizesTo l.fn.graph.registry l.position l.references l.arms l.widest l.graph

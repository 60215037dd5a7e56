use Rattle.graph_core.specs.Graphs.{refs}
use Rattle.widths_core.proofs.TypesLinked.{TypesLinkedTo}
use Rattle.widths_core.proofs.DraftsTo.{DraftsTo}
use Rattle.widths_core.proofs.linking.link_types.Given as goal

abbrev pub invariant-types : goal.invariant-types
invariant-types l = TypesLinkedTo l.fn.graph.registry l.position l.counters.items l.graph
    × DraftsTo l.fn.graph.registry (refs l.graph) l.rows l.position l.steps.items

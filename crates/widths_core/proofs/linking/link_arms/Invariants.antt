use Rattle.std.proofs.Common.{◌≡◌, [], drop}
use Rattle.graph_core.specs.Cursors.{arms_left, parts_left}
use Rattle.graph_core.specs.Graphs.{refs}
use Rattle.widths_core.proofs.ArmRules.{AddsArms}
use Rattle.widths_core.proofs.RowTo.{RowTo}
use Rattle.widths_core.proofs.linking.link_arms.Given as goal

abbrev pub invariant-arms : goal.invariant-arms
invariant-arms l = AddsArms l.owner l.position (arms_left l.fn.graph) l.fn.counters.items
    l.counters.items l.fn.graph l.graph
    × RowTo (refs l.graph) l.first l.position (arms_left l.fn.graph) l.fn.rows l.rows
    × (arms_left l.graph ≡ drop l.position (arms_left l.fn.graph)) × (parts_left l.graph ≡ [])

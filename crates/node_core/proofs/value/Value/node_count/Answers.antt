use Rattle.std.proofs.Common.{◌∙◌, ap, length}
use Rattle.grammar_core.specs.Tree.{nodes}
use Rattle.node_core.specs.Shown.{Seen}
use Rattle.node_core.proofs.CellsOf.{nodes_shown}
use Rattle.node_core.proofs.value.Value.node_count.Goals as goal

pub returns : goal.returns
returns g c = ap length c.as_slice.ensures.value
    ∙ nodes_shown _ _ c.self.inside.nodes.list.items c.self.invariant.0
    ∙ ap (λ (s : Seen). nodes s.tree) c.self.view_is

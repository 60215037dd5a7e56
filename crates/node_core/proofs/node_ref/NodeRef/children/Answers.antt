use Rattle.std.proofs.Common.{sym, ap, subst, ◌∙◌}
use Rattle.node_core.specs.Shown.{IsForest, all_seen, children_of}
use Rattle.node_core.proofs.Below.{below_at, below_seen_at}
use Rattle.node_core.proofs.node_ref.NodeRef.children.Goals as goal

pub new-requires : goal.new-requires
new-requires c = subst (IsForest c.self.inside.checked.now.types c.self.inside.pool.now)
    (sym c.split_at.ensures.back) (below_at _ _ c.self.inside.nodes.now c.self.invariant)

pub returns : goal.returns
returns c =
    c.new.ensures
    ∙ ap (all_seen c.self.inside.checked.now.types c.self.inside.pool.now) c.split_at.ensures.back
    ∙ below_seen_at _ _ c.self.inside.nodes.now c.self.invariant
    ∙ ap children_of c.self.view_is

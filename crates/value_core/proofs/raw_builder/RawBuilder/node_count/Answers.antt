use Rattle.std.proofs.Common.{subst}
use Rattle.value_core.specs.Begun.{IsBegun}
use Rattle.value_core.specs.Building.{pieces_shown}
use Rattle.value_core.proofs.Begun.{is_begun}
use Rattle.value_core.proofs.raw_builder.RawBuilder.node_count.Goals as goal

pub returns-clause-begun : goal.returns-clause-begun
returns-clause-begun g c =
    subst IsBegun c.self.view_is
    (is_begun c.self.inside.root.0 c.self.inside.walk c.self.inside.pool.list.items
    c.self.inside.nodes.list.items c.self.inside.text_len
    (pieces_shown c.self.inside.pool.list.items c.self.inside.open_run) c.self.inside.turns.so_far
    c.self.invariant.0 c.self.invariant.3 c.self.invariant.2)

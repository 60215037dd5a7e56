use Rattle.std.proofs.Common.{rules, ◌+◌, ◌-◌, ◌^◌, ◌<◌, length, ap, subst, arith}
use Rattle.value_core.specs.Begun.{IsBegun}
use Rattle.value_core.specs.Building.{IsOpenRun, pieces_shown}
use Rattle.node_core.specs.Shown.{all_kept}
use Rattle.value_core.proofs.Begun.{is_begun}
use Rattle.value_core.proofs.Leaves.{texts_kept}
use Rattle.value_core.proofs.raw_builder.RawBuilder.text_bytes.Goals as goal

pub returns-in-Some-clause-begun : goal.returns-in-Some-clause-begun
returns-in-Some-clause-begun g c =
    subst IsBegun c.self.view_is
    (is_begun c.self.inside.root.0 c.self.inside.walk c.self.inside.pool.list.items
    c.self.inside.nodes.list.items c.self.inside.text_len
    (pieces_shown c.self.inside.pool.list.items c.self.inside.open_run) c.self.inside.turns.so_far
    c.self.invariant.0 c.self.invariant.3 c.self.invariant.2)

pub returns-in-None-clause-begun : goal.returns-in-None-clause-begun
returns-in-None-clause-begun g c =
    subst IsBegun c.self.view_is
    (is_begun c.self.inside.root.0 c.self.inside.walk c.self.inside.pool.list.items
    c.self.inside.nodes.list.items c.self.inside.text_len
    (pieces_shown c.self.inside.pool.list.items c.self.inside.open_run) c.self.inside.turns.so_far
    c.self.invariant.0 c.self.invariant.3 c.self.invariant.2)

pub overflow_add-result : goal.overflow_add-result
overflow_add-result g c =
    let place = subst (IsOpenRun c.self.inside.walk c.self.inside.pool.list.items
    (all_kept c.self.inside.nodes.list.items)) c.in-Some.is c.self.invariant.1 in
    let small : length c.as_slice.result.now < 2 ^ 63 = search rules in
    let fits : c.self.inside.text_len + (length c.as_slice.result.now - c.in-Some.open.start)
    < 2 ^ 64 =
    omega (
      arith,
      small,
      ap length c.as_slice.ensures.value,
      place.behind,
      c.self.invariant.0.texts,
      texts_kept c.self.inside.pool.list.items c.self.inside.nodes.list.items,
    ) in
    search rules

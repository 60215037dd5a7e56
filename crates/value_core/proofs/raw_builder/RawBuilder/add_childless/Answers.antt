use Rattle.std.proofs.Common.{◌∙◌, ◌+◌, ℕ, length, refl, ap, []}
use Rattle.node_core.specs.Remaining.{left_of}
use Rattle.node_core.specs.Shown.{head_shown}
use Rattle.node_core.specs.declared.node.Node.{Node}
use Rattle.value_core.specs.Built.{Built}
use Rattle.value_core.proofs.AtOnce.{childless_by, childless_paid, childless_shows, sized_kept}
use Rattle.value_core.proofs.Closing.{none_open, settled_again, settled_paid, stays_exact}
use Rattle.value_core.proofs.raw_builder.RawBuilder.add_childless.Goals as goal

pub close_complete-requires : goal.close_complete-requires
close_complete-requires g c =
    let n : Node =
    record { ty = c.ty.result; children = c.args.left.count; content = c.args.content } in
    let b = childless_by n (left_of c.args.self.now.walk.types c.args.left) c.self.view_is
    c.self.invariant.0 c.requires.next c.ty.ensures c.requires.opened c.requires.none in (
      c.self.inside.root.0,
      c.self.inside.pool.list.items,
      c.self.inside.text_len,
      rw (c.advance.ensures, c.in_ok-append_node.ensures.ok, c.close.ensures) b.0,
    )

pub invariant_of-self-2 : goal.invariant_of-self-2
invariant_of-self-2 g c =
    let n : Node =
    record { ty = c.ty.result; children = c.args.left.count; content = c.args.content } in
    let b = childless_by n (left_of c.args.self.now.walk.types c.args.left) c.self.view_is
    c.self.invariant.0 c.requires.next c.ty.ensures c.requires.opened c.requires.none in
    let closed = none_open c.self.inside.pool.list.items c.self.inside.open_run
    (ap (λ (x : Built). x.run) c.self.view_is ∙ c.requires.closed) in (
      c.close_complete.ensures.settles.builds _ _ _
          (rw (
            c.advance.ensures,
            c.in_ok-append_node.ensures.ok,
            c.append_node.ensures.pool,
            c.close.ensures,
          ) b.0),
      stays_exact _ _ _ _ _ _ _ closed c.self.invariant.1
          (rw (
            c.close_complete.ensures.settles.kept,
            c.in_ok-append_node.ensures.ok,
            c.append_node.ensures.pool,
            c.close.ensures,
          )
          (ap (λ (k : ℕ). k + length c.self.inside.pool.list.items)
          (sized_kept c.args.self.now.walk c.self.inside.nodes.list.items n 1
          (left_of c.args.self.now.walk.types c.args.left) c.requires.next))),
      rw c.close_complete.ensures.walk (settled_again c.advance.new.self),
      settled_paid _ _ _ _ _ _ c.close_complete.ensures.settles c.close_complete.ensures.walk
          c.close_complete.ensures.turns
          (rw (
            c.advance.ensures,
            c.in_ok-append_node.ensures.ok,
            c.close.ensures,
            c.tick.ensures,
          )
          (childless_paid c.self.inside.walk c.self.inside.nodes.list.items _
          c.self.inside.turns.so_far c.self.invariant.3)),
    )

pub returns-clause-ok : goal.returns-clause-ok
returns-clause-ok g c =
    let n : Node =
    record { ty = c.ty.result; children = c.args.left.count; content = c.args.content } in
    let p = left_of c.args.self.now.walk.types c.args.left in
    let b = childless_by n p c.self.view_is c.self.invariant.0 c.requires.next c.ty.ensures
    c.requires.opened c.requires.none in
    rw (
      c.close_complete.ensures.turns,
      c.close_complete.ensures.walk,
      c.close_complete.ensures.settles.entries,
      c.advance.ensures,
      c.in_ok-append_node.ensures.ok,
      c.append_node.ensures.pool,
      c.close.ensures,
      c.tick.ensures,
      b.1,
    ) refl
    ∙ childless_shows c.ty.result.0 (head_shown [] c.args.left.count c.args.content) p
    c.self.view_is c.requires.next c.ty.ensures c.requires.none

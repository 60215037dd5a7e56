use Rattle.std.proofs.Common.{rules, ◌∙◌, ◌+◌, ◌^◌, ◌<◌, ◌∷◌, refl, ap, [], length}
use Rattle.grammar_core.specs.Parts.{each}
use Rattle.node_core.specs.Leaves.{leaf_head, leaf_text_bytes}
use Rattle.node_core.specs.Shown.{head_shown}
use Rattle.node_core.specs.declared.node.Node.{Node}
use Rattle.value_core.specs.Built.{Built}
use Rattle.value_core.proofs.AtOnce.{around_by, around_kept, around_paid, around_shows, begun_by}
use Rattle.value_core.proofs.Closing.{none_open, settled_again, settled_paid, stays_exact}
use Rattle.value_core.proofs.Leaves.{texts_fit}
use Rattle.value_core.proofs.raw_builder.RawBuilder.add_around.Goals as goal

pub overflow_add-self : goal.overflow_add-self
overflow_add-self g c =
    let small : length c.self.inside.pool.list.items < 2 ^ 63 = search rules in
    let fits = texts_fit _ _ c.args.leaf _ _ _ c.self.invariant.0 c.requires.fits small in
    search rules

pub close_complete-requires : goal.close_complete-requires
close_complete-requires g c =
    let n : Node = record { ty = c.ty.result; children = 1; content = c.args.content } in
    let b = around_by n c.args.part c.self.view_is c.self.invariant.0 c.requires.next c.ty.ensures
    c.requires.opened c.requires.leaf c.in_ok-content.ensures.ok in (
      c.self.inside.root.0,
      c.keep.new.pool.list.items,
      c.self.inside.text_len + leaf_text_bytes c.args.leaf,
      rw (
        c.advance.ensures,
        c.push_reserved-2.ensures.items,
        c.push_reserved.ensures.items,
        c.close.ensures,
      ) b.0,
    )

pub invariant_of-self-2 : goal.invariant_of-self-2
invariant_of-self-2 g c =
    let n : Node = record { ty = c.ty.result; children = 1; content = c.args.content } in
    let b = around_by n c.args.part c.self.view_is c.self.invariant.0 c.requires.next c.ty.ensures
    c.requires.opened c.requires.leaf c.in_ok-content.ensures.ok in
    let closed = none_open c.self.inside.pool.list.items c.self.inside.open_run
    (ap (λ (x : Built). x.run) c.self.view_is ∙ c.requires.closed) in (
      c.close_complete.ensures.settles.builds _ _ _
          (rw (
            c.advance.ensures,
            c.text_len.ensures,
            c.push_reserved-2.ensures.items,
            c.push_reserved.ensures.items,
            c.close.ensures,
          ) b.0),
      stays_exact _ _ _ _ _ _ _ closed c.self.invariant.1
          (rw (
            c.close_complete.ensures.settles.kept,
            c.push_reserved-2.ensures.items,
            c.push_reserved.ensures.items,
            c.close.ensures,
          )
          (around_kept c.args.self.now.walk c.self.inside.pool.list.items
          c.keep.new.pool.list.items c.self.inside.nodes.list.items n c.args.part c.args.leaf _
          (each (c.args.part.0 ∷ [])) c.requires.next c.in_ok-content.ensures.ok)),
      rw c.close_complete.ensures.walk (settled_again c.advance.new.self),
      settled_paid _ _ _ _ _ _ c.close_complete.ensures.settles c.close_complete.ensures.walk
          c.close_complete.ensures.turns
          (rw (
            c.advance.ensures,
            c.tick.ensures,
            c.push_reserved-2.ensures.items,
            c.push_reserved.ensures.items,
            c.close.ensures,
          )
          (around_paid c.self.inside.walk c.self.inside.nodes.list.items _ _
          c.self.inside.turns.so_far c.self.invariant.3)),
    )

pub returns-clause-yes : goal.returns-clause-yes
returns-clause-yes g c =
    let n : Node = record { ty = c.ty.result; children = 1; content = c.args.content } in
    let b = around_by n c.args.part c.self.view_is c.self.invariant.0 c.requires.next c.ty.ensures
    c.requires.opened c.requires.leaf c.in_ok-content.ensures.ok in
    let closed = none_open c.self.inside.pool.list.items c.self.inside.open_run
    (ap (λ (x : Built). x.run) c.self.view_is ∙ c.requires.closed) in
    λ _.
    rw (
      c.close_complete.ensures.turns,
      c.close_complete.ensures.walk,
      c.close_complete.ensures.settles.entries,
      c.advance.ensures,
      c.tick.ensures,
      c.push_reserved-2.ensures.items,
      c.push_reserved.ensures.items,
      c.close.ensures,
      b.1,
      closed,
    ) refl
    ∙ around_shows c.ty.result.0 c.args.part.0 (head_shown [] 1 c.args.content)
    (leaf_head c.args.leaf) c.self.view_is c.requires.next c.ty.ensures

pub returns-clause-begun : goal.returns-clause-begun
returns-clause-begun g c =
    let n : Node = record { ty = c.ty.result; children = 1; content = c.args.content } in
    λ _.
    begun_by n c.args.part.0 c.self.view_is c.self.invariant.0 c.requires.next c.ty.ensures
    c.requires.opened c.self.invariant.3

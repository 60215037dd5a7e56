use Rattle.std.proofs.Common.{◌≡◌, ◌∙◌, ◌+◌, ℕ, sym, ap, subst, [], length}
use Rattle.value_core.specs.Built.{Built, IsNextOpen}
use Rattle.node_core.specs.Remaining.{left_of}
use Rattle.node_core.specs.Shown.{head_shown}
use Rattle.node_core.specs.declared.node.Node.{Node}
use Rattle.value_core.proofs.Ahead.{type_at}
use Rattle.value_core.proofs.Adding.{open_added, open_kept}
use Rattle.value_core.proofs.Closing.{none_open, open_paid, settled_again, settled_paid}
use Rattle.value_core.proofs.Closing.{stays_exact}
use Rattle.value_core.proofs.raw_builder.RawBuilder.add_open.Goals as goal

pub close_complete-requires : goal.close_complete-requires
close_complete-requires g c =
    let l : IsNextOpen c.self.inside.walk (head_shown [] c.args.left.count c.args.content)
    (left_of c.self.inside.walk.types c.args.left) =
    subst (λ (b : Built). IsNextOpen b.walk (head_shown [] c.args.left.count c.args.content)
    (left_of b.walk.types c.args.left)) (sym c.self.view_is) c.requires.next in
    let n : Node = record {
      ty = c.ty-ty.result;
      children = c.args.left.count;
      content = c.args.content;
    } in
    let at : n.ty.0 ≡ l.ty = type_at c.self.inside.walk n.ty.0 l.ty l.next c.ty-ty.ensures in
    let b = open_added c.self.inside.root.0 c.self.inside.walk c.self.inside.pool.list.items
    c.self.inside.nodes.list.items n c.self.inside.text_len
    (left_of c.self.inside.walk.types c.args.left) c.self.invariant.0 l at c.requires.opened in (
      c.self.inside.root.0,
      c.self.inside.pool.list.items,
      c.self.inside.text_len,
      rw (
        c.in_ok-enter.ensures.ok,
        c.push_reserved.ensures.items,
        c.as_slice.ensures.value,
        c.room_for_node.ensures.nodes,
      ) b,
    )

pub invariant_of-self-2 : goal.invariant_of-self-2
invariant_of-self-2 g c =
    let l : IsNextOpen c.self.inside.walk (head_shown [] c.args.left.count c.args.content)
    (left_of c.self.inside.walk.types c.args.left) =
    subst (λ (b : Built). IsNextOpen b.walk (head_shown [] c.args.left.count c.args.content)
    (left_of b.walk.types c.args.left)) (sym c.self.view_is) c.requires.next in
    let n : Node = record {
      ty = c.ty-ty.result;
      children = c.args.left.count;
      content = c.args.content;
    } in
    let at : n.ty.0 ≡ l.ty = type_at c.self.inside.walk n.ty.0 l.ty l.next c.ty-ty.ensures in
    let b = open_added c.self.inside.root.0 c.self.inside.walk c.self.inside.pool.list.items
    c.self.inside.nodes.list.items n c.self.inside.text_len
    (left_of c.self.inside.walk.types c.args.left) c.self.invariant.0 l at c.requires.opened in
    let closed = none_open c.self.inside.pool.list.items c.self.inside.open_run
    (ap (λ (b : Built). b.run) c.self.view_is ∙ c.requires.closed) in (
      c.close_complete.ensures.settles.builds _ _ _
          (rw (
            c.in_ok-enter.ensures.ok,
            c.push_reserved.ensures.items,
            c.as_slice.ensures.value,
            c.room_for_node.ensures.nodes,
            c.room_for_node.ensures.pool,
          ) b),
      stays_exact _ _ _ _ _ _ _ closed c.self.invariant.1
          (rw (
            c.close_complete.ensures.settles.kept,
            c.push_reserved.ensures.items,
            c.room_for_node.ensures.nodes,
            c.room_for_node.ensures.pool,
          )
          (ap (λ (k : ℕ). k + length c.self.inside.pool.list.items)
          (open_kept c.self.inside.walk c.self.inside.nodes.list.items n
          (left_of c.self.inside.walk.types c.args.left) l))),
      rw c.close_complete.ensures.walk (settled_again c.enter.new.self),
      settled_paid _ _ _ _ _ _ c.close_complete.ensures.settles c.close_complete.ensures.walk
          c.close_complete.ensures.turns
          (rw (
            c.in_ok-enter.ensures.ok,
            c.push_reserved.ensures.items,
            c.room_for_node.ensures.nodes,
          )
          (open_paid c.self.inside.walk c.self.inside.nodes.list.items n
          (length c.self.inside.nodes.list.items) c.self.inside.turns.so_far
          (left_of c.self.inside.walk.types c.args.left) c.self.invariant.3)),
    )

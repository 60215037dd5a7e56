use Rattle.std.proofs.Common.{rules, ◌+◌, ◌^◌, ◌<◌, length, ◌∙◌, sym, ap, subst, refl}
use Rattle.value_core.specs.Built.{Built, IsNextLeaf, with_leaf}
use Rattle.node_core.specs.Leaves.{leaf_head, leaf_text_bytes}
use Rattle.value_core.proofs.Closing.{none_open, settled_again, settled_paid, stays_exact}
use Rattle.value_core.proofs.Leaves.{leaf_appended, texts_fit}
use Rattle.value_core.proofs.raw_builder.RawBuilder.add_leaf.Goals as goal

pub close_complete-requires : goal.close_complete-requires
close_complete-requires g c =
    let l : IsNextLeaf c.self.inside.walk (leaf_head c.args.leaf) =
    subst (λ (b : Built). IsNextLeaf b.walk (leaf_head c.args.leaf)) (sym c.self.view_is)
    c.requires.next in
    let with = leaf_appended c.self.inside.root.0 c.self.inside.walk c.args.leaf
    c.self.inside.pool.list.items c.append.new.pool.list.items c.self.inside.nodes.list.items
    c.append.new.nodes.list.items c.self.inside.text_len c.ty-next.result c.self.invariant.0 l
    c.ty-next.ensures c.in_ok-append.ensures.ok in (
      c.self.inside.root.0,
      c.append.new.pool.list.items,
      c.self.inside.text_len + leaf_text_bytes c.args.leaf,
      rw c.advance.ensures with.builds,
    )

pub invariant_of-self-2 : goal.invariant_of-self-2
invariant_of-self-2 g c =
    let l : IsNextLeaf c.self.inside.walk (leaf_head c.args.leaf) =
    subst (λ (b : Built). IsNextLeaf b.walk (leaf_head c.args.leaf)) (sym c.self.view_is)
    c.requires.next in
    let with = leaf_appended c.self.inside.root.0 c.self.inside.walk c.args.leaf
    c.self.inside.pool.list.items c.append.new.pool.list.items c.self.inside.nodes.list.items
    c.append.new.nodes.list.items c.self.inside.text_len c.ty-next.result c.self.invariant.0 l
    c.ty-next.ensures c.in_ok-append.ensures.ok in
    let closed = none_open c.self.inside.pool.list.items c.self.inside.open_run
    (ap (λ (b : Built). b.run) c.self.view_is ∙ c.requires.closed) in (
      c.close_complete.ensures.settles.builds _ _ _
          (rw (c.advance.ensures, c.text_len.ensures) with.builds),
      stays_exact _ _ _ _ _ _ _ closed c.self.invariant.1
          (rw c.close_complete.ensures.settles.kept with.kept),
      rw c.close_complete.ensures.walk (settled_again c.advance.new.self),
      settled_paid _ _ _ _ _ _ c.close_complete.ensures.settles c.close_complete.ensures.walk
          c.close_complete.ensures.turns
          (rw c.advance.ensures
          (with.paid c.self.inside.turns.so_far c.self.invariant.3)),
    )

pub returns-clause-ok : goal.returns-clause-ok
returns-clause-ok g c =
    let l : IsNextLeaf c.self.inside.walk (leaf_head c.args.leaf) =
    subst (λ (b : Built). IsNextLeaf b.walk (leaf_head c.args.leaf)) (sym c.self.view_is)
    c.requires.next in
    let with = leaf_appended c.self.inside.root.0 c.self.inside.walk c.args.leaf
    c.self.inside.pool.list.items c.append.new.pool.list.items c.self.inside.nodes.list.items
    c.append.new.nodes.list.items c.self.inside.text_len c.ty-next.result c.self.invariant.0 l
    c.ty-next.ensures c.in_ok-append.ensures.ok in
    let closed = none_open c.self.inside.pool.list.items c.self.inside.open_run
    (ap (λ (b : Built). b.run) c.self.view_is ∙ c.requires.closed) in
    rw (
      c.close_complete.ensures.turns,
      c.close_complete.ensures.walk,
      c.close_complete.ensures.settles.entries,
      c.advance.ensures,
      with.entries,
      l.next,
      closed,
    ) refl
    ∙ ap (λ (b : Built). with_leaf b (leaf_head c.args.leaf)) c.self.view_is

pub overflow_add-self : goal.overflow_add-self
overflow_add-self g c =
    let small : length c.self.inside.pool.list.items < 2 ^ 63 = search rules in
    let fits = texts_fit c.self.inside.root.0 c.self.inside.walk c.args.leaf
    c.self.inside.pool.list.items c.self.inside.nodes.list.items c.self.inside.text_len
    c.self.invariant.0 c.requires.fits small in
    search rules

use Rattle.std.proofs.Common.{rules, ◌≡◌, ◌^◌, ◌<◌, ◌≤◌, length, ◌∙◌, sym, ap, subst, refl}
use Rattle.value_core.specs.Built.{Built, IsNextLeaf, with_leaf}
use Rattle.value_core.specs.Walked.{advanced, elements_after, next_of}
use Rattle.node_core.specs.Leaves.{leaf_head}
use Rattle.value_core.proofs.Closing.{none_open, stays_exact}
use Rattle.value_core.proofs.Elements.{next_again, none_closed, stays_open}
use Rattle.value_core.proofs.Leaves.{leaf_appended, texts_fit}
use Rattle.value_core.proofs.raw_builder.RawBuilder.add_element.Goals as goal

pub invariant_of-self-2 : goal.invariant_of-self-2
invariant_of-self-2 g c =
    let l : IsNextLeaf c.self.inside.walk (leaf_head c.args.leaf) =
    subst (λ (b : Built). IsNextLeaf b.walk (leaf_head c.args.leaf)) (sym c.self.view_is)
    c.requires.next in
    let with = leaf_appended c.self.inside.root.0 c.self.inside.walk c.args.leaf
    c.self.inside.pool.list.items c.append.new.pool.list.items c.self.inside.nodes.list.items
    c.append.new.nodes.list.items c.self.inside.text_len c.ty-ty.result c.self.invariant.0 l
    c.ty-ty.ensures c.in_ok-append.ensures.ok in
    let follows : 1 ≤ elements_after c.self.inside.walk =
    subst (λ (b : Built). 1 ≤ elements_after b.walk) (sym c.self.view_is) c.requires.follows in
    let closed = none_open c.self.inside.pool.list.items c.self.inside.open_run
    (ap (λ (b : Built). b.run) c.self.view_is ∙ c.requires.closed) in (
      rw (c.pass_element.ensures, c.text_len.ensures) with.builds,
      stays_exact _ _ _ _ _ _ _ closed c.self.invariant.1 with.kept,
      rw (c.pass_element.ensures, stays_open c.self.inside.walk.frames follows) refl,
      rw c.pass_element.ensures (with.paid c.self.inside.turns.so_far c.self.invariant.3),
    )

pub returns-clause-ok : goal.returns-clause-ok
returns-clause-ok g c =
    let follows : 1 ≤ elements_after c.self.inside.walk =
    subst (λ (b : Built). 1 ≤ elements_after b.walk) (sym c.self.view_is) c.requires.follows in
    let closed = none_open c.self.inside.pool.list.items c.self.inside.open_run
    (ap (λ (b : Built). b.run) c.self.view_is ∙ c.requires.closed) in
    let l : IsNextLeaf c.self.inside.walk (leaf_head c.args.leaf) =
    subst (λ (b : Built). IsNextLeaf b.walk (leaf_head c.args.leaf)) (sym c.self.view_is)
    c.requires.next in
    let with = leaf_appended c.self.inside.root.0 c.self.inside.walk c.args.leaf
    c.self.inside.pool.list.items c.append.new.pool.list.items c.self.inside.nodes.list.items
    c.append.new.nodes.list.items c.self.inside.text_len c.ty-ty.result c.self.invariant.0 l
    c.ty-ty.ensures c.in_ok-append.ensures.ok in
    rw (
      none_closed c.self.inside.walk.frames c.self.inside.turns.so_far follows,
      stays_open c.self.inside.walk.frames follows,
      c.pass_element.ensures,
      with.entries,
      l.next,
      closed,
    ) refl
    ∙ ap (λ (b : Built). with_leaf b (leaf_head c.args.leaf)) c.self.view_is

pub returns-clause-next : goal.returns-clause-next
returns-clause-next g c =
    rw c.pass_element.ensures
    (subst (λ (b : Built). next_of (advanced c.self.inside.walk) ≡ next_of b.walk) c.self.view_is
    (next_again c.self.inside.walk
    (subst (λ (b : Built). 1 ≤ elements_after b.walk) (sym c.self.view_is) c.requires.follows)))

pub overflow_add-self : goal.overflow_add-self
overflow_add-self g c =
    let small : length c.self.inside.pool.list.items < 2 ^ 63 = search rules in
    let fits = texts_fit c.self.inside.root.0 c.self.inside.walk c.args.leaf
    c.self.inside.pool.list.items c.self.inside.nodes.list.items c.self.inside.text_len
    c.self.invariant.0 c.requires.fits small in
    search rules

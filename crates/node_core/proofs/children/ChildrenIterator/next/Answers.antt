use Rattle.std.proofs.Common.{rules, sym, subst, ◌∙◌, refl}
use Rattle.node_core.specs.Shown.{IsWhole, IsForest}
use Rattle.node_core.proofs.Below.{first_at}
use Rattle.node_core.proofs.children.ChildrenIterator.next.Goals as goal

pub split_at-requires : goal.split_at-requires
split_at-requires c =
    rw c.size.ensures (first_at _ _ c.self.inside.nodes.now c.in_ok-first.first.now
    (sym c.in_ok-first.ensures.value) c.self.invariant).within

pub new-requires : goal.new-requires
new-requires c = subst (IsWhole c.self.inside.checked.now.types c.self.inside.pool.now)
    (sym c.split_at.ensures.front)
    (rw c.size.ensures (first_at _ _ c.self.inside.nodes.now c.in_ok-first.first.now
    (sym c.in_ok-first.ensures.value) c.self.invariant).whole)

pub invariant_of-self : goal.invariant_of-self
invariant_of-self c = subst (IsForest c.self.inside.checked.now.types c.self.inside.pool.now)
    (sym c.split_at.ensures.back)
    (rw c.size.ensures (first_at _ _ c.self.inside.nodes.now c.in_ok-first.first.now
    (sym c.in_ok-first.ensures.value) c.self.invariant).rest)

pub returns-clause-steps : goal.returns-clause-steps
returns-clause-steps c =
    let f = first_at _ _ c.self.inside.nodes.now c.in_ok-first.first.now
    (sym c.in_ok-first.ensures.value) c.self.invariant in
    sym c.self.view_is ∙ f.steps
    ∙ sym (rw (
      c.new.ensures,
      c.split_at.ensures.front,
      c.split_at.ensures.back,
      c.size.ensures,
    ) refl)

pub returns-clause-goes : goal.returns-clause-goes
returns-clause-goes c =
    let steps = returns-clause-steps c in
    record { on = λ _. (tt, tt, rw steps (search rules)); keeps = tt; rests = λ _. tt }

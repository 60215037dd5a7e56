use Rattle.std.proofs.Common.{◌≡◌, ◌∙◌, Some, subst, sym, ap}
use Rattle.grammar_core.specs.Parts.{how_many_left}
use Rattle.grammar_core.specs.Preorder.{branch}
use Rattle.grammar_core.specs.Tree.{arm}
use Rattle.value_core.specs.Built.{IsNextOpen, with_open}
use Rattle.node_core.specs.Remaining.{left_of}
use Rattle.value_core.specs.Opened.{OpensArm}
use Rattle.value_core.specs.Walked.{Walked}
use Rattle.value_core.proofs.NextOpen.{arm_found, arm_next, with_arm_is}
use Rattle.value_core.proofs.raw_builder.RawBuilder.add_arm.Goals as goal

pub add_open-requires-clause-next : goal.add_open-requires-clause-next
add_open-requires-clause-next g c =
    let w = c.args.self.now.walk in
    let part = left_of w.types c.in-Some.left in
    let counted : how_many_left part ≡ c.in-Some.left.count =
    subst (λ (v : Walked). how_many_left (left_of v.types c.in-Some.left) ≡ c.in-Some.left.count)
    c.walk.ensures.same c.in-Some.ensures.counts in
    let opens : OpensArm w c.args.index (Some (c.in-Some.position, part)) =
    subst (λ (v : Walked). OpensArm v c.args.index
    (Some (c.in-Some.position, left_of v.types c.in-Some.left))) c.walk.ensures.same
    c.in-Some.ensures.opens in
    subst (λ n. IsNextOpen w (branch (arm c.in-Some.position) n) part) counted
    (arm_next w c.args.index c.in-Some.position part c.ranges.index.fits c.requires.next opens)

pub returns-clause-ok : goal.returns-clause-ok
returns-clause-ok g c e =
    let b = c.args.self.now in
    let part = left_of b.walk.types c.in-Some.left in
    let counted : how_many_left part ≡ c.in-Some.left.count =
    subst (λ (v : Walked). how_many_left (left_of v.types c.in-Some.left) ≡ c.in-Some.left.count)
    c.walk.ensures.same c.in-Some.ensures.counts in
    let opens : OpensArm b.walk c.args.index (Some (c.in-Some.position, part)) =
    subst (λ (v : Walked). OpensArm v c.args.index
    (Some (c.in-Some.position, left_of v.types c.in-Some.left))) c.walk.ensures.same
    c.in-Some.ensures.opens in
    c.in_ok-add_open.ensures.ok
    ∙ ap (λ n. with_open b (branch (arm c.in-Some.position) n) part) (sym counted)
    ∙ with_arm_is b c.args.index c.in-Some.position part opens

pub returns-clause-found : goal.returns-clause-found
returns-clause-found g c =
    let b = c.args.self.now in
    let opens : OpensArm b.walk c.args.index
    (Some (c.in-Some.position, left_of b.walk.types c.in-Some.left)) =
    subst (λ (v : Walked). OpensArm v c.args.index
    (Some (c.in-Some.position, left_of v.types c.in-Some.left))) c.walk.ensures.same
    c.in-Some.ensures.opens in
    sym (arm_found b c.args.index (Some (c.in-Some.position, left_of b.walk.types c.in-Some.left))
    opens)

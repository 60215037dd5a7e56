use Rattle.std.proofs.Common.{◌≡◌, Some, None, refl, sym, ◌∙◌, rules, arith}
use Rattle.graph_core.specs.Cursors.{next_arm, arm_outline}
use Rattle.graph_core.proofs.Cursors.{arm_none, arm_begun, arm_bound}
use Rattle.graph_core.proofs.graph.Graph.next_arm.Goals as goal

pub returns-in_err-arm : goal.returns-in_err-arm
returns-in_err-arm c =
    let none : c.from_residual.result ≡ None = search rules in
    let is : c.arm.result ≡ None = search rules in
    arm_none c.args.self.now c.from_residual.result none
    (none ∙ sym is ∙ c.arm.ensures.found) c.requires

-- there is an arm
some : (c : goal.In_ok-arm) →
    Some (c.in_ok-arm.arm.0, c.in_ok-arm.arm.1) ≡ arm_outline (next_arm c.args.self.now)
some c =
    let is : c.arm.result ≡ Some c.in_ok-arm.arm = search rules in
    sym is ∙ c.arm.ensures.found

pub overflow_add-self : goal.overflow_add-self
overflow_add-self c =
    let small = arm_bound c.args.self.now c.in_ok-arm.arm.0 c.in_ok-arm.arm.1 c.arm.ensures.fits
    (some c) in omega (arith, small)

pub returns : goal.returns
returns c =
    let is : c.arm.result ≡ Some c.in_ok-arm.arm = search rules in
    arm_begun c.args.self.now _ c.in_ok-arm.arm.0 c.in_ok-arm.arm.1 (sym is ∙ c.arm.ensures.found)
    c.requires refl refl refl refl refl (record { newest = refl; links = refl; members = refl })

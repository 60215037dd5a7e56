use Rattle.std.proofs.Common.{◌∙◌, Ok, ap, sym}
use Rattle.std.proofs.lemmas.Result.{err_from_is_err_and}
use Rattle.machine_core.proofs.steps.LengthAdding.{arm_added, arm_refused, arm_spelled}
use Rattle.machine_core.proofs.node.add_arm.Goals as goal

pub returns : goal.returns
returns g c =
    arm_added c.args.builder.now c.add_arm.new.self c.args.own.now c.requires.next c.requires.whole
    (sym c.in_ok-add_arm.ensures.found ∙ c.if-not-branch.false)
    (c.in_ok-add_arm.ensures.ok (ap Ok c.if-not-branch.false))

pub returns-in_err-add_arm : goal.returns-in_err-add_arm
returns-in_err-add_arm g c =
    let p = err_from_is_err_and c.from_residual.result c.from_residual.ensures.1 in
    rw (p.1, p.2) (
      arm_spelled c.args.builder.now c.args.own.now c.requires.next c.requires.whole
          c.in_err-add_arm.ensures.memory,
      c.in_err-add_arm.ensures.err,
    )

pub returns-then-not-branch : goal.returns-then-not-branch
returns-then-not-branch g c = (
  arm_refused c.args.builder.now c.args.own.now c.requires.next c.requires.whole
      (sym c.in_ok-add_arm.ensures.found ∙ c.if-not-branch.true),
  c.in_ok-add_arm.ensures.none (ap Ok c.if-not-branch.true),
)

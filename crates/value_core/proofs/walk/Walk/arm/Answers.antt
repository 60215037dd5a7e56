use Rattle.std.proofs.Common.{None, Some, subst}
use Rattle.widths_core.specs.Arms.{arm_at}
use Rattle.widths_core.specs.Steps.{IsArm, references_of}
use Rattle.grammar_core.specs.declared.form.Form.TheVariants as form
use Rattle.value_core.proofs.Ahead.{found_arm_opens, found_arm_counts, type_wanted}
use Rattle.value_core.proofs.walk.Walk.arm.Goals as goal

pub returns-in_err-arm-clause-opens : goal.returns-in_err-arm-clause-opens
returns-in_err-arm-clause-opens g c =
    rw c.from_residual.ensures (found_arm_opens c.args.self.now c.ty.result.0
    c.args.index None c.requires (type_wanted c.args.self.now
    form.Arm c.ty.result.0 c.requires c.ty.ensures)
    (rw c.checked.ensures at c.in_err-arm.ensures))

pub returns-clause-opens : goal.returns-clause-opens
returns-clause-opens g c =
    rw c.members.ensures (found_arm_opens c.args.self.now c.ty.result.0 c.args.index
    (Some c.in_ok-arm.arm) c.requires (type_wanted c.args.self.now
    form.Arm c.ty.result.0 c.requires c.ty.ensures)
    (subst (λ r. IsArm (references_of r) (Some c.in_ok-arm.arm)
    (arm_at r c.ty.result.0 c.args.index)) c.checked.ensures c.in_ok-arm.ensures))

pub returns-clause-counts : goal.returns-clause-counts
returns-clause-counts g c = rw c.members.ensures (found_arm_counts c.args.self.now c.in_ok-arm.arm
    (arm_at c.args.self.now.types c.ty.result.0 c.args.index)
    (subst (λ r. IsArm (references_of r) (Some c.in_ok-arm.arm)
    (arm_at r c.ty.result.0 c.args.index)) c.checked.ensures c.in_ok-arm.ensures))

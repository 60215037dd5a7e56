use Rattle.std.proofs.Common.{◌+◌, ◌∙◌, List, arith, subst, sym}
use Rattle.value_core.specs.OpenNodes.{open_path}
use Rattle.scaleview_c.proofs.Steps.{ArePut, all_stand, not_past, put_next}
use Rattle.scaleview_c.specs.declared.paths.StepRecord.{StepRecord}
use Rattle.scaleview_c.proofs.paths.put_steps.Goals.{in-Some, in_default}
use Rattle.scaleview_c.proofs.paths.put_steps.Goals as goal

pub steps-preserved : goal.steps-preserved
steps-preserved c = elim c.match-step.branch [
  | in-Some w ↦
      let xs = open_path c.args.path.now in
      subst (λ (rs : List StepRecord). ArePut xs c.args.steps.now rs (c.steps.i + 1))
      (sym w.steps-is)
      (put_next xs c.args.steps.now c.steps.steps c.steps.i w.in-Some.step w.of_step.result
      c.steps.invariant (omega (arith, c.requires, c.len-i-end.ensures.len))
      (sym c.step.ensures ∙ w.in-Some.is) w.of_step.ensures)
  | in_default w ↦ not_past (open_path c.args.path.now) c.steps.i
      (sym w.in_default.is ∙ c.step.ensures)
      (omega (arith, c.len-i-end.ensures.len))
]

pub returns : goal.returns
returns c = all_stand (open_path c.args.path.now) c.args.steps.now c.steps.steps c.steps.i
    c.steps.invariant (omega (arith, c.len-i-end.ensures.len))

use Rattle.value_core.specs.OpenNodes.{open_path}
use Rattle.scaleview_c.proofs.Steps.{ArePut}
use Rattle.scaleview_c.proofs.paths.put_steps.Given as goal

abbrev pub invariant-steps : goal.invariant-steps
invariant-steps l = ArePut (open_path l.path) l.fn.steps l.steps l.i

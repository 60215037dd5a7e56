use Rattle.std.proofs.Common.{Err, rules}
use Rattle.growth_core.specs.Evidence.{evidence}
use Rattle.scale_calls.specs.declared.refusal.ValueRefusal.TheVariants as value
use Rattle.scaleview_c.proofs.nodes.write_nodes.Goals as goal

pub returns-in-Err : goal.returns-in-Err
returns-in-Err c = (
  Err (value.Memory evidence),
  tt,
  record { same_nodes = search rules; same_pool = search rules; reports = search rules },
)

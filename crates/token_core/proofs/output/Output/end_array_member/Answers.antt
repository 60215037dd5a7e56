use Rattle.std.proofs.Common.{◌∙◌}
use Rattle.std.proofs.lemmas.Result.{on_ok_weaker}
use Rattle.token_core.proofs.Outputs.{array_member_ended}
use Rattle.token_core.proofs.output.Output.end_array_member.Goals as goal

pub returns : goal.returns
returns g c = on_ok_weaker c.put.result (λ e. e ∙ array_member_ended c.args.self.now) c.put.ensures

use Rattle.std.proofs.Common.{refl}
use Rattle.json.specs.Token.{end_object}
use Rattle.token_core.proofs.Outputs.{ended}
use Rattle.token_core.proofs.output.Output.end_object.Goals as goal

pub returns : goal.returns
returns g c = ended c.put.result c.args.self.now _ end_object refl c.put.ensures

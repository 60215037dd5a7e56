use Rattle.std.proofs.Common.{refl}
use Rattle.json.specs.Token.{end_array}
use Rattle.token_core.proofs.Outputs.{ended}
use Rattle.token_core.proofs.output.Output.end_array.Goals as goal

pub returns : goal.returns
returns g c = ended c.put.result c.args.self.now _ end_array refl c.put.ensures

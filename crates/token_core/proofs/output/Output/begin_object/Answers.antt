use Rattle.std.proofs.Common.{refl}
use Rattle.json.specs.Token.{begin_object}
use Rattle.token_core.proofs.Outputs.{begun}
use Rattle.token_core.proofs.output.Output.begin_object.Goals as goal

pub returns : goal.returns
returns g c = begun c.put.result c.args.self.now _ _ begin_object refl refl c.put.ensures

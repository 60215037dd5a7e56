use Rattle.std.proofs.Common.{refl}
use Rattle.json.specs.Token.{null}
use Rattle.token_core.proofs.Outputs.{begun}
use Rattle.token_core.proofs.output.Output.null.Goals as goal

pub returns : goal.returns
returns g c = begun c.put.result c.args.self.now _ _ null refl refl c.put.ensures

use Rattle.std.proofs.Common.{refl}
use Rattle.json.specs.Token.{key}
use Rattle.token_core.proofs.Outputs.{begun, plain_key}
use Rattle.token_core.proofs.output.Output.key.Goals as goal

pub returns-in-None : goal.returns-in-None
returns-in-None g c = begun c.put_plain.result c.args.self.now _ _
    (key c.args.name.now) (plain_key c.args.name.now (rw c.in-None.is at c.requires)) refl
    c.put_plain.ensures

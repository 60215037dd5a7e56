use Rattle.std.proofs.Common.{refl}
use Rattle.json.specs.Token.{string}
use Rattle.token_core.proofs.Outputs.{begun, plain_string}
use Rattle.token_core.proofs.output.Output.string.Goals as goal

pub returns-then-is_plain : goal.returns-then-is_plain
returns-then-is_plain g c = begun c.put_plain.result c.args.self.now _ _
    (string c.args.text.now) (plain_string c.args.text.now c.if-is_plain.ensures) refl
    c.put_plain.ensures

pub returns-else-is_plain : goal.returns-else-is_plain
returns-else-is_plain g c = begun c.put_escaped.result c.args.self.now _ _
    (string c.args.text.now) refl refl c.put_escaped.ensures

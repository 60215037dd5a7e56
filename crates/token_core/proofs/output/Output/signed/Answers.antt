use Rattle.std.proofs.Common.{refl, ap, ◌∙◌, rules}
use Rattle.std.specs.Int.{w64}
use Rattle.std.proofs.lemmas.Int.{to_z-of_z}
use Rattle.std.specs.Fmt.{signed_decimal}
use Rattle.json.specs.Token.{number}
use Rattle.token_core.proofs.Outputs.{begun}
use Rattle.token_core.proofs.output.Output.signed.Goals as goal

pub returns : goal.returns
returns g c = begun c.put.result c.args.self.now _ _ (number (signed_decimal c.args.n))
    (c.format.ensures.text ∙ ap signed_decimal (to_z-of_z w64 c.args.n (search rules))) refl
    c.put.ensures

use Rattle.std.proofs.Common.{◌∷◌, [], ◌++◌, refl, ap, ◌∙◌, rules}
use Rattle.std.specs.Int.{w128}
use Rattle.std.proofs.lemmas.Int.{to_z-of_z}
use Rattle.std.specs.Fmt.{signed_decimal}
use Rattle.json.specs.Token.{string}
use Rattle.token_core.proofs.Outputs.{begun, plain_string, escape_signed}
use Rattle.token_core.proofs.output.Output.quoted_signed.Goals as goal

pub returns : goal.returns
returns g c = begun c.put_plain.result c.args.self.now _ _ (string (signed_decimal c.args.n))
    (ap (λ s. 34 ∷ (s ++ 34 ∷ [])) (c.format.ensures.text
    ∙ ap signed_decimal (to_z-of_z w128 c.args.n (search rules)))
    ∙ plain_string (signed_decimal c.args.n) (escape_signed c.args.n (search rules))) refl
    c.put_plain.ensures

use Rattle.std.proofs.Common.{[], ◌∷◌, ap, ◌∙◌}
use Rattle.std.proofs.lemmas.Result.{on_ok_weaker}
use Rattle.json.specs.Token.{begin_object, begin_array, key}
use Rattle.token_core.specs.Tokens.{Text, prints}
use Rattle.token_core.proofs.Outputs.{first_array, prints_again}
use Rattle.token_core.proofs.output.Output.begin_array_member.Goals as goal

pub returns-in-None : goal.returns-in-None
returns-in-None g c = on_ok_weaker c.put_plain.result
    (λ e. e ∙ first_array c.args.self.now c.args.name.now (rw c.in-None.is at c.requires))
    c.put_plain.ensures

pub returns : goal.returns
returns g c =
    let w = c.args.self.now in
    let k = key c.args.name.now in
    let begun = c.in_ok-escaped_key.ensures
    ∙ ap (λ (v : Text). prints v (k ∷ [])) c.in_ok-begin_object.ensures
    ∙ prints_again w (begin_object ∷ []) (k ∷ []) in
    on_ok_weaker c.begin_array.result (λ e. e ∙ ap (λ (v : Text). prints v (begin_array ∷ [])) begun
    ∙ prints_again w (begin_object ∷ k ∷ []) (begin_array ∷ [])) c.begin_array.ensures

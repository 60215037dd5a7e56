use Rattle.std.proofs.Common.{[], ◌∷◌, ap, ◌∙◌}
use Rattle.std.proofs.lemmas.Result.{on_ok_weaker}
use Rattle.json.specs.Token.{begin_object, key}
use Rattle.token_core.specs.Tokens.{prints}
use Rattle.token_core.proofs.Outputs.{first_key, prints_again}
use Rattle.token_core.proofs.output.Output.begin_member.Goals as goal

pub returns-in-None : goal.returns-in-None
returns-in-None g c = on_ok_weaker c.put_plain.result
    (λ e. e ∙ first_key c.args.self.now c.args.name.now (rw c.in-None.is at c.requires))
    c.put_plain.ensures

pub returns : goal.returns
returns g c = on_ok_weaker c.escaped_key.result (λ e. e
    ∙ ap (λ w. prints w (key c.args.name.now ∷ [])) c.in_ok-begin_object.ensures
    ∙ prints_again c.args.self.now (begin_object ∷ []) (key c.args.name.now ∷ []))
    c.escaped_key.ensures

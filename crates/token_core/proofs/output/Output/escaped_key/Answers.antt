use Rattle.std.proofs.Common.{◌∷◌, [], ap, ◌∙◌}
use Rattle.std.proofs.lemmas.Result.{on_ok_weaker}
use Rattle.token_core.specs.Tokens.{put}
use Rattle.token_core.specs.declared.output.Role.TheVariants as role
use Rattle.token_core.proofs.Outputs.{escaped_key}
use Rattle.token_core.proofs.output.Output.escaped_key.Goals as goal

pub returns : goal.returns
returns g c = on_ok_weaker c.put.result (λ e. e
    ∙ ap (λ w. put w role.Opening (58 ∷ [])) c.in_ok-put_escaped.ensures
    ∙ escaped_key c.args.self.now c.args.name.now) c.put.ensures

use Rattle.std.proofs.Common.{◌≡◌, refl, sym, ap, ◌∙◌}
use Rattle.json.specs.Token.{boolean}
use Rattle.json.specs.Print.{token_text}
use Rattle.token_core.proofs.Outputs.{begun}
use Rattle.token_core.proofs.output.Output.boolean.Goals.{then-x, else-x}
use Rattle.token_core.proofs.output.Output.boolean.Goals as goal

pub returns : goal.returns
returns g c =
    let says : c.if-x.put.now ≡ token_text (boolean c.args.x) = elim c.if-x.branch [
      | then-x w ↦ ap (λ s. s.now) w.put-is ∙ ap (λ b. token_text (boolean b)) (sym w.if-x.true)
      | else-x w ↦ ap (λ s. s.now) w.put-is ∙ ap (λ b. token_text (boolean b)) (sym w.if-x.false)
    ] in
    begun c.put.result c.args.self.now _ _ (boolean c.args.x) says refl c.put.ensures

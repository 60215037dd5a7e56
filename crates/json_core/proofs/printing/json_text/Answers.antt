use Rattle.std.proofs.Common.{ap, ◌∙◌}
use Rattle.json.specs.Tree.{json_tokens}
use Rattle.serde_json.specs.Written.{outline}
use Rattle.serde_json.proofs.Texts.{print-outline}
use Rattle.json_core.specs.Json.{json_seen, json_text}
use Rattle.token_core.specs.Tokens.{prints}
use Rattle.json_core.proofs.printing.json_text.Goals as goal

pub returns : goal.returns
returns g c =
    let shown = json_seen c.root.result in
    let said = c.in_ok-write_node.ensures
    ∙ ap (λ w. prints w (json_tokens (outline shown))) c.in_ok-out.ensures in
    c.into_text.ensures ∙ ap (λ w. w.text) said ∙ print-outline shown
    ∙ ap json_text c.root.ensures.same

use Rattle.std.proofs.Common.{Bool, refl, subst}
use Rattle.std.specs.Prelude.{IsAscii, MatchBool}
use Rattle.std.specs.Str.{IsNotAscii}
use Rattle.std.proofs.lemmas.Str.{IsUtf8-from_ascii}
use Rattle.form_core.proofs.runs.is_text.Goals as goal

pub returns-then-is_ascii : goal.returns-then-is_ascii
returns-then-is_ascii c =
    let bytes = c.args.bytes.now in
    let ascii : IsAscii bytes = subst (λ (b : Bool). MatchBool b (IsAscii bytes) (IsNotAscii bytes))
    c.if-is_ascii.true c.is_ascii.ensures.cases in
    (λ yes. IsUtf8-from_ascii bytes ascii, λ valid. refl)

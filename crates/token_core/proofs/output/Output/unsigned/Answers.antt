use Rattle.std.proofs.Common.{decimal, refl, rules}
use Rattle.std.proofs.lemmas.Fmt.{IsAscii-decimal}
use Rattle.std.proofs.lemmas.Str.{IsUtf8-from_ascii}
use Rattle.json.specs.Token.{number}
use Rattle.json.proofs.Printed.Places.{Placed-then}
use Rattle.token_core.proofs.Outputs.{appended, token_after, utf8_after}
use Rattle.token_core.proofs.output.Output.unsigned.Goals as goal

pub invariant_of-self-2 : goal.invariant_of-self-2
invariant_of-self-2 g c = utf8_after _ (appended c.self.invariant.0
    c.in_ok-ensure_bytes.ensures.same
    c.in_ok-ensure_bytes.ensures.kept c.as_mut_slice-buffer.ensures.value
    c.as_mut_slice-buffer.ensures.len
    (Placed-then c.place_comma-at.ensures c.place_decimal-self-inside.ensures))
    c.self.invariant.1 (IsUtf8-from_ascii _ (IsAscii-decimal c.args.n (search rules)))

pub returns : goal.returns
returns g c = token_after _ (appended c.self.invariant.0 c.in_ok-ensure_bytes.ensures.same
    c.in_ok-ensure_bytes.ensures.kept c.as_mut_slice-buffer.ensures.value
    c.as_mut_slice-buffer.ensures.len
    (Placed-then c.place_comma-at.ensures c.place_decimal-self-inside.ensures))
    c.args.self.now (number (decimal c.args.n)) c.self.view_is refl refl

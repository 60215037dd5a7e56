use Rattle.std.proofs.Common.{true, sym, subst}
use Rattle.json.specs.Filled.{Placed}
use Rattle.json.specs.Written.{PlainBetween}
use Rattle.json.proofs.Printed.Plain.{escape_on_plain}
use Rattle.token_core.proofs.strings.place_escaped.Goals as goal

pub returns-then-is_plain_16 : goal.returns-then-is_plain_16
returns-then-is_plain_16 c =
    let bytes = c.args.bytes.now in
    let plain = subst (PlainBetween bytes 0) (sym c.if-bytes-eq-BLOCK.true)
    c.if-is_plain_16.ensures in
    subst (λ l. Placed c.args.buffer.now c.place_bytes.new.buffer c.args.at l c.place_bytes.result)
    (sym (escape_on_plain true bytes plain)) c.place_bytes.ensures.placed

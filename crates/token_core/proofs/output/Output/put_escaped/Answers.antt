use Rattle.json.proofs.Printed.Utf8.{IsUtf8-quoted}
use Rattle.token_core.proofs.Outputs.{utf8_after}
use Rattle.token_core.proofs.output.Output.put_escaped.Goals as goal

pub invariant_of-self-2 : goal.invariant_of-self-2
invariant_of-self-2 g c = utf8_after _ c.in_ok-self-inside.ensures.ok c.self.invariant.1
    (IsUtf8-quoted c.as_bytes.result.now c.as_bytes.ensures.utf8)

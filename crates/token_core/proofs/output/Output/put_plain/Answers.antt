use Rattle.std.proofs.lemmas.Str.{IsUtf8-append}
use Rattle.json.proofs.Printed.Places.{Placed-then}
use Rattle.token_core.proofs.Outputs.{appended, utf8_after}
use Rattle.token_core.proofs.output.Output.put_plain.Goals as goal

pub invariant_of-self-2 : goal.invariant_of-self-2
invariant_of-self-2 g c = utf8_after _ (appended c.self.invariant.0
    c.in_ok-ensure_bytes.ensures.same
    c.in_ok-ensure_bytes.ensures.kept c.as_mut_slice-buffer.ensures.value
    c.as_mut_slice-buffer.ensures.len
    (Placed-then c.place_comma-at.ensures c.place_between-self-inside.ensures.placed))
    c.self.invariant.1 (IsUtf8-append _ _ c.as_bytes-opening.ensures.utf8
    (IsUtf8-append _ _ c.as_bytes.ensures.utf8 c.as_bytes-closing.ensures.utf8))

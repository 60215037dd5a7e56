use Rattle.json.proofs.Printed.Places.{Placed-then}
use Rattle.token_core.proofs.Outputs.{appended, utf8_after}
use Rattle.token_core.proofs.output.Output.put.Goals as goal

pub invariant_of-self-2 : goal.invariant_of-self-2
invariant_of-self-2 g c = utf8_after _ (appended c.self.invariant.0
    c.in_ok-ensure_bytes.ensures.same
    c.in_ok-ensure_bytes.ensures.kept c.as_mut_slice-buffer.ensures.value
    c.as_mut_slice-buffer.ensures.len
    (Placed-then c.place_comma-at.ensures c.place_bytes-self-inside.ensures.placed))
    c.self.invariant.1 c.as_bytes.ensures.utf8

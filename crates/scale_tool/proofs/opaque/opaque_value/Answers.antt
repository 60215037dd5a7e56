use Rattle.std.proofs.Common.{◌-◌, arith, drop, length, length-drop, sym}
use Rattle.std.proofs.lemmas.List.{take_all}
use Rattle.decode_core.specs.Streaming.{query_of}
use Rattle.scale_tool.proofs.FileValues.{rejects_opaque}
use Rattle.scale_tool.proofs.opaque.opaque_value.Goals as goal

pub returns-in-Err-clause-reads : goal.returns-in-Err-clause-reads
returns-in-Err-clause-reads g c =
    let b = c.args.bytes.now in
    let start = c.in_ok-start.start in
    rw c.placed_after.ensures (rejects_opaque _
    (query_of c.args.checked.now.types c.args.job.id c.args.job.limits) b _ start
    c.in-Err.refusal (sym c.in_ok-start.ensures.exact)
    (take_all (length b - start) (drop start b) (omega (arith, length-drop start b)))
    c.in-Err.ensures)

use Rattle.std.proofs.Common.{ap}
use Rattle.decode_core.specs.declared.fault.DecodeFault.{DecodeFault}
use Rattle.scale_calls.proofs.metadata.read_rest.Goals as goal

pub returns-in-Err-Fault-clause-err : goal.returns-in-Err-Fault-clause-err
returns-in-Err-Fault-clause-err c =
    let h = rw c.in-Err-Fault.field-0-is at c.in-Err-Fault.ensures in
    let k = rw (c.requires.same, c.rest_root.ensures) at h in
    let fault = c.in-Err-Fault.fault in (
      k.1,
      (
        fault,
        ap (λ n. let f : DecodeFault = record { reason = fault.reason; at = n } in f)
            c.shifted.ensures,
        k.2,
      ),
    )

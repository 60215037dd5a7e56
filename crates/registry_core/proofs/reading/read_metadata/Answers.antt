use Rattle.std.proofs.Common.{arith}
use Rattle.registry_core.proofs.Registries.{metadata_is}
use Rattle.registry_core.proofs.Whole.{ok_within, ok_exact, ok_found, ok_only}
use Rattle.registry_core.proofs.Whole.{err_within, err_exact, err_only}
use Rattle.registry_core.proofs.reading.read_metadata.Goals as goal
use Rattle.scale_core.proofs.ReadModes.{are_bytes}

pub overflow_sub-result : goal.overflow_sub-result
overflow_sub-result c =
    ok_within metadata_is c.args.bytes.now (c.in-Ok.registry, c.in-Ok.version) c.in-Ok.rest.now
    c.in-Ok.ensures

pub into_fault-requires : goal.into_fault-requires
into_fault-requires c = err_within metadata_is c.args.bytes.now c.in-Err.stop c.in-Err.ensures

pub returns-in-Ok-clause-exact : goal.returns-in-Ok-clause-exact
returns-in-Ok-clause-exact c =
    ok_exact metadata_is c.args.bytes.now (c.in-Ok.registry, c.in-Ok.version) c.in-Ok.rest.now
    c.in-Ok.ensures

pub returns-in-Ok-clause-found : goal.returns-in-Ok-clause-found
returns-in-Ok-clause-found c =
    ok_found metadata_is c.args.bytes.now (c.in-Ok.registry, c.in-Ok.version) c.in-Ok.rest.now
    (are_bytes c.args.bytes.now (λ i. omega (arith, c.type_inv.bytes i))) c.in-Ok.ensures

pub returns-in-Ok-clause-only : goal.returns-in-Ok-clause-only
returns-in-Ok-clause-only c = λ types version rest.
    ok_only metadata_is (λ m n. (m.0, n, m.1)) c.args.bytes.now
    (c.in-Ok.registry, c.in-Ok.version) c.in-Ok.rest.now c.in-Ok.ensures (types, version) rest

pub returns-in-Err-clause-exact : goal.returns-in-Err-clause-exact
returns-in-Err-clause-exact c = rw c.into_fault.ensures
    (err_exact metadata_is c.args.bytes.now c.in-Err.stop c.in-Err.ensures)

pub returns-in-Err-clause-only : goal.returns-in-Err-clause-only
returns-in-Err-clause-only c = λ types version rest. rw c.into_fault.ensures
    (err_only metadata_is c.args.bytes.now c.in-Err.stop c.in-Err.ensures (types, version) rest)

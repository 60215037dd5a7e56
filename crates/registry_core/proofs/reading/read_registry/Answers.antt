use Rattle.std.proofs.Common.{arith}
use Rattle.registry_core.proofs.Registries.{registry_is}
use Rattle.registry_core.proofs.Whole.{ok_within, ok_exact, ok_found, ok_only}
use Rattle.registry_core.proofs.Whole.{err_within, err_exact, err_only}
use Rattle.registry_core.proofs.reading.read_registry.Goals as goal
use Rattle.scale_core.proofs.ReadModes.{are_bytes}

pub overflow_sub-result : goal.overflow_sub-result
overflow_sub-result c = ok_within registry_is c.args.bytes.now c.in-Ok.registry c.in-Ok.rest.now
    c.in-Ok.ensures

pub into_fault-requires : goal.into_fault-requires
into_fault-requires c = err_within registry_is c.args.bytes.now c.in-Err.stop c.in-Err.ensures

pub returns-in-Ok-clause-exact : goal.returns-in-Ok-clause-exact
returns-in-Ok-clause-exact c =
    ok_exact registry_is c.args.bytes.now c.in-Ok.registry c.in-Ok.rest.now c.in-Ok.ensures

pub returns-in-Ok-clause-found : goal.returns-in-Ok-clause-found
returns-in-Ok-clause-found c =
    ok_found registry_is c.args.bytes.now c.in-Ok.registry c.in-Ok.rest.now
    (are_bytes c.args.bytes.now (λ i. omega (arith, c.type_inv.bytes i))) c.in-Ok.ensures

pub returns-in-Ok-clause-only : goal.returns-in-Ok-clause-only
returns-in-Ok-clause-only c = λ types rest.
    ok_only registry_is (λ types n. (types, n)) c.args.bytes.now c.in-Ok.registry
    c.in-Ok.rest.now c.in-Ok.ensures types rest

pub returns-in-Err-clause-exact : goal.returns-in-Err-clause-exact
returns-in-Err-clause-exact c = rw c.into_fault.ensures
    (err_exact registry_is c.args.bytes.now c.in-Err.stop c.in-Err.ensures)

pub returns-in-Err-clause-only : goal.returns-in-Err-clause-only
returns-in-Err-clause-only c = λ types rest. rw c.into_fault.ensures
    (err_only registry_is c.args.bytes.now c.in-Err.stop c.in-Err.ensures types rest)

use Rattle.std.proofs.lemmas.Result.{err_from_is_err_and}
use Rattle.registry_core.specs.Reading.{repeated, param_at, params_at}
use Rattle.registry_core.proofs.Loops.{goes_on, ends}
use Rattle.registry_core.proofs.reading.types.params_of.Goals as goal

pub returns-in_err-param : goal.returns-in_err-param
unfolding params_at
returns-in_err-param c =
    let p = err_from_is_err_and c.from_residual-in_err-param.result
    c.from_residual-in_err-param.ensures.1 in
    rw (p.1, p.2, c.in_ok-count.ensures)
    (ends param_at c.in_err-param.field-0.0 c.params.params.items c.in_ok-count.count
    c.params.counter c.params.rest.now
    (repeated c.in_ok-count.count param_at c.in_ok-count.rest.now) c.params-test.true
    c.in_err-param.ensures c.params.invariant)

pub params-preserved : goal.params-preserved
params-preserved c = rw c.in_ok-append.ensures.items
    (goes_on param_at c.params.params.items c.in_ok-count.count c.params.counter c.params.rest.now
    c.in_ok-param.param c.in_ok-param.after.now
    (repeated c.in_ok-count.count param_at c.in_ok-count.rest.now) c.params-test.true
    c.in_ok-param.ensures c.params.invariant)

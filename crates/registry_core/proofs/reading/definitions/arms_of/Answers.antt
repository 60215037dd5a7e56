use Rattle.std.proofs.lemmas.Result.{err_from_is_err_and}
use Rattle.registry_core.specs.Reading.{repeated, arm_read_at, arms_read_at}
use Rattle.registry_core.proofs.Loops.{goes_on, ends}
use Rattle.registry_core.proofs.reading.definitions.arms_of.Goals as goal

pub returns-in_err-arm : goal.returns-in_err-arm
unfolding arms_read_at
returns-in_err-arm c =
    let p = err_from_is_err_and c.from_residual-in_err-arm.result
    c.from_residual-in_err-arm.ensures.1 in
    rw (p.1, p.2, c.in_ok-count.ensures)
    (ends arm_read_at c.in_err-arm.field-0.0 c.arms.arms.items c.in_ok-count.count
    c.arms.counter c.arms.rest.now
    (repeated c.in_ok-count.count arm_read_at c.in_ok-count.rest.now) c.arms-test.true
    c.in_err-arm.ensures c.arms.invariant)

pub arms-preserved : goal.arms-preserved
arms-preserved c = rw c.in_ok-append.ensures.items
    (goes_on arm_read_at c.arms.arms.items c.in_ok-count.count c.arms.counter c.arms.rest.now
    c.in_ok-arm.arm c.in_ok-arm.after.now
    (repeated c.in_ok-count.count arm_read_at c.in_ok-count.rest.now) c.arms-test.true
    c.in_ok-arm.ensures c.arms.invariant)

use Rattle.std.proofs.lemmas.Result.{err_from_is_err_and}
use Rattle.registry_core.specs.Reading.{repeated, type_id_at, type_ids_at}
use Rattle.registry_core.proofs.Loops.{goes_on, ends}
use Rattle.registry_core.proofs.reading.atoms.type_ids_of.Goals as goal

pub returns-in_err-id : goal.returns-in_err-id
unfolding type_ids_at
returns-in_err-id c =
    let p = err_from_is_err_and c.from_residual-in_err-id.result
    c.from_residual-in_err-id.ensures.1 in
    rw (p.1, p.2, c.in_ok-count.ensures)
    (ends type_id_at c.in_err-id.field-0.0 c.ids.ids.items c.in_ok-count.count c.ids.counter
    c.ids.rest.now (repeated c.in_ok-count.count type_id_at c.in_ok-count.rest.now)
    c.ids-test.true c.in_err-id.ensures c.ids.invariant)

pub ids-preserved : goal.ids-preserved
ids-preserved c = rw c.in_ok-append.ensures.items
    (goes_on type_id_at c.ids.ids.items c.in_ok-count.count c.ids.counter c.ids.rest.now
    c.in_ok-id.id c.in_ok-id.after.now
    (repeated c.in_ok-count.count type_id_at c.in_ok-count.rest.now) c.ids-test.true
    c.in_ok-id.ensures c.ids.invariant)

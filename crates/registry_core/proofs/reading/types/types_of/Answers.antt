use Rattle.std.proofs.lemmas.Result.{err_from_is_err_and}
use Rattle.registry_core.specs.Reading.{types_at}
use Rattle.registry_core.proofs.Loops.{type_goes_on, id_ends, type_ends}
use Rattle.registry_core.proofs.reading.types.types_of.Goals as goal

pub returns-in_err-behind : goal.returns-in_err-behind
returns-in_err-behind c =
    let p = err_from_is_err_and c.from_residual.result c.from_residual.ensures.1 in
    rw (p.1, p.2) (id_ends c.in_err-behind.field-0.0 c.types.types.items c.args.count
    c.types.position c.types.rest.now (types_at c.args.count 0 c.args.bytes.now)
    c.types-test.true c.in_err-behind.ensures c.types.invariant)

pub returns-in_err-info : goal.returns-in_err-info
returns-in_err-info c =
    let p = err_from_is_err_and c.from_residual-in_err-info.result
    c.from_residual-in_err-info.ensures.1 in
    rw (p.1, p.2) (type_ends c.in_err-info.field-0.0 c.types.types.items c.args.count
    c.types.position c.types.rest.now c.in_ok-behind.behind.now
    (types_at c.args.count 0 c.args.bytes.now) c.types-test.true c.in_ok-behind.ensures
    c.in_err-info.ensures c.types.invariant)

pub types-preserved : goal.types-preserved
types-preserved c = rw c.in_ok-append.ensures.items
    (type_goes_on c.types.types.items c.args.count c.types.position c.types.rest.now
    c.in_ok-behind.behind.now c.in_ok-info.info c.in_ok-info.after.now
    (types_at c.args.count 0 c.args.bytes.now) c.types-test.true c.in_ok-behind.ensures
    c.in_ok-info.ensures c.types.invariant)

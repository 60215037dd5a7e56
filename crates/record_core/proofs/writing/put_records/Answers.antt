use Rattle.std.proofs.Common.{arith, refl, rules}
use Rattle.record_core.proofs.Puts.{next_fits, pool_stands, put_next, records_stand}
use Rattle.record_core.proofs.writing.put_records.Goals as goal

pub nodes-init : goal.nodes-init
nodes-init c =
    record { records = refl; records_rest = refl; at_is = refl; pool_is = refl; pool_rest = refl }

pub put_part-requires : goal.put_part-requires
put_part-requires c =
    let fits = next_fits c.args.bytes.now c.args.nodes.now c.nodes.i _ c.nodes.at
    c.pooled-part.result.now c.nodes-test.true c.nodes.invariant.at_is c.pooled-part.ensures in
    search rules

pub overflow_add-at : goal.overflow_add-at
overflow_add-at c =
    let fits = next_fits c.args.bytes.now c.args.nodes.now c.nodes.i _ c.nodes.at
    c.pooled-part.result.now c.nodes-test.true c.nodes.invariant.at_is c.pooled-part.ensures in
    search rules

pub nodes-preserved : goal.nodes-preserved
nodes-preserved c = put_next c.args.bytes.now c.args.nodes.now c.args.records.now c.nodes.records
    c.args.pool.now c.nodes.pool c.put_part.new.pool c.nodes.at c.nodes.i _ c.pooled-part.result.now
    c.of_node.result c.nodes.invariant c.nodes-test.true (omega arith) c.pooled-part.ensures
    c.of_node.ensures c.put_part.ensures.placed c.put_part.ensures.rest

pub returns-clause-records : goal.returns-clause-records
returns-clause-records c = records_stand c.args.bytes.now c.args.nodes.now c.args.records.now
    c.nodes.records c.args.pool.now c.nodes.pool c.nodes.at c.nodes.i c.nodes.invariant
    (omega arith)

pub returns-clause-pool : goal.returns-clause-pool
returns-clause-pool c = pool_stands c.args.bytes.now c.args.nodes.now c.args.records.now
    c.nodes.records c.args.pool.now c.nodes.pool c.nodes.at c.nodes.i c.nodes.invariant
    (omega arith)

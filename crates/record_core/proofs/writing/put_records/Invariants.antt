use Rattle.record_core.proofs.Puts.{ArePut}
use Rattle.record_core.proofs.writing.put_records.Given as goal

abbrev pub invariant-nodes : goal.invariant-nodes
invariant-nodes l = ArePut l.bytes l.nodes l.fn.records l.records l.fn.pool l.pool l.at l.i

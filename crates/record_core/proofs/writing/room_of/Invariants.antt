use Rattle.std.proofs.Common.{◌≡◌, length, take}
use Rattle.node_core.specs.Shown.{cells_shown}
use Rattle.record_core.specs.Records.{pool_of}
use Rattle.record_core.proofs.writing.room_of.Given as goal

abbrev pub invariant-nodes : goal.invariant-nodes
invariant-nodes l = l.pool ≡ length (pool_of (cells_shown l.bytes (take l.node-index l.nodes)))

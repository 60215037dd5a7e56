use Rattle.std.proofs.Common.{◌≡◌, drop}
use Rattle.node_core.specs.Shown.{cells_shown}
use Rattle.chain_core.specs.Unknown.{unknown_from}
use Rattle.chain_core.proofs.unknown.unknown_in_rest.Given as goal

-- none of the nodes so far is one
abbrev pub invariant-nodes : goal.invariant-nodes
invariant-nodes g l =
    unknown_from l.value.types l.own l.place (cells_shown l.pool (drop l.node-index l.nodes))
    ≡ unknown_from l.value.types l.own 0 (cells_shown l.pool l.nodes)

use Rattle.std.proofs.Common.{◌≡◌, drop, length}
use Rattle.graph_core.specs.References.{unknown_from}
use Rattle.chain_core.proofs.own_references.unknown_in_types.Given as goal

-- those so far are positions
abbrev pub invariant-types : goal.invariant-types
invariant-types l = unknown_from (length l.types) l.id (drop l.id l.types)
    ≡ unknown_from (length l.types) 0 l.types

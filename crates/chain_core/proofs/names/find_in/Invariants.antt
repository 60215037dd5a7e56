use Rattle.std.proofs.Common.{◌≡◌, drop}
use Rattle.chain_core.specs.Names.{find, types_of}
use Rattle.chain_core.proofs.names.find_in.Given as goal

-- none of those so far has the name
abbrev pub invariant-types : goal.invariant-types
invariant-types l = find (types_of (drop l.named-index l.types)) l.name
    ≡ find (types_of l.types) l.name

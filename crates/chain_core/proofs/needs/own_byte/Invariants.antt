use Rattle.std.proofs.Common.{◌≡◌, drop}
use Rattle.chain_core.specs.Synthetic.{byte_from}
use Rattle.chain_core.proofs.needs.own_byte.Given as goal

-- the byte is among the types that are left
abbrev pub invariant-types : goal.invariant-types
invariant-types l = byte_from l.id (drop l.id l.own) ≡ byte_from 0 l.own

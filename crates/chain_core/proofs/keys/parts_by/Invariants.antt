use Rattle.std.proofs.Common.{◌≡◌, ◌++◌, drop}
use Rattle.chain_core.specs.Keys.{parts_by}
use Rattle.chain_core.proofs.keys.parts_by.Given as goal

abbrev pub invariant-hashers : goal.invariant-hashers
invariant-hashers l = l.parts.items ++ parts_by (drop l.position l.hashers) (drop l.position l.keys)
    ≡ parts_by l.hashers l.keys

use Rattle.std.proofs.Common.{◌≡◌, ◌++◌}
use Rattle.node_core.specs.Shown.{children_of}
use Rattle.chain_core.specs.Keys.{hashers_in}
use Rattle.chain_core.proofs.keys.hashers_of.Given as goal

abbrev pub invariant-hashers : goal.invariant-hashers
invariant-hashers l = record {
  can : (goal.iterator-hashers).can_next l.hasher-iterator;
  ends : (goal.iterator-hashers).is_finite l.hasher-iterator;
  reported : l.hashers.items ++ hashers_in l.hasher-iterator ≡ hashers_in (children_of l.list);
}

use Rattle.std.proofs.Common.{◌≡◌, ◌+◌, ◌≤◌, drop}
use Rattle.chain_core.specs.Synthetic.{made_count}
use Rattle.chain_core.specs.Things.{all_named}
use Rattle.chain_core.proofs.synthetic.made_count.Given as goal

-- those that are left, beside those that were counted
abbrev pub invariant-things : goal.invariant-things
invariant-things l = record {
  exact : l.count + made_count (all_named (drop l.thing-index l.things))
      ≡ made_count (all_named l.things);
  few : l.count ≤ l.thing-index;
}

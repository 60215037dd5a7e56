use Rattle.std.proofs.Common.{◌≡◌, drop}
use Rattle.chain_core.specs.Synthetic.{all_need}
use Rattle.chain_core.specs.Things.{all_named}
use Rattle.chain_core.proofs.needs.all_needs.Given as goal

-- what the things that are left need
abbrev pub invariant-things : goal.invariant-things
invariant-things l = all_need l.needs (all_named (drop l.thing-index l.things))
    ≡ all_need l.initial.needs (all_named l.things)

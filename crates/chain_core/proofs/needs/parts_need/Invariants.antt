use Rattle.std.proofs.Common.{◌≡◌, drop}
use Rattle.chain_core.specs.Synthetic.{parts_need}
use Rattle.chain_core.proofs.needs.parts_need.Given as goal

-- what the parts that are left need
abbrev pub invariant-parts : goal.invariant-parts
invariant-parts l = parts_need l.needs (drop l.part-index l.parts)
    ≡ parts_need l.initial.needs l.parts

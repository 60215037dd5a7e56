use Rattle.std.proofs.Common.{◌≡◌, drop}
use Rattle.std.specs.Prelude.{flat_map}
use Rattle.graph_core.specs.References.{first_unknown}
use Rattle.graph_core.specs.Types.{field_types}
use Rattle.chain_core.proofs.own_references.unknown_in_arms.Given as goal

-- those so far are positions
abbrev pub invariant-arms : goal.invariant-arms
invariant-arms l =
    first_unknown l.count (flat_map (λ a. field_types a.fields) (drop l.arm-index l.arms))
    ≡ first_unknown l.count (flat_map (λ a. field_types a.fields) l.arms)

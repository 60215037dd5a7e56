use Rattle.std.proofs.Common.{◌≡◌, drop, length, map, max}
use Rattle.graph_core.specs.Widths.{greatest}
use Rattle.graph_core.proofs.sizes.widest_arm.Given as goal

abbrev pub invariant-arms : goal.invariant-arms
invariant-arms l = max l.widest (greatest (map (λ a. length a.fields) (drop l.position l.arms)))
    ≡ greatest (map (λ a. length a.fields) l.arms)

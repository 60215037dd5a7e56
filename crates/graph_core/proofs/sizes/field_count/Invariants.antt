use Rattle.std.proofs.Common.{◌≡◌, ◌+◌, length, drop}
use Rattle.graph_core.specs.Cursors.{arm_references}
use Rattle.graph_core.proofs.sizes.field_count.Given as goal

abbrev pub invariant-counted : goal.invariant-counted
invariant-counted l = l.count + length (arm_references (drop l.position l.arms))
    ≡ length (arm_references l.arms)

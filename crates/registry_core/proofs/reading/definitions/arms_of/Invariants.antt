use Rattle.std.proofs.Common.{◌≡◌, ◌-◌}
use Rattle.registry_core.specs.Reading.{repeated, arm_read_at}
use Rattle.registry_core.proofs.Loops.{with_front}
use Rattle.registry_core.proofs.reading.definitions.arms_of.Given as goal

abbrev pub invariant-arms : goal.invariant-arms
invariant-arms l = with_front l.arms.items (repeated (l.count - l.counter) arm_read_at l.rest)
    ≡ repeated l.count arm_read_at l.initial.rest

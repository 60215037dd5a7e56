use Rattle.std.proofs.Common.{◌≡◌, ◌-◌}
use Rattle.registry_core.specs.Reading.{types_at}
use Rattle.registry_core.proofs.Loops.{with_front}
use Rattle.registry_core.proofs.reading.types.types_of.Given as goal

abbrev pub invariant-types : goal.invariant-types
invariant-types l = with_front l.types.items (types_at (l.count - l.position) l.position l.rest)
    ≡ types_at l.count 0 l.bytes

use Rattle.std.proofs.Common.{◌≡◌, ◌-◌, length}
use Rattle.registry_core.specs.Reading.{repeated, field_at}
use Rattle.registry_core.proofs.Loops.{with_front}
use Rattle.registry_core.proofs.reading.definitions.fields_of.Given as goal

abbrev pub invariant-fields : goal.invariant-fields
invariant-fields l = (with_front l.fields.items (repeated (l.count - l.counter) field_at l.rest)
    ≡ repeated l.count field_at l.initial.rest)
    × (length l.fields.items ≡ l.counter)

use Rattle.std.proofs.Common.{◌≡◌, ◌-◌}
use Rattle.registry_core.specs.Reading.{repeated, string_at}
use Rattle.registry_core.proofs.Loops.{with_front}
use Rattle.registry_core.proofs.reading.atoms.some_texts_of.Given as goal

abbrev pub invariant-texts : goal.invariant-texts
invariant-texts l = with_front l.texts.items (repeated (l.count - l.counter) string_at l.rest)
    ≡ repeated l.count string_at l.initial.rest

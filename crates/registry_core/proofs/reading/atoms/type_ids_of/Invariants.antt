use Rattle.std.proofs.Common.{◌≡◌, ◌-◌}
use Rattle.registry_core.specs.Reading.{repeated, type_id_at}
use Rattle.registry_core.proofs.Loops.{with_front}
use Rattle.registry_core.proofs.reading.atoms.type_ids_of.Given as goal

abbrev pub invariant-ids : goal.invariant-ids
invariant-ids l = with_front l.ids.items (repeated (l.count - l.counter) type_id_at l.rest)
    ≡ repeated l.count type_id_at l.initial.rest

use Rattle.std.proofs.Common.{◌≡◌, take, Ok}
use Rattle.record_core.specs.Replayed.{replay, start_with}
use Rattle.record_core.proofs.replaying.value_of_records.Given as goal

abbrev pub invariant-records : goal.invariant-records
invariant-records g l =
    replay l.checked.types l.pool (take l.at l.records)
    (start_with l.checked.types l.fn.root.0 l.depth)
    ≡ Ok l.builder

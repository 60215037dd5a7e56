use Rattle.std.proofs.Common.{◌≡◌, ◌-◌}
use Rattle.registry_core.specs.Reading.{repeated, param_at}
use Rattle.registry_core.proofs.Loops.{with_front}
use Rattle.registry_core.proofs.reading.types.params_of.Given as goal

abbrev pub invariant-params : goal.invariant-params
invariant-params l = with_front l.params.items (repeated (l.count - l.counter) param_at l.rest)
    ≡ repeated l.count param_at l.initial.rest

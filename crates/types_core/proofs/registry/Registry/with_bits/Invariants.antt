use Rattle.std.proofs.Common.{◌≡◌}
use Rattle.types_core.proofs.BitsAllowed.{so_far}
use Rattle.types_core.proofs.registry.Registry.with_bits.Given as goal

abbrev pub invariant-types : goal.invariant-types
invariant-types l = l.types.items ≡ so_far l.at l.fn.self

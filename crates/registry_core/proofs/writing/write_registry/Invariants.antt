use Rattle.std.proofs.Common.{◌≡◌, ◌++◌, length, take}
use Rattle.scale_core.specs.Compact.{compact}
use Rattle.registry_core.specs.Spelling.{types_from}
use Rattle.registry_core.proofs.writing.write_registry.Given as goal

abbrev pub invariant-types : goal.invariant-types
invariant-types l = l.out.items ≡ compact (length l.types) ++ types_from 0 (take l.position l.types)

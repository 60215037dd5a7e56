use Rattle.std.proofs.Common.{◌≡◌, ◌++◌, length, take, flat_map}
use Rattle.scale_core.specs.Compact.{compact}
use Rattle.registry_core.specs.Spelling.{arm}
use Rattle.registry_core.proofs.writing.put_arms.Given as goal

abbrev pub invariant-arms : goal.invariant-arms
invariant-arms l = l.out.items
    ≡ l.fn.out.items ++ compact (length l.values) ++ flat_map arm (take l.value-index l.value-items)

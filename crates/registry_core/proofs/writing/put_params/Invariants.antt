use Rattle.std.proofs.Common.{◌≡◌, ◌++◌, length, take, flat_map}
use Rattle.scale_core.specs.Compact.{compact}
use Rattle.registry_core.specs.Spelling.{param}
use Rattle.registry_core.proofs.writing.put_params.Given as goal

abbrev pub invariant-params : goal.invariant-params
invariant-params l = l.out.items
    ≡ l.fn.out.items ++ compact (length l.values) ++ flat_map param
    (take l.value-index l.value-items)

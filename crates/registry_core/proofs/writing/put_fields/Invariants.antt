use Rattle.std.proofs.Common.{◌≡◌, ◌++◌, length, take, flat_map}
use Rattle.scale_core.specs.Compact.{compact}
use Rattle.registry_core.specs.Spelling.{field}
use Rattle.registry_core.proofs.writing.put_fields.Given as goal

abbrev pub invariant-fields : goal.invariant-fields
invariant-fields l = l.out.items
    ≡ l.fn.out.items ++ compact (length l.values) ++ flat_map field
    (take l.value-index l.value-items)

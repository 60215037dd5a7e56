use Rattle.std.proofs.Common.{◌≡◌, ◌++◌, length, take, flat_map}
use Rattle.scale_core.specs.Compact.{compact}
use Rattle.registry_core.specs.Spelling.{type_id}
use Rattle.registry_core.proofs.writing.put_type_ids.Given as goal

abbrev pub invariant-ids : goal.invariant-ids
invariant-ids l = l.out.items
    ≡ l.fn.out.items ++ compact (length l.ids) ++ flat_map type_id (take l.id-index l.id-items)

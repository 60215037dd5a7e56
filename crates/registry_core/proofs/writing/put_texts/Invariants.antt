use Rattle.std.proofs.Common.{◌≡◌, ◌++◌, length, take, flat_map}
use Rattle.scale_core.specs.Compact.{compact}
use Rattle.registry_core.specs.Spelling.{text}
use Rattle.registry_core.proofs.writing.put_texts.Given as goal

abbrev pub invariant-texts : goal.invariant-texts
invariant-texts l = l.out.items
    ≡ l.fn.out.items ++ compact (length l.values) ++ flat_map text
    (take l.value-index l.value-items)

use Rattle.std.proofs.Common.{rules}
use Rattle.value_core.proofs.NextLeaf.{compact_next}
use Rattle.value_core.proofs.builder.Builder.compact.Goals as goal

pub add_leaf-requires-clause-next : goal.add_leaf-requires-clause-next
add_leaf-requires-clause-next g c =
    compact_next _ c.in-Compact.target c.args.value (search rules) (search rules)

use Rattle.std.proofs.Common.{rules}
use Rattle.value_core.proofs.NextLeaf.{unsigned_next}
use Rattle.value_core.proofs.builder.Builder.unsigned.Goals as goal

pub add_leaf-requires-clause-next : goal.add_leaf-requires-clause-next
add_leaf-requires-clause-next g c =
    unsigned_next _ c.in-Primitive.primitive c.in-Unsigned.width c.args.value (search rules)
    (search rules) (search rules)

use Rattle.std.proofs.Common.{rules}
use Rattle.value_core.proofs.NextLeaf.{signed_next}
use Rattle.value_core.proofs.builder.Builder.signed.Goals as goal

pub add_leaf-requires-clause-next : goal.add_leaf-requires-clause-next
add_leaf-requires-clause-next g c =
    signed_next _ c.in-Primitive.primitive c.in-Signed.width _ (search rules) (search rules)
    (search rules)

use Rattle.std.proofs.Common.{rules}
use Rattle.scale_core.proofs.ReadModes.{are_bytes}
use Rattle.value_core.proofs.NextLeaf.{wide_next}
use Rattle.value_core.proofs.builder.Builder.wide.Goals as goal

pub add_leaf-requires-clause-next : goal.add_leaf-requires-clause-next
add_leaf-requires-clause-next g c =
    wide_next _ c.in-Primitive.primitive c.in-Wide.field-0 c.args.value (search rules)
    (search rules) (search rules) (are_bytes c.args.value (λ i. search rules))

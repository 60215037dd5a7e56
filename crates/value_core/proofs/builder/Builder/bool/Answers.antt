use Rattle.std.proofs.Common.{rules}
use Rattle.value_core.proofs.NextLeaf.{bool_next}
use Rattle.value_core.proofs.builder.Builder.bool.Goals as goal

pub add_leaf-requires-clause-next : goal.add_leaf-requires-clause-next
add_leaf-requires-clause-next g c = bool_next _ c.args.value (search rules)

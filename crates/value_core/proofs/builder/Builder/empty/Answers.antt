use Rattle.std.proofs.Common.{rules}
use Rattle.value_core.proofs.NextLeaf.{empty_next}
use Rattle.value_core.proofs.builder.Builder.empty.Goals as goal

pub add_leaf-requires-clause-next : goal.add_leaf-requires-clause-next
add_leaf-requires-clause-next g c = empty_next _ (search rules)

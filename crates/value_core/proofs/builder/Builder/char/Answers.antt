use Rattle.std.proofs.Common.{rules}
use Rattle.value_core.proofs.NextLeaf.{char_next, scalar_is}
use Rattle.value_core.proofs.builder.Builder.char.Goals as goal

pub add_leaf-requires-clause-next : goal.add_leaf-requires-clause-next
add_leaf-requires-clause-next g c =
    char_next _ c.args.value (search rules) (scalar_is c.args.value c.ranges.value.0) (search rules)

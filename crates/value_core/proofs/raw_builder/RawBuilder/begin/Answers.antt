use Rattle.std.proofs.Common.{refl, arith}
use Rattle.value_core.proofs.Finished.{nothing_built}
use Rattle.value_core.proofs.raw_builder.RawBuilder.begin.Goals as goal

pub invariant_of-result : goal.invariant_of-result
invariant_of-result g c = (
  rw (c.new.ensures, c.new-pool.ensures.items, c.new-nodes.ensures.items)
      (nothing_built c.args.root.0 c.args.checked.now.types c.args.depth),
  rw (c.new-pool.ensures.items, c.new-nodes.ensures.items) refl,
  rw c.new.ensures refl,
  rw (c.new.ensures, c.new-nodes.ensures.items) (omega (arith, c.new-2.ensures)),
)

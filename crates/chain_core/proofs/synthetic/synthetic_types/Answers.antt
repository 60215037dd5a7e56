use Rattle.std.proofs.Common.{arith}
use Rattle.chain_core.proofs.SyntheticCounts.{length-synthetic}
use Rattle.chain_core.proofs.synthetic.synthetic_types.Goals as goal

pub returns-clause-few : goal.returns-clause-few
returns-clause-few c = omega (
  arith,
  length-synthetic c.small_types-small.result c.args.things.now _ _ _ _ _ _
      c.new-types.ensures.items c.in_ok-push_all_made.ensures.exact
      c.in_ok-push_small.ensures.exact,
)

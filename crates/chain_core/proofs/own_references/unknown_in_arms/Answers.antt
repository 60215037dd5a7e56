use Rattle.std.proofs.Common.{arith, rules, sym, ◌∙◌}
use Rattle.chain_core.proofs.OwnReferences.{in_no_arm, in_this_arm}
use Rattle.chain_core.proofs.own_references.unknown_in_arms.Goals as goal

pub returns-in-Some : goal.returns-in-Some
returns-in-Some c =
    sym (in_this_arm c.args.count c.args.arms.now c.arms.arm-index c.arm-item.result
    c.in-Some.unknown (omega arith) c.arm-item.is (search rules)) ∙ c.arms.invariant

pub arms-preserved : goal.arms-preserved
arms-preserved c =
    in_no_arm c.args.count c.args.arms.now c.arms.arm-index c.arm-item.result (omega arith)
    c.arm-item.is (search rules) ∙ c.arms.invariant

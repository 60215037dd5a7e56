use Rattle.std.proofs.Common.{◌≡◌, ◌∙◌, ◌+◌, length, sym, arith}
use Rattle.value_core.specs.Built.{settled_walk}
use Rattle.value_core.proofs.Closing.{turns_are}
use Rattle.value_core.proofs.appending.close_whole.Goals as goal

pub returns-clause-turns : goal.returns-clause-turns
returns-clause-turns g c =
    let stopped = c.close_one.ensures.no c.closing-test.false in
    let is : c.close_one.new.walk ≡ settled_walk c.args.walk.now = sym stopped.0
    ∙ c.close_one.ensures.settles.walk ∙ c.closing.invariant.0.walk in
    let sum : c.closing.turns.so_far + length c.close_one.new.walk.frames
    ≡ c.args.turns.now.so_far + length c.args.walk.now.frames =
    omega (arith, stopped.1, c.closing.invariant.1) in
    turns_are c.args.walk.now c.close_one.new.walk c.args.turns.now.so_far c.closing.turns.so_far is
    sum

use Rattle.std.proofs.Common.{arith, inr, refl}
use Rattle.json_core.proofs.InFront.{in_front, run_long}
use Rattle.json_core.proofs.placed.run_in_front.Goals as goal

pub returns-then-len-out-clause-placed : goal.returns-then-len-out-clause-placed
returns-then-len-out-clause-placed c = in_front _ c.args.out.now c.place_hex_text.new.buffer
    c.place_hex_text.result c.place_hex_text.ensures

pub returns-then-len-out-clause-len : goal.returns-then-len-out-clause-len
returns-then-len-out-clause-len c = run_long c.args.bytes.now c.type_inv.bytes

pub returns-else-len-out-clause-len : goal.returns-else-len-out-clause-len
returns-else-len-out-clause-len c = run_long c.args.bytes.now c.type_inv.bytes

pub returns-else-len-out-clause-placed : goal.returns-else-len-out-clause-placed
returns-else-len-out-clause-placed c =
    inr (omega (arith, run_long c.args.bytes.now c.type_inv.bytes, c.if-len-out.false), refl)

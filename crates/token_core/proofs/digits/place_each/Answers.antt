use Rattle.std.proofs.Common.{◌+◌, ◌*◌, length, arith, rules}
use Rattle.token_core.proofs.Placing.{part_placed}
use Rattle.token_core.proofs.digits.place_each.Goals as goal

pub returns : goal.returns
returns c = part_placed c.args.buffer.now c.encode_to_slice.new.output _ c.args.at
    (c.args.at + 2 * length c.args.bytes.now) (omega arith) (omega (arith, c.requires))
    (omega (arith, c.requires, c.encode_to_slice.auto.output)) (search rules)

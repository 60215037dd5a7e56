use Rattle.std.proofs.Common.{◌+◌, length, arith, rules}
use Rattle.token_core.proofs.Placing.{part_placed}
use Rattle.token_core.proofs.places.place_bytes.Goals as goal

pub returns : goal.returns
returns c = part_placed c.args.buffer.now c.copy_from_slice.new.self _ c.args.at
    (c.args.at + length c.args.bytes.now) (omega arith) (omega (arith, c.requires))
    (omega (arith, c.requires, c.copy_from_slice.auto.self)) (search rules)

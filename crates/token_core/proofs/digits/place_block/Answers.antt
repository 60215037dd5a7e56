use Rattle.std.proofs.Common.{subst}
use Rattle.token_core.specs.Places.{OnlyPlaced}
use Rattle.token_core.proofs.Hexadecimal.{block_digits}
use Rattle.token_core.proofs.Placing.{OnlyPlaced-then}
use Rattle.token_core.proofs.digits.place_block.Goals as goal

pub returns : goal.returns
returns c =
    let digits = block_digits c.args.bytes.now c.first_digits-first.result
    c.second_digits-second.result c.requires.block c.first_digits-first.ensures
    c.second_digits-second.ensures in
    subst (λ ds. OnlyPlaced c.args.buffer.now c.place_lanes.new.buffer c.args.at ds
    c.place_lanes.result) digits (OnlyPlaced-then c.place_lanes-at.ensures c.place_lanes.ensures)

use Rattle.std.proofs.Common.{◌+◌, ◌*◌, take, drop, subst, arith}
use Rattle.hex.specs.Hex.{encode_lower}
use Rattle.token_core.specs.Places.{OnlyPlaced}
use Rattle.token_core.proofs.Hexadecimal.{all_placed, next_placed, none_placed}
use Rattle.token_core.proofs.digits.place_hex.Goals as goal

pub turns-init : goal.turns-init
turns-init c = none_placed c.args.bytes.now c.args.buffer.now c.args.at

pub turns-preserved : goal.turns-preserved
turns-preserved c =
    let bytes = c.args.bytes.now in
    let new = c.place_block.new.buffer in
    let done = 16 * c.turns.block in
    let own = subst (λ n. OnlyPlaced c.turns.buffer new (c.args.at + 2 * done)
    (encode_lower (take n (drop done bytes))) c.place_block.result)
    (omega arith) c.place_block.ensures in
    (next_placed bytes c.args.buffer.now c.turns.buffer new c.args.at done
    (16 * (c.turns.block + 1)) c.place_block.result c.turns.invariant (omega arith) (omega arith)
    own).0

pub returns : goal.returns
returns c =
    all_placed c.args.bytes.now c.args.buffer.now c.turns.buffer c.place_each.new.buffer c.args.at
    c.turns.block c.place_each.result (omega (arith, c.turns-test.false, c.turns.auto.block-end))
    c.turns.invariant c.place_each.ensures

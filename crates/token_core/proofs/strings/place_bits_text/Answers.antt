use Rattle.std.proofs.Common.{arith, subst}
use Rattle.token_core.specs.Places.{OnlyPlaced}
use Rattle.token_core.proofs.Binary.{bits_string, length-bit_digits}
use Rattle.token_core.proofs.Placing.{OnlyPlaced-then}
use Rattle.token_core.proofs.strings.place_bits_text.Goals as goal

pub place_bytes-requires : goal.place_bytes-requires
place_bytes-requires c =
    omega (
      arith,
      c.place_bytes-at.ensures.placed.moved,
      c.place_bytes-at.ensures.placed.len,
      c.place_bits-at.ensures.placed.moved,
      c.place_bits-at.ensures.placed.len,
      length-bit_digits c.args.form c.args.bytes.now c.args.count,
      c.requires,
    )

pub returns : goal.returns
returns c = subst (λ s. OnlyPlaced c.args.buffer.now c.place_bytes.new.buffer c.args.at s
    c.place_bytes.result) (bits_string c.args.form c.args.bytes.now c.args.count)
    (OnlyPlaced-then c.place_bytes-at.ensures
    (OnlyPlaced-then c.place_bits-at.ensures c.place_bytes.ensures))

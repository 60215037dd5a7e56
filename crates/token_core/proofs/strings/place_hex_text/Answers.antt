use Rattle.std.proofs.Common.{arith, subst}
use Rattle.hex.specs.Hex.{lower_digits}
use Rattle.hex.proofs.HexLemmas.{length-encode_with}
use Rattle.token_core.specs.Places.{OnlyPlaced}
use Rattle.token_core.proofs.Outputs.{hex_string}
use Rattle.token_core.proofs.Placing.{OnlyPlaced-then}
use Rattle.token_core.proofs.strings.place_hex_text.Goals as goal

pub place_bytes-requires : goal.place_bytes-requires
place_bytes-requires c =
    omega (
      arith,
      c.place_bytes-at.ensures.placed.moved,
      c.place_bytes-at.ensures.placed.len,
      c.place_hex-at.ensures.placed.moved,
      c.place_hex-at.ensures.placed.len,
      length-encode_with lower_digits c.args.bytes.now,
      c.requires,
    )

pub returns : goal.returns
returns c = subst (λ s. OnlyPlaced c.args.buffer.now c.place_bytes.new.buffer c.args.at s
    c.place_bytes.result) (hex_string c.args.bytes.now c.type_inv.bytes)
    (OnlyPlaced-then c.place_bytes-at.ensures
    (OnlyPlaced-then c.place_hex-at.ensures c.place_bytes.ensures))

use Rattle.std.proofs.Common.{◌≡◌, ◌+◌, [], ◌∷◌, ◌++◌, ap, sym, ◌∙◌, subst, arith}
use Rattle.token_core.specs.Digits.{bit_digit, bit_digits}
use Rattle.token_core.specs.Places.{OnlyPlaced}
use Rattle.token_core.proofs.Binary.{length-bit_digits, next_digit}
use Rattle.token_core.proofs.Placing.{OnlyPlaced-then, nothing_placed}
use Rattle.token_core.proofs.digits.place_bits.Goals as goal

pub bits-init : goal.bits-init
bits-init c = nothing_placed c.args.buffer.now c.args.at

pub place_bytes-end-requires : goal.place_bytes-end-requires
place_bytes-end-requires c =
    omega (
      arith,
      c.requires,
      c.bits.invariant.placed.moved,
      c.bits.invariant.placed.len,
      length-bit_digits c.args.form c.args.bytes.now c.bits.bit,
      c.bits.auto.bit-end,
    )

pub bits-preserved : goal.bits-preserved
bits-preserved c =
    let both = OnlyPlaced-then c.bits.invariant c.place_bytes-end.ensures in
    let digits = subst (λ d. bit_digits c.args.form c.args.bytes.now c.bits.bit ++ d ∷ []
    ≡ bit_digits c.args.form c.args.bytes.now (c.bits.bit + 1))
    (sym (c.bit_digit.ensures ∙ ap bit_digit c.bit.ensures))
    (next_digit c.args.form c.args.bytes.now c.bits.bit) in
    subst (λ l. OnlyPlaced c.args.buffer.now c.place_bytes-end.new.buffer c.args.at l
    c.place_bytes-end.result) digits both

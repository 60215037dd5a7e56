use Rattle.std.proofs.Common.{◌∷◌, length, refl, ap, arith}
use Rattle.json.specs.Token.{string}
use Rattle.json.proofs.Printed.Places.{Placed-then}
use Rattle.token_core.specs.Digits.{bit_digits}
use Rattle.token_core.proofs.Binary.{bits_utf8}
use Rattle.token_core.proofs.Outputs.{appended, comma_short, token_after, utf8_after}
use Rattle.token_core.proofs.output.Output.bits.Goals as goal

pub place_bits_text-self-inside-requires : goal.place_bits_text-self-inside-requires
place_bits_text-self-inside-requires g c =
    omega (
      arith,
      c.in_ok-ensure_bytes.ensures.ok,
      c.place_comma-at.ensures.moved,
      comma_short c.self.inside.after_value,
      c.place_comma-at.ensures.len,
      ap length c.as_mut_slice-buffer.ensures.value,
    )

pub invariant_of-self-2 : goal.invariant_of-self-2
invariant_of-self-2 g c = utf8_after _ (appended c.self.invariant.0
    c.in_ok-ensure_bytes.ensures.same
    c.in_ok-ensure_bytes.ensures.kept c.as_mut_slice-buffer.ensures.value
    c.as_mut_slice-buffer.ensures.len
    (Placed-then c.place_comma-at.ensures c.place_bits_text-self-inside.ensures.placed))
    c.self.invariant.1 (bits_utf8 c.args.form c.args.bytes.now c.args.count)

pub returns : goal.returns
returns g c = token_after _ (appended c.self.invariant.0 c.in_ok-ensure_bytes.ensures.same
    c.in_ok-ensure_bytes.ensures.kept c.as_mut_slice-buffer.ensures.value
    c.as_mut_slice-buffer.ensures.len
    (Placed-then c.place_comma-at.ensures c.place_bits_text-self-inside.ensures.placed))
    c.args.self.now (string (48 ∷ 98 ∷ bit_digits c.args.form c.args.bytes.now c.args.count))
    c.self.view_is refl refl

use Rattle.std.proofs.Common.{◌≡◌, ◌+◌, ◌*◌, ◌-◌, ◌^◌, ◌∷◌, min, length, refl, ap, arith, rules}
use Rattle.hex.specs.Hex.{encode_lower}
use Rattle.json.specs.Token.{string}
use Rattle.json.proofs.Printed.Places.{Placed-then}
use Rattle.token_core.proofs.Outputs.{appended, comma_short, hex_utf8, token_after, utf8_after}
use Rattle.token_core.proofs.output.Output.hex.Goals as goal

pub place_hex_text-self-inside-requires : goal.place_hex_text-self-inside-requires
place_hex_text-self-inside-requires g c =
    let room : c.saturating_add-room.result ≡ min (2 * length c.args.bytes.now + 5) (2 ^ 64 - 1) =
    search rules in
    omega (
      arith,
      c.in_ok-ensure_bytes.ensures.ok,
      c.place_comma-at.ensures.moved,
      comma_short c.self.inside.after_value,
      room,
      c.place_comma-at.ensures.len,
      ap length c.as_mut_slice-buffer.ensures.value,
    )

pub invariant_of-self-2 : goal.invariant_of-self-2
invariant_of-self-2 g c = utf8_after _ (appended c.self.invariant.0
    c.in_ok-ensure_bytes.ensures.same
    c.in_ok-ensure_bytes.ensures.kept c.as_mut_slice-buffer.ensures.value
    c.as_mut_slice-buffer.ensures.len
    (Placed-then c.place_comma-at.ensures c.place_hex_text-self-inside.ensures.placed))
    c.self.invariant.1 (hex_utf8 c.args.bytes.now c.type_inv.bytes)

pub returns : goal.returns
returns g c = token_after _ (appended c.self.invariant.0 c.in_ok-ensure_bytes.ensures.same
    c.in_ok-ensure_bytes.ensures.kept c.as_mut_slice-buffer.ensures.value
    c.as_mut_slice-buffer.ensures.len
    (Placed-then c.place_comma-at.ensures c.place_hex_text-self-inside.ensures.placed))
    c.args.self.now (string (48 ∷ 120 ∷ encode_lower c.args.bytes.now)) c.self.view_is refl refl

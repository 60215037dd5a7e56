use Rattle.std.proofs.Common.{◌≤◌, decimal, [], ◌∷◌, length, refl, ap, arith, rules}
use Rattle.std.proofs.lemmas.Fmt.{IsAscii-decimal_wide, length-decimal-le_wide}
use Rattle.std.proofs.lemmas.Str.{IsUtf8-append, IsUtf8-from_ascii}
use Rattle.json.specs.Token.{string}
use Rattle.json.proofs.Printed.Places.{Placed-then}
use Rattle.json.proofs.Printed.Utf8.{IsUtf8-are_ascii}
use Rattle.token_core.proofs.Outputs.{appended, comma_short, escape_decimal, plain_string}
use Rattle.token_core.proofs.Outputs.{token_after, utf8_after}
use Rattle.token_core.proofs.output.Output.quoted_unsigned.Goals as goal

pub place_byte-self-inside-requires : goal.place_byte-self-inside-requires
place_byte-self-inside-requires g c =
    let short : length (decimal c.args.n) ≤ 39 =
    length-decimal-le_wide 39 c.args.n (omega arith) (omega arith) (omega arith) in
    omega (
      arith,
      short,
      c.in_ok-ensure_bytes.ensures.ok,
      comma_short c.self.inside.after_value,
      c.place_comma-at.ensures.moved,
      c.place_byte-first.ensures.moved,
      c.place_long-end.ensures.moved,
      c.place_comma-at.ensures.len,
      c.place_byte-first.ensures.len,
      c.place_long-end.ensures.len,
      ap length c.as_mut_slice-buffer.ensures.value,
    )

pub invariant_of-self-2 : goal.invariant_of-self-2
invariant_of-self-2 g c =
    let quote = IsUtf8-are_ascii (34 ∷ []) refl in
    let digits = IsUtf8-from_ascii _ (IsAscii-decimal_wide c.args.n (search rules)) in
    utf8_after _ (appended c.self.invariant.0 c.in_ok-ensure_bytes.ensures.same
    c.in_ok-ensure_bytes.ensures.kept c.as_mut_slice-buffer.ensures.value
    c.as_mut_slice-buffer.ensures.len
    (Placed-then c.place_comma-at.ensures (Placed-then
    c.place_byte-first.ensures
    (Placed-then c.place_long-end.ensures c.place_byte-self-inside.ensures))))
    c.self.invariant.1 (IsUtf8-append _ _ quote (IsUtf8-append _ _ digits quote))

pub returns : goal.returns
returns g c = token_after _ (appended c.self.invariant.0 c.in_ok-ensure_bytes.ensures.same
    c.in_ok-ensure_bytes.ensures.kept c.as_mut_slice-buffer.ensures.value
    c.as_mut_slice-buffer.ensures.len
    (Placed-then c.place_comma-at.ensures (Placed-then
    c.place_byte-first.ensures
    (Placed-then c.place_long-end.ensures c.place_byte-self-inside.ensures))))
    c.args.self.now (string (decimal c.args.n)) c.self.view_is
    (plain_string (decimal c.args.n) (escape_decimal c.args.n (search rules))) refl

use Rattle.std.proofs.Common.{◌+◌, ◌≤◌, length, arith, rules}
use Rattle.std.specs.Fmt.{decimal}
use Rattle.std.proofs.lemmas.Fmt.{length-decimal-le}
use Rattle.token_core.proofs.Placing.{digits_placed}
use Rattle.token_core.proofs.places.place_decimal.Goals as goal

pub overflow_add-end : goal.overflow_add-end
overflow_add-end c =
    let short : length (decimal c.args.n) ≤ 20 =
    length-decimal-le 20 c.args.n (omega arith) (omega arith) (search rules) in
    omega (arith, short, c.digit_count.ensures, c.requires)

pub write_digits-requires : goal.write_digits-requires
write_digits-requires c =
    let short : length (decimal c.args.n) ≤ 20 =
    length-decimal-le 20 c.args.n (omega arith) (omega arith) (search rules) in (
      omega (arith, short, c.digit_count.ensures),
      omega (arith, short, c.digit_count.ensures, c.requires),
    )

pub returns : goal.returns
returns c =
    let short : length (decimal c.args.n) ≤ 20 =
    length-decimal-le 20 c.args.n (omega arith) (omega arith) (search rules) in
    digits_placed c.args.buffer.now c.write_digits.new.buf (decimal c.args.n) c.args.at
    c.write_digits.result (c.args.at + c.digit_count.result) c.write_digits.ensures.start
    (omega (arith, c.digit_count.ensures))
    (omega (arith, short, c.digit_count.ensures, c.requires)) c.write_digits.ensures.written
    c.write_digits.ensures.before

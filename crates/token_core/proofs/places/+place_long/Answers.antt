use Rattle.std.proofs.Common.{◌≡◌, ◌+◌, ◌/◌, ◌%◌, ◌≤◌, ◌++◌, List, ℕ, length, arith, sym, subst}
use Rattle.std.specs.Fmt.{decimal}
use Rattle.std.proofs.lemmas.Fmt.{length-decimal-le_wide}
use Rattle.std.proofs.Common.{ap, length-append, ◌∙◌}
use Rattle.json.specs.Filled.{Placed}
use Rattle.json.proofs.Printed.Places.{Placed-then}
use Rattle.token_core.specs.Digits.{last_digits}
use Rattle.token_core.proofs.Decimal.{sixteen_last, some_digits}
use Rattle.token_core.proofs.Decimal.{splits_sixteen}
use Rattle.token_core.proofs.places.+place_long.Goals as goal

pub place_last-requires-clause-after : goal.place_last-requires-clause-after
place_last-requires-clause-after t c =
    omega (
      arith,
      c.place_long-end.ensures.moved,
      some_digits (c.args.n / c.from-2.result) (omega (arith, c.from-2.ensures)),
    )

pub place_last-requires-clause-room : goal.place_last-requires-clause-room
place_last-requires-clause-room t c =
    let high = c.args.n / 10000000000000000 in
    let low = c.args.n % 10000000000000000 in
    let large : 10000000000000000 ≤ c.args.n = omega (arith, c.if-n-from.false, c.from.ensures) in
    let short : length (decimal c.args.n) ≤ 39 =
    length-decimal-le_wide 39 c.args.n (omega arith) (omega arith) (omega arith) in
    let both : length (decimal c.args.n)
    ≡ length (decimal high) + length (last_digits 10000000000000000 low) =
    ap length (splits_sixteen c.args.n large (omega arith))
    ∙ length-append (decimal high) (last_digits 10000000000000000 low) in
    omega (
      arith,
      short,
      both,
      sixteen_last low (omega arith),
      rw c.from-2.ensures at c.place_long-end.ensures.moved,
      c.place_long-end.ensures.len,
      c.requires,
    )

pub returns : goal.returns
returns t c =
    let large : 10000000000000000 ≤ c.args.n = omega (arith, c.if-n-from.false, c.from.ensures) in
    let digits : decimal (c.args.n / c.from-2.result)
    ++ last_digits 10000000000000000 (c.args.n % c.from-3.result) ≡ decimal c.args.n =
    rw (c.from-2.ensures, c.from-3.ensures)
    (sym (splits_sixteen c.args.n large (omega arith))) in
    subst (λ (ds : List ℕ). Placed c.args.buffer.now c.place_last.new.buffer c.args.at ds
    c.place_last.result) digits (Placed-then c.place_long-end.ensures c.place_last.ensures)

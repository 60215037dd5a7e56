use Rattle.std.proofs.Common.{◌≡◌, ◌+◌, ◌/◌, ◌≤◌, length, arith, rules}
use Rattle.std.specs.Fmt.{decimal}
use Rattle.std.proofs.lemmas.Fmt.{length-decimal-le}
use Rattle.itoa.proofs.Decimal.{length_one, length_two, length_pair, length_four}
use Rattle.token_core.proofs.places.digit_count.Goals.{then-left-lt10, else-left-lt10}
use Rattle.token_core.proofs.places.digit_count.Goals.{then-left-lt1000, else-left-lt1000}
use Rattle.token_core.proofs.places.digit_count.Goals as goal

pub overflow_add-count : goal.overflow_add-count
overflow_add-count c =
    let short : length (decimal c.args.n) ≤ 20 =
    length-decimal-le 20 c.args.n (omega arith) (omega arith) (search rules) in
    omega (arith, c.fours.invariant.1, short)

pub fours-preserved : goal.fours-preserved
fours-preserved c =
    let four : length (decimal c.fours.left) ≡ length (decimal (c.fours.left / 10000)) + 4 =
    length_four c.fours.left (omega arith) (search rules) in (
      omega (arith, c.fours.invariant.0),
      omega (arith, c.fours.invariant.1, four),
    )

pub overflow_add-result : goal.overflow_add-result
overflow_add-result c =
    let short : length (decimal c.args.n) ≤ 20 =
    length-decimal-le 20 c.args.n (omega arith) (omega arith) (search rules) in
    omega (arith, c.fours.invariant.1, short)

pub overflow_add-result-else-left-lt100 : goal.overflow_add-result-else-left-lt100
overflow_add-result-else-left-lt100 c =
    let short : length (decimal c.args.n) ≤ 20 =
    length-decimal-le 20 c.args.n (omega arith) (omega arith) (search rules) in
    omega (arith, c.fours.invariant.1, short)

pub returns-after-left-lt10 : goal.returns-after-left-lt10
returns-after-left-lt10 c = elim c.if-left-lt10.branch [
  | then-left-lt10 w ↦
      let one = length_one c.fours.left w.if-left-lt10.true in
      omega (arith, w.result-is, one, c.fours.invariant.1)
  | else-left-lt10 w ↦
      let two = length_two c.fours.left w.if-left-lt10.false (omega arith) in
      omega (arith, w.result-is, two, c.fours.invariant.1)
]

pub returns-after-left-lt1000 : goal.returns-after-left-lt1000
returns-after-left-lt1000 c =
    let pair : length (decimal c.fours.left) ≡ length (decimal (c.fours.left / 100)) + 2 =
    length_pair c.fours.left (omega arith) (omega arith) in
    elim c.if-left-lt1000.branch [
      | then-left-lt1000 w ↦
          let one = length_one (c.fours.left / 100) (omega (arith, w.if-left-lt1000.true)) in
          omega (arith, w.result-is, one, pair, c.fours.invariant.1)
      | else-left-lt1000 w ↦
          let two = length_two (c.fours.left / 100) (omega (arith, w.if-left-lt1000.false))
          (omega arith) in omega (arith, w.result-is, two, pair, c.fours.invariant.1)
    ]

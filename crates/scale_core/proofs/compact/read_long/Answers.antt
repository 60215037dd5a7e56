use Rattle.std.proofs.Common.{◌+◌, ◌≡◌, ◌∙◌, arith, suc}
use Rattle.scale_core.proofs.ReadModes.{are_bytes, integer_at-too_long, judged_answers}
use Rattle.scale_core.proofs.ReadModes.{long_number, not_too_long, too_long}
use Rattle.scale_core.proofs.compact.read_long.Goals as goal

pub returns-then-bytes-count-clause-reads : goal.returns-then-bytes-count-clause-reads
returns-then-bytes-count-clause-reads c = (
  c.args.bytes.now,
  integer_at-too_long c.args.target c.args.bytes.now c.args.first c.requires.front
      (too_long c.args.target c.args.first c.requires.long
      (omega (arith, c.if-bytes-count.true, c.bytes.ensures.exact, c.from-count.ensures))),
  omega arith,
)

pub returns-clause-reads : goal.returns-clause-reads
returns-clause-reads c =
    let k = c.from-count.result + 4 in
    let there = c.in_ok-number.ensures in
    let next : k + 1 ≡ suc k = omega arith in
    let named = there.1
    ∙ long_number c.args.bytes.now c.args.first k c.requires.front c.requires.long in
    judged_answers c.args.target c.args.bytes.now c.args.first c.in_ok-number.number (k + 1)
    (are_bytes c.args.bytes.now (λ i. omega (arith, c.type_inv.bytes i))) c.requires.front
    (not_too_long c.args.target c.args.first c.requires.long
    (omega (arith, c.if-bytes-count.false, c.bytes.ensures.exact, c.from-count.ensures)))
    (rw c.requires.long (omega (arith, c.from-count.ensures))) (omega (arith, there.0))
    (rw next named) (omega arith) c.judge.result c.judge.ensures.exact

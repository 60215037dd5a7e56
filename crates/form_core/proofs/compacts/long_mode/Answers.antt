use Rattle.std.proofs.Common.{drop, arith, subst}
use Rattle.scale_core.specs.Number.{AreBytes}
use Rattle.scale_core.proofs.ReadModes.{are_bytes}
use Rattle.form_core.proofs.WholeCompacts.{long_is, word_is}
use Rattle.form_core.proofs.compacts.long_mode.Goals as goal

pub returns : goal.returns
returns c =
    let is = c.in-Some.ensures.cases.0 in
    let are = are_bytes c.args.piece.now (λ i. omega (arith, c.type_inv.piece i)) in
    let rest = c.in-Some.rest.now in
    let read = word_is 8 rest c.in-Ok.word (drop c.in-Ok.field-0-1 rest) c.in-Ok.ensures.1 in
    rw is
    (long_is c.args.target c.in-Some.first.now rest c.in-Ok.word c.from-count.result
    (subst AreBytes is are) read.0 read.1 c.from-count.ensures c.if-first-ne3.false
    c.if-count-gt8.false (omega (arith, c.if-bytes-count.false, c.bytes.ensures.exact))
    c.if-number-lt1073741824.false c.if-number-count-eq0.false)

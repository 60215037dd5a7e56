use Rattle.std.proofs.Common.{rules, ◌≡◌, ◌-◌, length, take, drop, None, ap, arith}
use Rattle.std.proofs.lemmas.List.{length-drop, take_all}
use Rattle.widths_core.specs.RunBytes.{run_bytes}
use Rattle.form_core.proofs.WholeRuns.{bytes_read, no_length, too_few_bytes}
use Rattle.form_core.proofs.runs.bytes_at_front.Goals as goal

pub returns-clause-some : goal.returns-clause-some
returns-clause-some c =
    let piece = c.args.piece.now in
    let start = c.in_ok-len.start in
    let rest = drop start piece in
    let whole : take (length piece - start) rest ≡ rest =
    take_all (length piece - start) rest (omega (arith, length-drop start piece)) in
    rw (← c.bytes-bytes.ensures.exact) at (bytes_read c.args.kind piece _ c.in_ok-len.len start
    c.in_ok-len.ensures.some
    (omega (arith, c.bytes-bytes.ensures.bound, c.bytes-bytes.ensures.exact))
    (omega (arith, c.if-rest-bytes.false, ap length whole, c.bytes-bytes.ensures.exact))
    (ap (take (run_bytes c.args.kind c.in_ok-len.len)) whole))

pub returns-in_err-len-clause-none : goal.returns-in_err-len-clause-none
returns-in_err-len-clause-none c =
    let none : c.from_residual.result ≡ None = search rules in
    rw none (no_length c.args.kind c.args.piece.now c.in_err-len.ensures.none)

pub returns-then-rest-bytes-clause-none : goal.returns-then-rest-bytes-clause-none
returns-then-rest-bytes-clause-none c =
    let piece = c.args.piece.now in
    let start = c.in_ok-len.start in
    let rest = drop start piece in
    let whole : take (length piece - start) rest ≡ rest =
    take_all (length piece - start) rest (omega (arith, length-drop start piece)) in
    too_few_bytes c.args.kind piece c.in_ok-len.len rest c.in_ok-len.ensures.some.read
    (omega (arith, c.if-rest-bytes.true, ap length whole, c.bytes-bytes.ensures.exact))

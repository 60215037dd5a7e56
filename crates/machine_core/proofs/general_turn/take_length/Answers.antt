use Rattle.std.proofs.Common.{inr, refl}
use Rattle.std.proofs.lemmas.Result.{err_from_is_err_and}
use Rattle.machine_core.proofs.steps.FormSplits.{length_compact}
use Rattle.machine_core.proofs.steps.LengthAdding.{length_read, length_refused}
use Rattle.machine_core.proofs.general_turn.take_length.Goals as goal

pub returns-in_err-len : goal.returns-in_err-len
returns-in_err-len g c =
    let k = c.args.kind in
    let own = c.args.own.now in
    let p = err_from_is_err_and c.from_residual.result c.from_residual.ensures.1 in
    rw (p.1, p.2) (
      length_refused k c.args.builder.now own c.in_err-len.field-0.0.reason
          c.in_err-len.field-0.0.at c.requires.next c.requires.counted c.requires.whole
          (rw (length_compact k own c.requires.counted) c.in_err-len.ensures),
      refl,
    )

pub returns : goal.returns
returns g c =
    let k = c.args.kind in
    let own = c.args.own.now in
    let len = c.in_ok-len.len in
    inr (
      k,
      len,
      refl,
      length_read k own len c.requires.counted c.requires.whole
          (rw (length_compact k own c.requires.counted) c.in_ok-len.ensures),
      c.open_run.ensures,
    )

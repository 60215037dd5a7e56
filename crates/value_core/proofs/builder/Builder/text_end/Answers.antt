use Rattle.std.proofs.Common.{Ok, ap, arith, refl}
use Rattle.value_core.proofs.Wanted.{text_clean, text_whole}
use Rattle.value_core.proofs.builder.Builder.text_end.Goals as goal

pub end_run-requires-clause-whole : goal.end_run-requires-clause-whole
end_run-requires-clause-whole g c = text_whole c.args.self.now
    (rw (← c.missing_text.ensures, c.in_ok-missing_text.was)
    (ap Ok (omega (arith, c.if-branch-gt0.false))))

pub end_run-requires-clause-clean : goal.end_run-requires-clause-clean
end_run-requires-clause-clean g c = text_clean c.args.self.now c.in_ok-missing_text.field-0
    (rw (← c.missing_text.ensures, c.in_ok-missing_text.was) refl)

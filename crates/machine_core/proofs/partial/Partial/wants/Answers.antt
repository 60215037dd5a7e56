use Rattle.std.proofs.Common.{subst, sym, ◌∙◌, arith, ltb-true}
use Rattle.machine_core.specs.Turned.{WantsBytes}
use Rattle.machine_core.proofs.steps.FormSplits.{split_bytes}
use Rattle.machine_core.proofs.steps.OpenRuns.{is_open, run_waits}
use Rattle.machine_core.proofs.steps.TurnReports.{wants_more}
use Rattle.machine_core.proofs.partial.Partial.wants.Goals as goal

pub returns-clause-wants : goal.returns-clause-wants
returns-clause-wants g c = λ is.
    let s = c.args.self.now in
    let at = c.in-Some.ensures in
    (wants_more s.built s.carry c.in-Some.form at.sound.carried at.next
    (split_bytes c.bytes_form.result c.in-Some.form (sym c.is_some.ensures ∙ is)
    c.bytes_form.ensures.some) at.closed).1

pub returns-then-is_run_open-clause-wants : goal.returns-then-is_run_open-clause-wants
returns-then-is_run_open-clause-wants g c = λ yes.
    let b = c.self.inside.builder in
    let k = c.self.inside.carry in
    let missing = c.run_missing.result in
    subst WantsBytes c.self.view_is (run_waits b k missing
    (is_open b k missing c.self.invariant.run_next c.run_missing.ensures.lacks)
    (omega (arith, ltb-true 0 missing yes)))

use Rattle.std.proofs.Common.{◌∙◌, ◌≤◌, ap, arith, rules, sym, List, ℕ, drop, refl}
use Rattle.std.proofs.Common.{subst}
use Rattle.std.proofs.lemmas.List.{length-take, take-append-drop}
use Rattle.machine_core.specs.Turned.{StepReports, WantsBytes, unused_stop}
use Rattle.machine_core.proofs.steps.RunEnds.{end_reports}
use Rattle.machine_core.proofs.steps.TurnReports.{none_of, some_missing}
use Rattle.machine_core.proofs.steps.OpenRuns.{is_open, run_waits}
use Rattle.machine_core.proofs.steps.UnusedBits.{clean_missing, unused_step}
use Rattle.machine_core.specs.Running.{Running}
use Rattle.std.specs.Prelude.{Err}
use Rattle.machine_core.proofs.partial.Partial.run_turn.Goals as goal

pub returns-then-missing-eq0-clause-reports : goal.returns-then-missing-eq0-clause-reports
returns-then-missing-eq0-clause-reports g c =
    end_reports c.args.self.now c.run_end.new.self c.args.piece.now c.run_end.result
    c.run_end.ensures.reports

pub returns-then-is_empty-clause-reports : goal.returns-then-is_empty-clause-reports
returns-then-is_empty-clause-reports g c =
    let b = c.self.inside.builder in
    let k = c.self.inside.carry in
    let missing = c.run_missing-missing.result in (
      refl,
      (
        none_of c.args.piece.now c.if-is_empty.ensures,
        subst WantsBytes c.self.view_is (run_waits b k missing
            (is_open b k missing c.self.invariant.run_next c.run_missing-missing.ensures.lacks)
            (some_missing missing c.if-missing-eq0.false)),
      ),
    )

pub returns-clause-reports : goal.returns-clause-reports
returns-clause-reports g c =
    subst (λ (l : List ℕ). StepReports c.args.self.now c.run_rest.new.self l c.run_rest.result)
    (take-append-drop c.run_missing-missing.result c.args.piece.now)
    (c.run_rest.ensures.reports (drop c.run_missing-missing.result c.args.piece.now))

pub unused_stop-requires-clause-short : goal.unused_stop-requires-clause-short
unused_stop-requires-clause-short g c =
    omega (
      arith,
      c.in-Some.ensures.within,
      length-take c.min.result c.args.piece.now,
      c.min.ensures,
      c.run_missing-missing.ensures.bound,
    )

pub returns-in-Some-clause-reports : goal.returns-in-Some-clause-reports
returns-in-Some-clause-reports g c =
    let b = c.self.inside.builder in
    let k = c.self.inside.carry in
    let missing = c.run_missing-missing.result in
    let n = is_open b k missing c.self.invariant.run_next c.run_missing-missing.ensures.lacks in
    let few : c.min.result ≤ missing = search rules in
    let stopped = c.unused_stop.ensures
    ∙ ap (λ (s : Running). unused_stop s.built.run c.in-Some.after) (sym c.self.view_is) in
    subst (λ (s : Running). StepReports s c.args.self.now c.args.piece.now
    (Err c.unused_stop.result)) c.self.view_is
    (unused_step b k missing n c.args.self.now c.args.piece.now c.min.result c.in-Some.after
    c.unused_stop.result few (sym c.unused_in.ensures.exact ∙ c.in-Some.is) stopped)

pub run_piece-requires-clause-clean : goal.run_piece-requires-clause-clean
run_piece-requires-clause-clean g c =
    clean_missing (record { built = c.self.inside.builder; carry = c.self.inside.carry })
    c.args.self.now c.run_missing-missing.result c.min.result c.args.piece.now c.unused_in.result
    c.self.view_is c.min.ensures c.unused_in.ensures.exact c.in_default.is

pub run_rest-requires-clause-clean : goal.run_rest-requires-clause-clean
run_rest-requires-clause-clean g c =
    clean_missing (record { built = c.self.inside.builder; carry = c.self.inside.carry })
    c.args.self.now c.run_missing-missing.result c.min.result c.args.piece.now c.unused_in.result
    c.self.view_is c.min.ensures c.unused_in.ensures.exact c.in_default.is

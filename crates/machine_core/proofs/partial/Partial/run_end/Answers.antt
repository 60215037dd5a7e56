use Rattle.std.proofs.Common.{rules, ◌≡◌, ℕ, ◌+◌, ◌-◌, ◌<◌, ◌≤◌, ◌^◌, arith, ap, subst, sym, ◌∙◌}
use Rattle.std.proofs.Common.{length}
use Rattle.std.proofs.Common.{IfSome, None, Option, Some}
use Rattle.scale_core.specs.Compact.{compact}
use Rattle.value_core.specs.Built.{Pieces, pieces_bytes}
use Rattle.value_core.specs.Refusals.{bad_text}
use Rattle.machine_core.specs.Running.{Running}
use Rattle.machine_core.specs.Turned.{EndReports, EndsTurns, WantsMemory}
use Rattle.machine_core.specs.declared.reason.DecodeReason.TheVariants as reason
use Rattle.machine_core.specs.declared.turned.Stopped.TheVariants as stop
use Rattle.machine_core.proofs.steps.TurnReports.{of_fields}
use Rattle.machine_core.proofs.steps.OpenRuns.{bad_all, bad_reports, bad_within, end_wants}
use Rattle.machine_core.proofs.steps.OpenRuns.{end_whole, ended_running, ended_reports, open_of}
use Rattle.machine_core.proofs.partial.Partial.run_end.Goals as goal
use Rattle.std.specs.Prelude.{Ok}

-- the length that is reported for an open run
told_len : (len : ℕ) (run : Option Pieces) (t : Pieces) → run ≡ Some t →
    IfSome run (λ x. len ≡ x.len) → t.len ≡ len
told_len len run t is h = sym (subst (λ (o : Option Pieces). IfSome o (λ x. len ≡ x.len)) is h)

pub overflow_add-result : goal.overflow_add-result
overflow_add-result g c =
    let b = c.self.inside.builder in
    let k = c.self.inside.carry in
    let end = open_of b k 0 c.args.self.now c.self.view_is c.requires.next c.requires.whole in
    let bad : bad_text b.run ≡ Some c.in-Some.valid = sym c.bad_text.ensures ∙ c.in-Some.is in
    let len = told_len c.run_len-run_len.result b.run end.pieces end.open_is
    c.run_len-run_len.ensures in
    let small : c.run_len-run_len.result < 2 ^ 32 = search rules in
    record {
      fits = omega (
        arith,
        c.compact_len-before.ensures.bound,
        bad_within b k end c.in-Some.valid bad,
        len,
        small,
      );
    }

pub returns-in-Some-clause-reports : goal.returns-in-Some-clause-reports
returns-in-Some-clause-reports g c =
    let b = c.self.inside.builder in
    let k = c.self.inside.carry in
    let end = open_of b k 0 c.args.self.now c.self.view_is c.requires.next c.requires.whole in
    let bad : bad_text b.run ≡ Some c.in-Some.valid = sym c.bad_text.ensures ∙ c.in-Some.is in
    let len = told_len c.run_len-run_len.result b.run end.pieces end.open_is
    c.run_len-run_len.ensures in
    let before = c.compact_len-before.result in
    let valid = c.in-Some.valid in
    let count : before ≡ length (compact end.pieces.len) = c.compact_len-before.ensures.exact
    ∙ ap (λ (n : ℕ). length (compact n)) (c.from.ensures ∙ sym len) in
    let all = before + c.run_len-run_len.result in
    let last : c.args.count ≤ end.pieces.len = omega (
      arith,
      end.lacks,
      ap (λ (o : Option Pieces). length (pieces_bytes o)) end.open_is,
      bad_all b k end valid bad,
      subst (λ (s : Running). c.args.count ≤ length (pieces_bytes s.built.run))
          (sym c.self.view_is) c.requires.last,
    ) in
    let held : all ≡ c.args.count + (all - c.args.count) = omega (arith, last, len) in
    λ rest. subst (λ (s : Running). EndsTurns s rest
    (stop.Refused (c.args.count + (all - c.args.count)) reason.BadUtf8 (before + valid) all))
    c.self.view_is
    (subst (λ (m : ℕ). EndsTurns (of_fields b k) rest
    (stop.Refused m reason.BadUtf8 (before + valid) all)) held
    (subst (λ (m : ℕ). EndsTurns (of_fields b k) rest
    (stop.Refused (before + m) reason.BadUtf8 (before + valid) (before + m))) len
    (bad_reports b k end valid before bad count rest)))

pub close_run-requires-clause-whole : goal.close_run-requires-clause-whole
close_run-requires-clause-whole g c =
    let b = c.self.inside.builder in
    let k = c.self.inside.carry in
    let end = open_of b k 0 c.args.self.now c.self.view_is c.requires.next c.requires.whole in
    end_whole b k end

pub invariant_of-self-2 : goal.invariant_of-self-2
invariant_of-self-2 g c =
    let b = c.self.inside.builder in
    let k = c.self.inside.carry in
    let end = open_of b k 0 c.args.self.now c.self.view_is c.requires.next c.requires.whole in
    let good : bad_text b.run ≡ None = search rules in
    ended_running b c.close_run.new.self k end good c.in_default-close_run.ensures.ok

pub returns-clause-reports : goal.returns-clause-reports
returns-clause-reports g c =
    let b = c.self.inside.builder in
    let k = c.self.inside.carry in
    let end = open_of b k 0 c.args.self.now c.self.view_is c.requires.next c.requires.whole in
    let good : bad_text b.run ≡ None = search rules in
    subst (λ (s : Running). EndReports s (of_fields c.close_run.new.self k) c.args.count
    (Ok c.args.count)) c.self.view_is
    (ended_reports b c.close_run.new.self k end c.args.count good c.in_default-close_run.ensures.ok)

pub returns-in-Err-clause-reports : goal.returns-in-Err-clause-reports
returns-in-Err-clause-reports g c =
    let b = c.self.inside.builder in
    let k = c.self.inside.carry in
    let end = open_of b k 0 c.args.self.now c.self.view_is c.requires.next c.requires.whole in
    let good : bad_text b.run ≡ None = search rules in
    λ rest. subst (λ (s : Running). WantsMemory s rest) c.self.view_is (end_wants b k end good rest)

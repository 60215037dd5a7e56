use Rattle.std.proofs.Common.{◌≤◌, refl, ◌∙◌, subst, arith}
use Rattle.value_core.specs.Built.{Built}
use Rattle.machine_core.specs.Running.{Running}
use Rattle.machine_core.specs.Turned.{PieceReports, StepReports}
use Rattle.machine_core.proofs.steps.ByteArrays.{array_piece, array_waits, at_array}
use Rattle.machine_core.proofs.steps.TurnReports.{none_of, of_fields}
use Rattle.machine_core.proofs.partial.Partial.byte_array_turn.Goals as goal

pub returns-then-is_empty-clause-reports : goal.returns-then-is_empty-clause-reports
returns-then-is_empty-clause-reports g c =
    let s = c.args.self.now in
    let some : 1 ≤ c.args.len = omega (arith, c.in-Untouched.ensures.short refl) in (
      c.in-Untouched.ensures.reports,
      (
        none_of c.args.piece.now c.if-is_empty.ensures,
        array_waits s.built s.carry c.args.len c.requires.carried c.requires.next
            c.requires.closed some,
      ),
    )

pub returns-clause-reports : goal.returns-clause-reports
returns-clause-reports g c =
    let b = c.self.inside.builder in
    let k = c.self.inside.carry in
    let seen = c.self.view_is ∙ c.in-Untouched.ensures.reports in
    let a = at_array b k c.args.len c.args.self.now seen c.self.invariant
    c.requires.next c.requires.closed in
    subst (λ (s : Running). StepReports s c.run_piece.new.self c.args.piece.now c.run_piece.result)
    seen
    (array_piece b k c.args.len c.run_piece.new.self c.args.piece.now c.run_piece.result a
    (subst (λ (x : Built). PieceReports (of_fields x k) c.run_piece.new.self c.args.piece.now
    c.run_piece.result) c.open_run.ensures c.run_piece.ensures.reports))

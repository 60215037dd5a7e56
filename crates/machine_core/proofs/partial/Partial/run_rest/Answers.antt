use Rattle.std.proofs.Math.Seq.{take-append_seam}
use Rattle.std.proofs.Common.{◌∙◌, ap, sym, ◌++◌, ◌≤◌, arith, length, length-append, subst}
use Rattle.value_core.specs.Built.{Built, unused_in}
use Rattle.machine_core.specs.Running.{IsRunNext, Running}
use Rattle.machine_core.specs.Turned.{StepReports, WantsMemory}
use Rattle.machine_core.proofs.steps.RunEnds.{rest_comes, rest_reports}
use Rattle.machine_core.proofs.steps.OpenRuns.{piece_running, piece_wants}
use Rattle.machine_core.proofs.partial.Partial.run_rest.Goals as goal

pub returns-in-Err-clause-reports : goal.returns-in-Err-clause-reports
returns-in-Err-clause-reports g c = λ later.
    let b = c.self.inside.builder in
    let k = c.self.inside.carry in
    let rest = c.args.rest.now in
    let comes = rest_comes b k rest c.args.self.now c.self.view_is c.requires.next c.requires.lacks
    c.requires.clean in
    let there : length rest ≤ length (rest ++ later) = omega (arith, length-append rest later) in
    subst (λ (s : Running). WantsMemory s (rest ++ later)) c.self.view_is
    (piece_wants b k (length rest) (rest ++ later) (length rest) comes.opened (omega arith) there
    c.requires.some (ap (unused_in b.run) (take-append_seam rest later) ∙ comes.clean))

pub returns-clause-reports : goal.returns-clause-reports
returns-clause-reports g c = λ later.
    let b = c.self.inside.builder in
    let k = c.self.inside.carry in
    let rest = c.args.rest.now in
    let comes = rest_comes b k rest c.args.self.now c.self.view_is c.requires.next c.requires.lacks
    c.requires.clean in
    subst (λ (s : Running). StepReports s c.run_end.new.self (rest ++ later) c.run_end.result)
    c.self.view_is
    (rest_reports b c.extend_run.new.self k c.run_end.new.self rest later c.run_end.result
    comes.opened c.requires.some comes.clean c.in_default.ensures.ok c.run_end.ensures.reports)

pub invariant_of-self-2 : goal.invariant_of-self-2
invariant_of-self-2 g c =
    let b = c.self.inside.builder in
    let k = c.self.inside.carry in
    let rest = c.args.rest.now in
    let comes = rest_comes b k rest c.args.self.now c.self.view_is c.requires.next c.requires.lacks
    c.requires.clean in
    rw c.in_default.ensures.ok
    (piece_running b k (length rest) rest comes.opened c.self.invariant comes.clean)

pub run_end-requires-clause-next : goal.run_end-requires-clause-next
run_end-requires-clause-next g c =
    let b = c.self.inside.builder in
    let k = c.self.inside.carry in
    let rest = c.args.rest.now in
    let comes = rest_comes b k rest c.args.self.now c.self.view_is c.requires.next c.requires.lacks
    c.requires.clean in
    let running =
    piece_running b k (length rest) rest comes.opened c.self.invariant comes.clean in
    subst (λ (x : Built). IsRunNext x k x.run) (sym c.in_default.ensures.ok) running.run_next

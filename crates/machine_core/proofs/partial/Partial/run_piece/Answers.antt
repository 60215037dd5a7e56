use Rattle.std.proofs.Common.{◌≡◌, ◌∙◌, None, ap, sym, subst, take, rules, arith, ◌≤◌, length}
use Rattle.machine_core.proofs.steps.OpenRuns.{is_open, open_of, piece_running}
use Rattle.machine_core.proofs.steps.OpenRuns.{piece_wants, take_min}
use Rattle.value_core.specs.Built.{unused_in}
use Rattle.machine_core.specs.Running.{Running}
use Rattle.machine_core.proofs.partial.Partial.run_piece.Goals as goal

pub returns-in-Err-clause-reports : goal.returns-in-Err-clause-reports
returns-in-Err-clause-reports g c =
    let few : c.min-count.result ≤ c.args.missing = search rules in
    let there : c.min-count.result ≤ length c.args.piece.now = search rules in
    let some : 1 ≤ c.min-count.result =
    omega (arith, c.min-count.ensures, c.requires.there, c.requires.some) in
    piece_wants c.args.self.now.built c.args.self.now.carry c.args.missing c.args.piece.now
    c.min-count.result
    (is_open c.args.self.now.built c.args.self.now.carry c.args.missing c.requires.next
    c.requires.lacks)
    few there some (ap (unused_in c.args.self.now.built.run)
    (rw c.min-count.ensures (take_min c.args.missing c.args.piece.now)) ∙ c.requires.clean)

pub invariant_of-self-2 : goal.invariant_of-self-2
invariant_of-self-2 g c =
    let b = c.self.inside.builder in
    let k = c.self.inside.carry in
    let piece = c.args.piece.now in
    let n = open_of b k c.args.missing c.args.self.now c.self.view_is c.requires.next
    c.requires.lacks in
    let same : take c.min-count.result piece ≡ take c.args.missing piece =
    rw c.min-count.ensures (take_min c.args.missing piece) in
    let clean = subst (λ (s : Running). unused_in s.built.run (take c.args.missing piece) ≡ None)
    (sym c.self.view_is) c.requires.clean in
    rw c.in_default.ensures.ok (piece_running b k c.args.missing (take c.min-count.result piece) n
    c.self.invariant (ap (unused_in b.run) same ∙ clean))

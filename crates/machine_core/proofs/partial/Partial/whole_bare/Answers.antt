use Rattle.std.proofs.Common.{[], ap, subst, arith}
use Rattle.value_core.specs.Built.{Built}
use Rattle.machine_core.specs.NodeAdds.{AddsBytes}
use Rattle.machine_core.specs.Running.{Running}
use Rattle.machine_core.specs.Turned.{WholeReports}
use Rattle.machine_core.proofs.steps.FormSplits.{have_none}
use Rattle.machine_core.proofs.steps.TurnReports.{at_node, bare_running, bare_reports}
use Rattle.machine_core.proofs.steps.TurnReports.{bare_wants, carry_none, of_fields}
use Rattle.machine_core.proofs.partial.Partial.whole_bare.Goals as goal
use Rattle.machine_core.proofs.partial.Partial.whole_bare.Goals.{in-Ok, in-Err}
use Rattle.machine_core.proofs.steps.Settling.{added_run}

pub invariant_of-self : goal.invariant_of-self
invariant_of-self g c =
    let at = at_node c.args.form c.self.view_is c.requires.next c.requires.closed in
    bare_running c.self.inside.builder c.add_bare.new.builder c.self.inside.carry
    c.args.form c.add_bare.result c.self.invariant at.wants
    (have_none c.args.form c.requires.bare) at.closed c.add_bare.ensures

pub returns-clause-reports : goal.returns-clause-reports
returns-clause-reports g c =
    let b = c.self.inside.builder in
    let new = c.add_bare.new.builder in
    let k = c.self.inside.carry in
    let f = c.args.form in
    let none = have_none c.args.form c.requires.bare in
    let at = at_node f c.self.view_is c.requires.next c.requires.closed in
    λ piece. subst (λ (s : Running). WholeReports s (of_fields new k) piece
    c.match-add_bare.result) c.self.view_is (elim c.match-add_bare.branch [
      | in-Ok w ↦ rw w.result-is
          (let added = bare_reports b new k f c.self.invariant at.wants none
          at.closed (subst (AddsBytes b new []) w.in-Ok.is c.add_bare.ensures) in (
            (omega arith, added.0, added.1),
            (
              carry_none b k f c.self.invariant.carried at.wants none,
              added_run b new [] at.closed
                  (subst (AddsBytes b new []) w.in-Ok.is c.add_bare.ensures),
            ),
          ))
      | in-Err w ↦ let refused = subst (AddsBytes b new []) w.in-Err.is c.add_bare.ensures in
          rw w.result-is (
            bare_wants b k f c.self.invariant
                at.wants none at.closed refused.0 piece,
            ap (λ (x : Built). of_fields x k) refused.1,
          )
    ])

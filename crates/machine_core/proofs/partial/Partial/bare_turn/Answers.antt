use Rattle.std.proofs.Common.{[], subst}
use Rattle.growth_core.specs.Evidence.{evidence}
use Rattle.machine_core.specs.Turned.{WholeReports}
use Rattle.machine_core.specs.declared.turned.Tried.{Tried}
use Rattle.machine_core.specs.declared.turned.Tried.TheVariants as tried
use Rattle.machine_core.proofs.steps.Calls.{same_nodes}
use Rattle.machine_core.proofs.partial.Partial.bare_turn.Goals as goal

pub returns-in-Added-clause-reports : goal.returns-in-Added-clause-reports
returns-in-Added-clause-reports g c = λ piece.
    (subst (λ (t : Tried). WholeReports c.args.self.now c.whole_bare.new.self piece t)
    c.in-Added.is (c.whole_bare.ensures.reports piece)).0

pub returns-in-OutOfMemory-clause-kept : goal.returns-in-OutOfMemory-clause-kept
returns-in-OutOfMemory-clause-kept g c =
    let wants : WholeReports c.args.self.now c.whole_bare.new.self [] (tried.OutOfMemory evidence) =
    subst (λ (t : Tried). WholeReports c.args.self.now c.whole_bare.new.self [] t)
    c.in-OutOfMemory.is (c.whole_bare.ensures.reports []) in
    same_nodes c.args.self.now c.whole_bare.new.self wants.1

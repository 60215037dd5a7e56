use Rattle.std.proofs.Common.{◌++◌, length, sym, ap, ◌∙◌, subst}
use Rattle.value_core.specs.Built.{Built}
use Rattle.machine_core.specs.NodeAdds.{IsWholeLeaf}
use Rattle.machine_core.specs.Running.{Running, IsRunning}
use Rattle.machine_core.specs.Turned.{WantsMemory, WholeReports}
use Rattle.machine_core.specs.declared.turned.Tried.TheVariants as tried
use Rattle.machine_core.proofs.steps.TurnReports.{carries_none, of_fields}
use Rattle.machine_core.proofs.steps.WholeLeaves.{leaf_reports, leaf_running, leaf_wants}
use Rattle.machine_core.proofs.partial.Partial.whole_leaf.Goals as goal

pub invariant_of-self-2 : goal.invariant_of-self-2
invariant_of-self-2 g c =
    let is = subst (λ (s : Running). IsWholeLeaf s.built c.args.own.now c.args.leaf)
    (sym c.self.view_is) c.requires.whole in
    leaf_running c.self.inside.builder c.add_leaf.new.self c.self.inside.carry
    c.args.own.now c.args.leaf
    (carries_none c.self.view_is c.requires.empty) is c.in_default.ensures.ok

pub returns-clause-reports : goal.returns-clause-reports
returns-clause-reports g c =
    let own = c.args.own.now in
    let k = c.self.inside.carry in
    let is = subst (λ (s : Running). IsWholeLeaf s.built own c.args.leaf) (sym c.self.view_is)
    c.requires.whole in
    λ rest.
    subst (λ (s : Running). WholeReports s (of_fields c.add_leaf.new.self k) (own ++ rest)
    (tried.Added (length own))) c.self.view_is
    (leaf_reports c.self.inside.builder c.add_leaf.new.self k own rest c.args.leaf
    (carries_none c.self.view_is c.requires.empty) is c.in_default.ensures.ok)

pub invariant_of-self : goal.invariant_of-self
invariant_of-self g c =
    subst (λ (x : Built). IsRunning x c.self.inside.carry)
    (sym c.in-Err.ensures.err) c.self.invariant

pub returns-in-Err-clause-reports : goal.returns-in-Err-clause-reports
returns-in-Err-clause-reports g c =
    let own = c.args.own.now in
    let k = c.self.inside.carry in
    let is = subst (λ (s : Running). IsWholeLeaf s.built own c.args.leaf) (sym c.self.view_is)
    c.requires.whole in
    λ rest. (
      subst (λ (s : Running). WantsMemory s (own ++ rest)) c.self.view_is
          (leaf_wants c.self.inside.builder k own rest c.args.leaf
          (carries_none c.self.view_is c.requires.empty) is),
      ap (λ (x : Built). of_fields x k) c.in-Err.ensures.err ∙ c.self.view_is,
    )

use Rattle.std.proofs.Common.{◌++◌, length, take, drop, sym, ap, ◌∙◌, subst, arith}
use Rattle.std.proofs.lemmas.List.{length-take-le, take-append-drop}
use Rattle.scale_core.proofs.ReadModes.{are_bytes}
use Rattle.node_core.specs.Leaves.{leaf_head}
use Rattle.value_core.specs.Built.{Built, IsNextLeaf}
use Rattle.machine_core.specs.NodeAdds.{IsWholeLeaf}
use Rattle.machine_core.specs.Running.{Running}
use Rattle.machine_core.specs.Turned.{WantsMemory, WholeReports}
use Rattle.machine_core.specs.declared.turned.Tried.TheVariants as tried
use Rattle.machine_core.proofs.steps.TurnReports.{carries_none, of_fields}
use Rattle.machine_core.proofs.steps.WholeLeaves.{front_is, front_next, leaf_reports, leaf_wants}
use Rattle.machine_core.proofs.partial.Partial.whole_element.Goals as goal

pub add_element-requires-clause-next : goal.add_element-requires-clause-next
add_element-requires-clause-next g c =
    let piece = c.args.piece.now in
    subst (λ (s : Running). IsNextLeaf s.built.walk (leaf_head c.in-Some.leaf))
    (sym c.self.view_is)
    (front_next (g.F.LeafForm.front c.args.form) c.args.self.now piece c.in-Some.leaf
    c.in-Some.count (are_bytes piece (λ i. omega (arith, c.type_inv.piece i))) c.requires.next
    c.in-Some.ensures.whole)

pub returns-clause-reports : goal.returns-clause-reports
returns-clause-reports g c =
    let piece = c.args.piece.now in
    let count = c.in-Some.count in
    let k = c.self.inside.carry in
    let is = subst (λ (s : Running). IsWholeLeaf s.built (take count piece) c.in-Some.leaf)
    (sym c.self.view_is) (front_is (g.F.LeafForm.front c.args.form) c.args.self.now piece
    c.in-Some.leaf count c.requires.next c.in-Some.ensures.within c.in-Some.ensures.whole) in
    let reports = subst (λ (s : Running). WholeReports s (of_fields c.add_element.new.self k)
    (take count piece ++ drop count piece) (tried.Added (length (take count piece))))
    c.self.view_is
    (leaf_reports c.self.inside.builder c.add_element.new.self k (take count piece)
    (drop count piece) c.in-Some.leaf (carries_none c.self.view_is c.requires.empty) is
    c.in_default-add_element.ensures.ok) in
    rw (take-append-drop count piece, length-take-le count piece c.in-Some.ensures.within) at
    reports

pub returns-in-Err-clause-reports :
    goal.returns-in-Err-clause-reports
returns-in-Err-clause-reports g c =
    let piece = c.args.piece.now in
    let count = c.in-Some.count in
    let k = c.self.inside.carry in
    let is = subst (λ (s : Running). IsWholeLeaf s.built (take count piece) c.in-Some.leaf)
    (sym c.self.view_is) (front_is (g.F.LeafForm.front c.args.form) c.args.self.now piece
    c.in-Some.leaf count c.requires.next c.in-Some.ensures.within c.in-Some.ensures.whole) in
    let wants = subst (λ (s : Running). WantsMemory s (take count piece ++ drop count piece))
    c.self.view_is
    (leaf_wants c.self.inside.builder k (take count piece) (drop count piece) c.in-Some.leaf
    (carries_none c.self.view_is c.requires.empty) is) in (
      rw (take-append-drop count piece) at wants,
      ap (λ (x : Built). of_fields x k) c.in-Err.ensures.err ∙ c.self.view_is,
    )

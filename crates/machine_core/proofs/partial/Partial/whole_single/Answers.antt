use Rattle.std.proofs.Common.{drop, subst, arith}
use Rattle.std.proofs.lemmas.List.{take-append-drop}
use Rattle.scale_core.proofs.ReadModes.{are_bytes}
use Rattle.machine_core.specs.Turned.{WholeReports}
use Rattle.machine_core.proofs.steps.WholeLeaves.{front_is, front_next}
use Rattle.machine_core.proofs.partial.Partial.whole_single.Goals as goal

pub whole_leaf-requires-clause-whole : goal.whole_leaf-requires-clause-whole
whole_leaf-requires-clause-whole g c =
    front_is (g.F.LeafForm.front c.args.form) c.args.self.now c.args.piece.now c.in-Some.leaf
    c.in-Some.count c.requires.next c.in-Some.ensures.within c.in-Some.ensures.whole

pub whole_leaf-requires-clause-next : goal.whole_leaf-requires-clause-next
whole_leaf-requires-clause-next g c =
    front_next (g.F.LeafForm.front c.args.form) c.args.self.now c.args.piece.now c.in-Some.leaf
    c.in-Some.count (are_bytes c.args.piece.now (λ i. omega (arith, c.type_inv.piece i)))
    c.requires.next c.in-Some.ensures.whole

pub returns-in-Some : goal.returns-in-Some
returns-in-Some g c =
    subst (λ l. WholeReports c.args.self.now c.whole_leaf.new.self l c.whole_leaf.result)
    (take-append-drop c.in-Some.count c.args.piece.now)
    (c.whole_leaf.ensures.reports (drop c.in-Some.count c.args.piece.now))

use Rattle.std.proofs.Common.{ℕ, List, ◌≤◌, ◌++◌, Err, length, take, drop, sym, ap, subst, arith}
use Rattle.std.proofs.lemmas.List.{length-take-le, take-append-drop}
use Rattle.form_core.specs.NodeForms.{form_of_bytes}
use Rattle.form_core.proofs.Firsts.{whole_front}
use Rattle.value_core.specs.Built.{Built}
use Rattle.machine_core.specs.NodeAdds.{TakesNode}
use Rattle.machine_core.specs.Running.{Running}
use Rattle.machine_core.specs.Turned.{StepReports, WantsMemory, WholeReports, node_turned}
use Rattle.machine_core.specs.declared.node.NodeFault.{NodeFault}
use Rattle.machine_core.proofs.steps.FormSplits.{have_bytes}
use Rattle.machine_core.proofs.steps.TurnReports.{at_node, carries_none, node_wants, of_fields}
use Rattle.machine_core.proofs.steps.TurnReports.{parts_closed, whole_reports}
use Rattle.machine_core.proofs.steps.TurnReports.{whole_running}
use Rattle.machine_core.proofs.partial.Partial.whole_own.Goals.{in-Ok, in-Err-Refused}
use Rattle.machine_core.proofs.partial.Partial.whole_own.Goals.{in-Err-OutOfMemory}
use Rattle.machine_core.proofs.partial.Partial.whole_own.Goals as goal
use Rattle.std.specs.Prelude.{Ok}

pub take_node-requires-clause-whole : goal.take_node-requires-clause-whole
take_node-requires-clause-whole g c =
    let len = c.need-len in
    whole_front (form_of_bytes c.args.form) c.args.piece.now len.result len.ensures.exact
    len.ensures.some (omega (arith, c.if-piece-len.false))

pub invariant_of-self : goal.invariant_of-self
invariant_of-self g c =
    let f = form_of_bytes c.args.form in
    let len = c.need-len in
    let own = whole_front f c.args.piece.now len.result len.ensures.exact len.ensures.some
    (omega (arith, c.if-piece-len.false)) in
    whole_running f c.self.inside.builder c.take_node.new.builder c.self.inside.carry
    (take len.result c.args.piece.now)
    c.take_node.result c.self.invariant (carries_none c.self.view_is c.requires.empty)
    (at_node f c.self.view_is c.requires.next.next c.requires.next.closed) own c.take_node.ensures

pub returns : goal.returns
returns g c =
    let f = form_of_bytes c.args.form in
    let piece = c.args.piece.now in
    let len = c.need-len.result in
    let own = take len piece in
    let rest = drop len piece in
    let b = c.self.inside.builder in
    let new = c.take_node.new.builder in
    let k = c.self.inside.carry in
    let there : len ≤ length piece = omega (arith, c.if-piece-len.false) in
    let none = carries_none c.self.view_is c.requires.empty in
    let at = at_node f c.self.view_is c.requires.next.next c.requires.next.closed in
    let whole = whole_front f piece len c.need-len.ensures.exact c.need-len.ensures.some there in
    subst (λ (s : Running). WholeReports s (of_fields new k) piece c.match-take_node.result)
    c.self.view_is (elim c.match-take_node.branch [
      | in-Ok w ↦ rw w.result-is (
        subst (λ l. StepReports (of_fields b k) (of_fields new k) l (Ok len))
            (take-append-drop len piece)
            (whole_reports f b new k own rest c.take_node.result (Ok len) none at
            (have_bytes c.args.form) whole c.take_node.ensures
            (rw (length-take-le len piece there)
            (ap (λ t. node_turned t 0 len len) (sym w.in-Ok.is)))),
        (
          none,
          parts_closed c.args.form b new own at.closed c.requires.parts w.in-Ok.ensures,
        ),
      )
      | in-Err-Refused w ↦
          let refused = subst (λ (e : NodeFault). TakesNode f b new own (Err e))
          w.in-Err-Refused.field-0-is w.in-Err-Refused.ensures in
          rw w.result-is (ap (λ (x : Built). of_fields x k) refused.1)
      | in-Err-OutOfMemory w ↦
          let short = subst (λ (e : NodeFault). TakesNode f b new own (Err e))
          w.in-Err-OutOfMemory.field-0-is w.in-Err-OutOfMemory.ensures in
          rw w.result-is (
            subst (WantsMemory (of_fields b k)) (take-append-drop len piece)
                (node_wants f b k own rest own at.wants at.closed
                (ap (λ (l : List ℕ). l ++ own) none) short.0),
            ap (λ (x : Built). of_fields x k) short.1,
          )
    ])

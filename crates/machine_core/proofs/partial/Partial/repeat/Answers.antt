use Rattle.std.proofs.Common.{◌-◌, length, take, drop, refl, ap, ◌∙◌, subst, arith}
use Rattle.value_core.specs.Walked.{elements_after}
use Rattle.form_core.specs.Fronts.{form_of_front}
use Rattle.machine_core.specs.Running.{Running}
use Rattle.machine_core.specs.Turned.{ListGoesOn, WholeReports}
use Rattle.machine_core.proofs.steps.Calls.{NodesSoFar, nodes_begin, whole_more}
use Rattle.machine_core.proofs.steps.Moving.{each_turn, few_turn, turn_goes_on, turn_nearer}
use Rattle.machine_core.proofs.partial.Partial.repeat.Goals.{then-is_in_list+else-elements-test}
use Rattle.machine_core.proofs.partial.Partial.repeat.Goals.{else-is_in_list}
use Rattle.machine_core.proofs.partial.Partial.repeat.Goals as goal

pub elements-init : goal.elements-init
elements-init g c = let f = form_of_front (g.F.LeafForm.front c.args.form) in record {
  piece = refl;
  form = refl;
  so_far = nodes_begin c.args.self.now f c.args.piece.now c.args.turns.now.so_far c.requires.next;
  empty = c.requires.empty;
  after = (rw c.walk-then-is_in_list.ensures.same at c.elements_after-after.ensures)
      ∙ ap (λ (s : Running). elements_after s.built.walk) c.self.view_is;
}

pub elements-smaller : goal.elements-smaller
elements-smaller g c =
    let reports = subst (WholeReports c.elements.self c.whole_element-last.new.self
    (take (length c.args.piece.now - c.elements.at) (drop c.elements.at c.args.piece.now)))
    c.in-Added.is c.whole_element-last.ensures.reports in
    turn_nearer c.elements.self c.whole_element-last.new.self c.args.piece.now c.elements.at
    c.in-Added.count reports.0

pub elements-preserved : goal.elements-preserved
elements-preserved g c =
    let i = c.elements.invariant in
    let s = i.so_far in
    let d = c.whole_element-last.new.self in
    let rest = take (length c.args.piece.now - c.elements.at) (drop c.elements.at c.args.piece.now)
    in
    let reports = subst (WholeReports c.elements.self d rest) c.in-Added.is
    c.whole_element-last.ensures.reports in
    let on = turn_goes_on c.args.self.now c.elements.self d c.args.piece.now c.elements.at
    c.in-Added.count s.inside s.moves reports.0 in
    let less = turn_nearer c.elements.self d c.args.piece.now c.elements.at c.in-Added.count
    reports.0 in
    let f = form_of_front (g.F.LeafForm.front c.args.form) in
    let goes_on = subst (ListGoesOn f c.elements.self d) c.in-Added.is
    c.whole_element-last.ensures.goes_on in
    record {
      piece = refl;
      form = refl;
      so_far = record {
        inside = on.0;
        moves = on.1;
        awaits = goes_on.0;
        nearer = omega (arith, s.nearer, less);
        each = each_turn c.args.self.now c.elements.self d rest c.args.turns.now.so_far
            c.elements.turns.so_far c.tick.new.self.so_far c.in-Added.count s.each c.tick.ensures
            reports.0;
        few = few_turn c.args.self.now c.elements.self d rest c.args.turns.now.so_far
            c.elements.turns.so_far c.tick.new.self.so_far c.elements.at c.in-Added.count s.few
            c.tick.ensures reports.0;
      };
      empty = goes_on.1;
      after = omega (arith, i.after, goes_on.2);
    }

pub returns-in_default : goal.returns-in_default
returns-in_default g c =
    whole_more c.args.self.now c.elements.self c.whole_element-last.new.self
    (form_of_front (g.F.LeafForm.front c.args.form)) c.args.piece.now c.elements.at
    c.args.turns.now.so_far c.elements.turns.so_far c.tick.new.self.so_far
    c.whole_element-last.result c.elements.invariant.so_far c.tick.ensures c.requires.next
    c.whole_element-last.ensures.reports

pub whole_single-requires-clause-next : goal.whole_single-requires-clause-next
whole_single-requires-clause-next g c = elim c.if-is_in_list.branch [
  | then-is_in_list+else-elements-test w ↦ rw w.self-is w.elements.invariant.so_far.awaits
  | else-is_in_list w ↦ rw w.self-is c.requires.next
]

pub returns : goal.returns
returns g c =
    let f = form_of_front (g.F.LeafForm.front c.args.form) in
    let start = c.args.turns.now.so_far in
    let so_far : NodesSoFar c.args.self.now c.if-is_in_list.self f c.args.piece.now
    c.if-is_in_list.at start c.if-is_in_list.turns.so_far = elim c.if-is_in_list.branch [
      | then-is_in_list+else-elements-test w ↦ rw (w.self-is, w.turns-is, w.at-is)
          w.elements.invariant.so_far
      | else-is_in_list w ↦ rw (w.self-is, w.turns-is, w.at-is)
          (nodes_begin c.args.self.now f c.args.piece.now start c.requires.next)
    ] in
    whole_more c.args.self.now c.if-is_in_list.self c.whole_single.new.self f c.args.piece.now
    c.if-is_in_list.at start c.if-is_in_list.turns.so_far c.tick-2.new.self.so_far
    c.whole_single.result so_far c.tick-2.ensures c.requires.next c.whole_single.ensures

use Rattle.std.proofs.Common.{◌+◌, ◌≤◌, drop, refl, arith, rules, subst}
use Rattle.machine_core.specs.Turned.{CallSoFar, WholeTurnsReport, left_to_do}
use Rattle.machine_core.specs.declared.turned.Tried.{Tried}
use Rattle.machine_core.proofs.steps.Calls.{call_nearer, call_on, stays_ready, turns_after}
use Rattle.machine_core.proofs.steps.Calls.{left_so_far, turns_end, whole_added}
use Rattle.machine_core.proofs.partial.Partial.whole_turns.Goals.{else-is_empty}
use Rattle.machine_core.proofs.partial.Partial.whole_turns.Goals.{then-is_empty+then-not-is_run_open+in_default}
use Rattle.machine_core.proofs.partial.Partial.whole_turns.Goals as goal

pub nodes-init : goal.nodes-init
nodes-init g c = record {
  piece = refl;
  so_far = left_so_far c.args.self.now c.args.self.now c.args.piece.now c.args.turns.now.so_far
      refl;
  nearer = omega arith;
  ready = (search rules, search rules);
}

pub nodes-smaller : goal.nodes-smaller
nodes-smaller g c =
    let w = c.whole_nodes-taken in
    call_nearer c.nodes.self w.new.self c.args.piece.now c.nodes.at c.nodes.turns.so_far
    w.new.turns.so_far w.result.0 c.in-Added.count
    (whole_added c.nodes.self w.new.self c.args.piece.now c.nodes.at c.nodes.turns.so_far
    w.new.turns.so_far w.result.0 c.in-Added.count w.result.1 c.in-Added.is w.ensures)

pub nodes-preserved : goal.nodes-preserved
nodes-preserved g c =
    let w = c.whole_nodes-taken in
    let i = c.nodes.invariant in
    let added = whole_added c.nodes.self w.new.self c.args.piece.now c.nodes.at
    c.nodes.turns.so_far w.new.turns.so_far w.result.0 c.in-Added.count w.result.1 c.in-Added.is
    w.ensures in
    let less = call_nearer c.nodes.self w.new.self c.args.piece.now c.nodes.at
    c.nodes.turns.so_far w.new.turns.so_far w.result.0 c.in-Added.count added in
    record {
      piece = refl;
      so_far = call_on c.args.self.now c.nodes.self w.new.self c.args.piece.now c.nodes.at
          c.args.turns.now.so_far c.nodes.turns.so_far w.new.turns.so_far w.result.0
          c.in-Added.count i.so_far added;
      nearer = omega (arith, i.nearer, less);
      ready = stays_ready c.nodes.self w.new.self c.args.piece.now c.nodes.at
          c.nodes.turns.so_far w.new.turns.so_far w.result.0 c.in-Added.count w.result.1
          c.in-Added.is w.ensures;
    }

pub returns-in_default-last : goal.returns-in_default-last
returns-in_default-last g c =
    let w = c.whole_nodes-taken in
    let i = c.nodes.invariant in
    subst (λ (last : Tried). WholeTurnsReport c.args.self.now w.new.self c.args.piece.now
    c.args.turns.now.so_far w.new.turns.so_far (c.nodes.at + w.result.0) last) c.in-Added.is
    (turns_after c.args.self.now c.nodes.self w.new.self c.args.piece.now c.nodes.at
    c.args.turns.now.so_far c.nodes.turns.so_far w.new.turns.so_far w.result.0 w.result.1
    i.so_far i.nearer w.ensures)

pub returns-in_default-last-2 : goal.returns-in_default-last-2
returns-in_default-last-2 g c =
    let w = c.whole_nodes-taken in
    let i = c.nodes.invariant in
    turns_after c.args.self.now c.nodes.self w.new.self c.args.piece.now c.nodes.at
    c.args.turns.now.so_far c.nodes.turns.so_far w.new.turns.so_far w.result.0 w.result.1
    i.so_far i.nearer w.ensures

pub returns : goal.returns
returns g c =
    let start = c.args.turns.now.so_far in
    let so_far : CallSoFar c.args.self.now c.if-is_empty.self c.args.piece.now c.if-is_empty.at
    start c.if-is_empty.turns.so_far = elim c.if-is_empty.branch [
      | then-is_empty+then-not-is_run_open+in_default w ↦ rw (w.self-is, w.turns-is, w.at-is)
          w.nodes.invariant.so_far
      | else-is_empty w ↦ rw (w.self-is, w.turns-is, w.at-is)
          (left_so_far c.args.self.now c.args.self.now c.args.piece.now start refl)
    ] in
    let nearer : left_to_do c.if-is_empty.self (drop c.if-is_empty.at c.args.piece.now)
    ≤ left_to_do c.args.self.now c.args.piece.now = elim c.if-is_empty.branch [
      | then-is_empty+then-not-is_run_open+in_default w ↦ rw (w.self-is, w.at-is)
          w.nodes.invariant.nearer
      | else-is_empty w ↦ rw (w.self-is, w.at-is) (omega arith)
    ] in
    turns_end c.args.self.now c.if-is_empty.self c.args.piece.now c.if-is_empty.at start
    c.if-is_empty.turns.so_far c.tick.new.self.so_far so_far nearer c.tick.ensures
    c.is_on_its_way.ensures

use Rattle.std.proofs.Common.{◌+◌, ◌-◌, length, take, drop, refl}
use Rattle.growth_core.specs.Evidence.{evidence}
use Rattle.machine_core.specs.declared.turned.Stopped.TheVariants as stop
use Rattle.machine_core.proofs.steps.Calls.{call_nearer, call_on, left_so_far, same_nodes}
use Rattle.machine_core.proofs.steps.Calls.{tells_stopped}
use Rattle.machine_core.proofs.steps.Calls.{tells_wants, whole_added, whole_left, whole_short}
use Rattle.machine_core.proofs.steps.Moving.{wants_goes_on}
use Rattle.machine_core.proofs.partial.Partial.feed.Goals as goal
use Rattle.std.specs.Prelude.{Err, Ok}

pub turns-init : goal.turns-init
turns-init g c = record {
  piece = refl;
  so_far = left_so_far c.args.self.now c.args.self.now c.args.piece.now c.args.turns.now.so_far
      refl;
}

pub turns-smaller-in-Added : goal.turns-smaller-in-Added
turns-smaller-in-Added g c =
    let w = c.whole_turns-before in
    call_nearer c.turns.self w.new.self c.args.piece.now c.turns.at c.turns.turns.so_far
    w.new.turns.so_far w.result.0 c.in-Added.count
    (whole_added c.turns.self w.new.self c.args.piece.now c.turns.at c.turns.turns.so_far
    w.new.turns.so_far w.result.0 c.in-Added.count w.result.1 c.in-Added.is w.ensures)

pub turns-preserved-in-Added : goal.turns-preserved-in-Added
turns-preserved-in-Added g c =
    let w = c.whole_turns-before in
    record {
      piece = refl;
      so_far = call_on c.args.self.now c.turns.self w.new.self c.args.piece.now c.turns.at
          c.args.turns.now.so_far c.turns.turns.so_far w.new.turns.so_far w.result.0
          c.in-Added.count c.turns.invariant.so_far
          (whole_added c.turns.self w.new.self c.args.piece.now c.turns.at c.turns.turns.so_far
          w.new.turns.so_far w.result.0 c.in-Added.count w.result.1 c.in-Added.is w.ensures);
    }

pub returns-in-OutOfMemory : goal.returns-in-OutOfMemory
returns-in-OutOfMemory g c =
    let w = c.whole_turns-before in
    tells_stopped c.args.self.now c.turns.self w.new.self c.args.piece.now c.turns.at
    c.args.turns.now.so_far c.turns.turns.so_far w.new.turns.so_far w.result.0
    (stop.OutOfMemory evidence)
    c.turns.invariant.so_far
    (whole_short c.turns.self w.new.self c.args.piece.now c.turns.at c.turns.turns.so_far
    w.new.turns.so_far w.result.0 w.result.1 c.in-OutOfMemory.is w.ensures)

pub returns-then-is_finished : goal.returns-then-is_finished
returns-then-is_finished g c =
    let w = c.whole_turns-before in
    let at = c.turns.at + w.result.0 in
    let rest = take (length c.args.piece.now - at) (drop at c.args.piece.now) in
    tells_stopped c.args.self.now c.turns.self w.new.self c.args.piece.now c.turns.at
    c.args.turns.now.so_far c.turns.turns.so_far w.new.turns.so_far w.result.0 stop.Finished
    c.turns.invariant.so_far
    (whole_left c.turns.self w.new.self w.new.self c.args.piece.now c.turns.at
    c.turns.turns.so_far w.new.turns.so_far w.result.0 w.result.1 (Err stop.Finished)
    c.in-Untouched.is w.ensures (refl, c.if-is_finished.ensures.ends refl rest)
    (same_nodes w.new.self w.new.self refl) (λ is. refl))

pub returns-in-Err : goal.returns-in-Err
returns-in-Err g c =
    let w = c.whole_turns-before in
    let t = c.in-Err.ensures in
    tells_stopped c.args.self.now c.turns.self c.turn.new.self c.args.piece.now c.turns.at
    c.args.turns.now.so_far c.turns.turns.so_far w.new.turns.so_far w.result.0
    c.in-Err.stopped c.turns.invariant.so_far
    (whole_left c.turns.self w.new.self c.turn.new.self c.args.piece.now c.turns.at
    c.turns.turns.so_far w.new.turns.so_far w.result.0 w.result.1
    (Err c.in-Err.stopped) c.in-Untouched.is w.ensures t.reports t.kept t.whole)

pub returns-then-wants : goal.returns-then-wants
returns-then-wants g c =
    let wants = c.if-wants.ensures.wants refl in
    tells_wants c.args.self.now c.turns.self c.args.piece.now c.turns.at c.args.turns.now.so_far
    c.turns.turns.so_far c.tick.new.self.so_far c.turns.invariant.so_far c.tick.ensures
    c.if-at-piece.true wants (c.if-wants.ensures.sound refl)
    (λ is. wants_goes_on c.turns.self wants.form wants.next is)

pub turns-smaller : goal.turns-smaller
turns-smaller g c =
    let w = c.whole_turns-before in
    let k = c.in-Ok.count in
    let t = c.in-Ok.ensures in
    call_nearer c.turns.self c.turn.new.self c.args.piece.now c.turns.at c.turns.turns.so_far
    w.new.turns.so_far w.result.0 k
    (whole_left c.turns.self w.new.self c.turn.new.self c.args.piece.now c.turns.at
    c.turns.turns.so_far w.new.turns.so_far w.result.0 w.result.1 (Ok k) c.in-Untouched.is
    w.ensures t.reports t.kept t.whole)

pub turns-preserved : goal.turns-preserved
turns-preserved g c =
    let w = c.whole_turns-before in
    let k = c.in-Ok.count in
    let t = c.in-Ok.ensures in
    record {
      piece = refl;
      so_far = call_on c.args.self.now c.turns.self c.turn.new.self c.args.piece.now c.turns.at
          c.args.turns.now.so_far c.turns.turns.so_far w.new.turns.so_far w.result.0 k
          c.turns.invariant.so_far
          (whole_left c.turns.self w.new.self c.turn.new.self c.args.piece.now c.turns.at
          c.turns.turns.so_far w.new.turns.so_far w.result.0 w.result.1 (Ok k)
          c.in-Untouched.is
          w.ensures t.reports t.kept t.whole);
    }

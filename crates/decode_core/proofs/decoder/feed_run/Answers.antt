use Rattle.std.proofs.Common.{◌-◌, ℕ, List, arith, ap, length, refl, subst}
use Rattle.std.proofs.lemmas.List.{length-take}
use Rattle.scale_core.proofs.ReadModes.{are_bytes}
use Rattle.decode_core.proofs.calls.Counting.{counts_long, counts_refused, counts_short}
use Rattle.decode_core.proofs.calls.FeedRun.{run_done, run_long, run_more, run_held, run_refused}
use Rattle.decode_core.proofs.calls.FeedRun.{refused_has_bytes, run_short, runs_out}
use Rattle.decode_core.proofs.calls.FeedRun.{stops_otherwise, takes_refused}
use Rattle.machine_core.specs.Turned.{RunsOut, StopCounts}
use Rattle.decode_core.proofs.decoder.feed_run.Goals as goal

pub returns-in-Wants-clause-answers : goal.returns-in-Wants-clause-answers
returns-in-Wants-clause-answers g c =
    λ j b e led. run_long j b c.args.piece.now c.within-offered.result.now c.args.run.now
    c.feed-count.new.self c.args.limit c.args.taken c.feed-count.result.0
    c.feed-count.result.1 e c.within-offered.ensures led
    c.feed-count.ensures.reports c.in-Wants.is c.if-offered-piece.true

pub overflow_sub-node : goal.overflow_sub-node
overflow_sub-node g c = run_held c.requires.led.query c.requires.led.bytes c.args.piece.now
    c.within-offered.result.now c.args.run.now c.feed-count.new.self c.args.limit c.args.taken
    c.feed-count.result.0 c.in-Refused.held c.in-Refused.reason
    c.in-Refused.at c.in-Refused.len c.feed-count.result.1
    c.requires.led.is_limit c.within-offered.ensures c.requires.led.led
    c.feed-count.ensures.reports c.in-Refused.is

pub returns-in-Finished-clause-answers :
    goal.returns-in-Finished-clause-answers
returns-in-Finished-clause-answers g c =
    λ j b e led. run_done j b c.args.piece.now c.within-offered.result.now c.args.run.now
    c.feed-count.new.self c.args.limit c.args.taken c.feed-count.result.0
    c.feed-count.result.1 e c.within-offered.ensures led
    c.feed-count.ensures.reports c.in-Finished.is

pub returns-in-Wants-2-clause-answers : goal.returns-in-Wants-2-clause-answers
returns-in-Wants-2-clause-answers g c =
    λ j b e led. run_more j b c.args.piece.now c.within-offered.result.now c.args.run.now
    c.feed-count.new.self c.args.limit c.args.taken c.feed-count.result.0
    c.feed-count.result.1 e c.within-offered.ensures led
    c.feed-count.ensures.reports c.in-Wants-2.is
    (are_bytes c.args.piece.now (λ i. omega (arith, c.type_inv.piece i))) c.if-offered-piece.false

pub returns-in-Refused-clause-answers : goal.returns-in-Refused-clause-answers
returns-in-Refused-clause-answers g c =
    λ j b e led. run_refused j b c.args.piece.now c.within-offered.result.now c.args.run.now
    c.feed-count.new.self c.args.limit c.args.taken c.feed-count.result.0
    c.in-Refused.held c.in-Refused.reason c.in-Refused.at
    c.in-Refused.len c.feed-count.result.1 e c.within-offered.ensures led
    c.feed-count.ensures.reports c.in-Refused.is

pub returns-in-Wants-clause-counts : goal.returns-in-Wants-clause-counts
returns-in-Wants-clause-counts g c = λ j b calls e led before.
    counts_long j b c.args.piece.now c.within-offered.result.now c.args.run.now
    c.feed-count.new.self
    c.args.limit c.args.taken c.feed-count.result.0 c.args.turns.now.so_far
    c.feed-count.new.turns.so_far calls c.feed-count.result.1 e c.within-offered.ensures led
    c.feed-count.ensures.reports c.in-Wants.is c.feed-count.ensures.counts before.1

pub returns-in-Refused-clause-counts : goal.returns-in-Refused-clause-counts
returns-in-Refused-clause-counts g c = λ j b calls e led before.
    let r = c.in-Refused in
    let within = run_held j b c.args.piece.now c.within-offered.result.now c.args.run.now
    c.feed-count.new.self c.args.limit c.args.taken c.feed-count.result.0 r.held r.reason r.at r.len
    c.feed-count.result.1 e c.within-offered.ensures led c.feed-count.ensures.reports r.is in
    counts_refused j b c.within-offered.result.now c.args.run.now c.feed-count.new.self c.args.taken
    c.feed-count.result.0 r.held r.reason r.at r.len c.args.turns.now.so_far
    c.feed-count.new.turns.so_far calls c.feed-count.result.1 led c.feed-count.ensures.reports
    r.is within c.feed-count.ensures.counts before.1

pub returns-in-OutOfMemory-clause-counts : goal.returns-in-OutOfMemory-clause-counts
returns-in-OutOfMemory-clause-counts g c = λ j b calls e led before.
    counts_short j b c.within-offered.result.now c.args.run.now c.feed-count.new.self c.args.taken
    c.feed-count.result.0 c.args.turns.now.so_far c.feed-count.new.turns.so_far calls led
    (subst (StopCounts c.args.run.now c.feed-count.new.self c.within-offered.result.now
    c.args.turns.now.so_far c.feed-count.new.turns.so_far c.feed-count.result.0)
    c.in-OutOfMemory.is c.feed-count.ensures.counts) before.1

pub returns-in-Refused-clause-takes : goal.returns-in-Refused-clause-takes
returns-in-Refused-clause-takes g c =
    let r = c.in-Refused in
    let within = run_held c.requires.led.query c.requires.led.bytes c.args.piece.now
    c.within-offered.result.now c.args.run.now c.feed-count.new.self c.args.limit c.args.taken
    c.feed-count.result.0 r.held r.reason r.at r.len c.feed-count.result.1 c.requires.led.is_limit
    c.within-offered.ensures c.requires.led.led c.feed-count.ensures.reports r.is in
    let few = takes_refused c.args.run.now c.feed-count.new.self c.within-offered.result.now
    c.feed-count.result.0 r.held c.args.taken r.len r.reason r.at c.feed-count.result.1
    c.feed-count.ensures.reports r.is within in (
      few.0,
      omega (
        arith,
        few.1,
        ap length c.within-offered.ensures,
        length-take (c.args.limit - c.args.taken) c.args.piece.now,
      ),
    )

pub returns-in-OutOfMemory-clause-answers : goal.returns-in-OutOfMemory-clause-answers
returns-in-OutOfMemory-clause-answers g c = λ j b e led.
    run_short j b c.args.piece.now c.within-offered.result.now c.args.run.now c.args.limit
    c.args.taken c.feed-count.result.0 e c.within-offered.ensures led
    (λ w. stops_otherwise c.feed-count.result (c.feed-count.ensures.whole w).0 c.in-OutOfMemory.is)
    (runs_out c.args.run.now c.feed-count.new.self c.within-offered.result.now
    c.feed-count.result.0 c.feed-count.result.1 c.feed-count.ensures.reports c.in-OutOfMemory.is)

pub returns-in-OutOfMemory-clause-memory : goal.returns-in-OutOfMemory-clause-memory
returns-in-OutOfMemory-clause-memory g c = λ is. (
  c.feed-count.result.0,
  refl,
  subst (λ (l : List ℕ). RunsOut c.args.run.now l c.feed-count.result.0) c.within-offered.ensures
      (runs_out c.args.run.now c.feed-count.new.self c.within-offered.result.now
      c.feed-count.result.0 c.feed-count.result.1 c.feed-count.ensures.reports
      c.in-OutOfMemory.is),
)

pub returns-in-Refused-clause-memory : goal.returns-in-Refused-clause-memory
returns-in-Refused-clause-memory g c = λ is.
    absurd (refused_has_bytes c.args.run.now c.feed-count.new.self c.within-offered.result.now
    c.feed-count.result.0 c.in-Refused.held c.in-Refused.reason c.in-Refused.at c.in-Refused.len
    c.feed-count.result.1 c.feed-count.ensures.reports c.in-Refused.is is)

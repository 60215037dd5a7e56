use Rattle.std.proofs.Common.{◌≡◌, ◌+◌, ◌++◌, Ok, Err}
use Rattle.std.specs.Prelude.{Result}
use Rattle.decode_core.specs.Viewed.{job_within}
use Rattle.decode_core.specs.Decoding.{AsksMemory, Decoding, IsSmall, RunCounted, RunLed}
use Rattle.decode_core.specs.Decoding.{closing_turns}
use Rattle.machine_core.specs.Running.{Running}
use Rattle.decode_core.specs.declared.fault.DecodeFault.{DecodeFault}
use Rattle.std.proofs.Common.{refl, sym, ap, arith, subst, inl, inr}
use Rattle.decode_core.proofs.calls.Feeding.{ended_stays}
use Rattle.decode_core.proofs.calls.Inside.{has_run, led_inside, led_to_run}
use Rattle.decode_core.proofs.calls.Small.{done_counts, done_small, led_small}
use Rattle.decode_core.proofs.decoder.Decoder.feed.Goals as goal

pub returns-in-Err-clause-answers : goal.returns-in-Err-clause-answers
returns-in-Err-clause-answers g c = λ b led.
    let d = c.self.inside in
    let stays = ended_stays (job_within d) b c.args.piece.now c.in-Err.fault d.taken
    (subst (RunLed (job_within d) b d.taken) c.in-Err.is (led_inside d _ b c.self.view_is led)) in
    ((refl, stays), stays)

pub invariant_of-self-in-Done : goal.invariant_of-self-in-Done
invariant_of-self-in-Done g c =
    let i = c.self.invariant in
    let was = has_run c.self.inside _ i c.in-Ok.is in
    let counts = c.in-Done.ensures.counts _ i.bytes _ refl was.led was.counted in
    record {
      limit = i.limit;
      bytes = i.bytes ++ c.args.piece.now;
      led = inr (c.in-Done.ensures.answers _ i.bytes refl was.led);
      counted =
          (omega (arith, counts.0, c.tick.ensures), omega (arith, counts.1, c.tick.ensures));
    }

pub returns-in-Ended-clause-answers : goal.returns-in-Ended-clause-answers
returns-in-Ended-clause-answers g c = λ b led.
    let d = c.self.inside in
    let ended = c.in-Ended.ensures.answers _ b refl
    (led_to_run d _ _ b c.self.view_is c.in-Ok.is led) in (
      (c.give_up.ensures.after, ended),
      subst (RunLed (job_within d) (b ++ c.args.piece.now) c.in-Ended.taken)
          (sym c.give_up.ensures.after) ended,
    )

pub returns-in-Ended-clause-memory : goal.returns-in-Ended-clause-memory
returns-in-Ended-clause-memory g c =
    subst (λ (d : Decoding). AsksMemory d c.args.piece.now c.in-Ended.taken c.in-Ended.fault)
    c.self.view_is
    (λ is. inr (_, c.in-Ok.is, c.in-Ended.ensures.memory is))

pub returns-in-More-clause-held : goal.returns-in-More-clause-held
returns-in-More-clause-held g c = λ b led.
    let reported = c.in-More.ensures.answers _ b refl
    (led_to_run c.self.inside _ _ b c.self.view_is c.in-Ok.is led) in
    (c.feed_run-fed.new.run, refl, reported.2)

pub returns-in-More-clause-small : goal.returns-in-More-clause-small
returns-in-More-clause-small g c =
    let i = c.self.invariant in
    let was = has_run c.self.inside _ i c.in-Ok.is in
    let reported = c.in-More.ensures.answers _ i.bytes refl was.led in
    let counts = c.in-More.ensures.counts _ i.bytes _ refl was.led was.counted in
    led_small (job_within c.self.inside) (i.bytes ++ c.args.piece.now) c.in-More.taken
    (Ok c.feed_run-fed.new.run)
    (c.feed_run-fed.new.turns.so_far + c.feed_run-fed.new.run.built.turns)
    c.tick.new.self.so_far (inl reported.0)
    (omega (arith, counts.0, c.tick.ensures), omega (arith, counts.1, c.tick.ensures))

pub returns-in-More-clause-answers : goal.returns-in-More-clause-answers
returns-in-More-clause-answers g c = λ b led.
    let reported = c.in-More.ensures.answers _ b refl
    (led_to_run c.self.inside _ _ b c.self.view_is c.in-Ok.is led) in
    (reported.1, inl reported.0)

pub returns-in-Done-clause-small : goal.returns-in-Done-clause-small
returns-in-Done-clause-small g c =
    let d = c.self.inside in
    let i = c.self.invariant in
    let was = has_run d _ i c.in-Ok.is in
    let counts = c.in-Done.ensures.counts _ i.bytes _ refl was.led was.counted in
    led_small (job_within d) (i.bytes ++ c.args.piece.now) (d.taken + c.in-Done.used)
    (Ok c.feed_run-fed.new.run)
    (c.feed_run-fed.new.turns.so_far + c.feed_run-fed.new.run.built.turns)
    c.tick.new.self.so_far (inr (c.in-Done.ensures.answers _ i.bytes refl was.led))
    (omega (arith, counts.0, c.tick.ensures), omega (arith, counts.1, c.tick.ensures))

pub returns-in-Done-clause-small_at_end : goal.returns-in-Done-clause-small_at_end
returns-in-Done-clause-small_at_end g c =
    let d = c.self.inside in
    let i = c.self.invariant in
    let was = has_run d _ i c.in-Ok.is in
    (done_small (job_within d) (i.bytes ++ c.args.piece.now) (d.taken + c.in-Done.used)
    c.feed_run-fed.new.run (c.in-Done.ensures.answers _ i.bytes refl was.led)).0

pub returns-in-Done-clause-answers : goal.returns-in-Done-clause-answers
returns-in-Done-clause-answers g c = λ b led.
    let reported = c.in-Done.ensures.answers _ b refl
    (led_to_run c.self.inside _ _ b c.self.view_is c.in-Ok.is led) in (
      (
        c.feed_run-fed.new.run,
        refl,
        reported.outcome,
        ap (λ (x : Decoding). x.taken + c.in-Done.used) c.self.view_is,
      ),
      inr reported,
    )

pub invariant_of-self-in-More : goal.invariant_of-self-in-More
invariant_of-self-in-More g c =
    let i = c.self.invariant in
    let was = has_run c.self.inside _ i c.in-Ok.is in
    let reported = c.in-More.ensures.answers _ i.bytes refl was.led in
    let counts = c.in-More.ensures.counts _ i.bytes _ refl was.led was.counted in
    record {
      limit = i.limit;
      bytes = i.bytes ++ c.args.piece.now;
      led = inl reported.0;
      counted =
          (omega (arith, counts.0, c.tick.ensures), omega (arith, counts.1, c.tick.ensures));
    }

pub invariant_of-self-in-Ended : goal.invariant_of-self-in-Ended
invariant_of-self-in-Ended g c =
    let j = job_within c.self.inside in
    let i = c.self.invariant in
    let was = has_run c.self.inside _ i c.in-Ok.is in
    let counts = c.in-Ended.ensures.counts _ i.bytes _ refl was.led was.counted in
    let gone : c.give_up.result.so_far ≡ c.feed_run-fed.new.run.built.turns =
    c.give_up.ensures.turns in
    record {
      limit = i.limit;
      bytes = i.bytes ++ c.args.piece.now;
      led = subst (RunLed j (i.bytes ++ c.args.piece.now) c.in-Ended.taken)
          (sym c.give_up.ensures.after) (c.in-Ended.ensures.answers _ i.bytes refl was.led);
      counted = subst (λ (r : Result Running DecodeFault). RunCounted j c.in-Ended.taken r
          (c.feed_run-fed.new.turns.so_far + closing_turns r c.give_up.result.so_far)
          c.tick.new.self.so_far) (sym c.give_up.ensures.after)
          (omega (arith, counts, gone, c.tick.ensures));
    }

pub returns-in-Ended-clause-small : goal.returns-in-Ended-clause-small
returns-in-Ended-clause-small g c =
    let j = job_within c.self.inside in
    let i = c.self.invariant in
    let was = has_run c.self.inside _ i c.in-Ok.is in
    let counts = c.in-Ended.ensures.counts _ i.bytes _ refl was.led was.counted in
    let gone : c.give_up.result.so_far ≡ c.feed_run-fed.new.run.built.turns =
    c.give_up.ensures.turns in
    subst (λ (r : Result Running DecodeFault). IsSmall
    (record {
      query = j;
      taken = c.in-Ended.taken;
      run = r;
      turns =
          c.feed_run-fed.new.turns.so_far + closing_turns r c.give_up.result.so_far;
      calls =
          c.tick.new.self.so_far;
    })) (sym c.give_up.ensures.after)
    (led_small j (i.bytes ++ c.args.piece.now) c.in-Ended.taken (Err c.in-Ended.fault)
    (c.feed_run-fed.new.turns.so_far + c.give_up.result.so_far) c.tick.new.self.so_far
    (c.in-Ended.ensures.answers _ i.bytes refl was.led)
    (omega (arith, counts, gone, c.tick.ensures)))

pub returns-in-More-clause-counted : goal.returns-in-More-clause-counted
returns-in-More-clause-counted g c =
    let i = c.self.invariant in
    let was = has_run c.self.inside _ i c.in-Ok.is in
    let counts = c.in-More.ensures.counts _ i.bytes _ refl was.led was.counted in
    omega (arith, counts.0, c.tick.ensures)

pub returns-in-Done-clause-counted : goal.returns-in-Done-clause-counted
returns-in-Done-clause-counted g c =
    let i = c.self.invariant in
    let was = has_run c.self.inside _ i c.in-Ok.is in
    let counts = c.in-Done.ensures.counts _ i.bytes _ refl was.led was.counted in
    omega (arith, counts.0, c.tick.ensures)

pub returns-in-Done-clause-value_counts : goal.returns-in-Done-clause-value_counts
returns-in-Done-clause-value_counts g c =
    let d = c.self.inside in
    let i = c.self.invariant in
    let was = has_run d _ i c.in-Ok.is in
    let counts = done_counts (job_within d) (i.bytes ++ c.args.piece.now)
    (d.taken + c.in-Done.used) c.feed_run-fed.new.run
    (c.in-Done.ensures.answers _ i.bytes refl was.led) in
    (c.feed_run-fed.new.run, refl, counts.0, counts.1)

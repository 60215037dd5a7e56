-- What is known inside a decoder, by its invariant.
use Rattle.std.proofs.Common.{◌≡◌, ℕ, ◌+◌, List, Result, Ok, sym, subst, arith}
use Rattle.decode_core.specs.declared.decoder.Decoder.TheInside.{Inside}
use Rattle.decode_core.specs.declared.fault.DecodeFault.{DecodeFault}
use Rattle.decode_core.specs.Decoding.{Decoding, IsDecoding, IsSmall, Led, LoopCounted, RunCounted}
use Rattle.decode_core.specs.Decoding.{RunLed, closing_turns}
use Rattle.outcome_core.specs.Outcome.{Query}
use Rattle.machine_core.specs.Running.{Running}
use Rattle.decode_core.specs.Viewed.{decoding_of, job_within}
use Rattle.decode_core.proofs.calls.Small.{led_small}

-- the bytes that led to a decoder, as contracts see it, led to what is inside
pub led_inside : {A : Type 0} (d : Inside A) (seen : Decoding) (b : List ℕ) → decoding_of d ≡ seen →
    Led seen b → RunLed (job_within d) b d.taken d.run
led_inside d seen b is led = subst (λ (x : Decoding). Led x b) (sym is) led

-- and to its value, where that is there
pub led_to_run : {A : Type 0} (d : Inside A) (seen : Decoding) (s : Running) (b : List ℕ) →
    decoding_of d ≡ seen → d.run ≡ Ok s → Led seen b → RunLed (job_within d) b d.taken (Ok s)
led_to_run d seen s b is run led =
    subst (RunLed (job_within d) b d.taken) run (led_inside d seen b is led)

-- which bytes led to the value that is there, and the turns of the decoder's own loop
pub record HasRun (j : Query) (b : List ℕ) (n : ℕ) (s : Running) (turns calls : ℕ) : Type 0 where
  pub led : RunLed j b n (Ok s)
  pub counted : LoopCounted n s turns calls

-- the same by the invariant
pub has_run : {A : Type 0} (d : Inside A) (s : Running) (i : IsDecoding (decoding_of d)) →
    d.run ≡ Ok s →
    HasRun (job_within d) i.bytes d.taken s d.turns.so_far d.calls.so_far
has_run d s i run =
    let counted = subst (λ (r : Result Running DecodeFault). RunCounted (job_within d) d.taken r
    (d.turns.so_far + closing_turns r d.closings.so_far) d.calls.so_far) run i.counted in
    record {
      led = subst (RunLed (job_within d) i.bytes d.taken) run i.led;
      counted = (omega (arith, counted.0), omega (arith, counted.1));
    }

-- what it holds is small for the bytes that it took
pub small_inside : {A : Type 0} (d : Inside A) (s : Running) → IsDecoding (decoding_of d) →
    d.run ≡ Ok s →
    IsSmall (record {
      query = job_within d;
      taken = d.taken;
      run = Ok s;
      turns = d.turns.so_far + s.built.turns;
      calls = d.calls.so_far;
    })
small_inside d s i run =
    subst (λ (r : Result Running DecodeFault). IsSmall
    (record {
      query = job_within d;
      taken = d.taken;
      run = r;
      turns = d.turns.so_far + closing_turns r d.closings.so_far;
      calls = d.calls.so_far;
    })) run
    (led_small (job_within d) i.bytes d.taken d.run
    (d.turns.so_far + closing_turns d.run d.closings.so_far) d.calls.so_far i.led i.counted)

-- What a decoder answers to a piece, be its value on the way or whole.
use Rattle.std.proofs.Common.{◌≡◌, ℕ, ◌+◌, ◌-◌, ◌<◌, ◌≤◌, List, [], ◌++◌, length, take, drop, Ok}
use Rattle.std.proofs.Common.{Err, sym, ap, subst, ◌∙◌, append_assoc, arith, inl, inr}
use Rattle.std.proofs.Common.{length-append}
use Rattle.std.proofs.lemmas.List.{append-nil, length-take}
use Rattle.types_core.specs.declared.type_info.TypeInfo.{TypeInfo}
use Rattle.grammar_core.specs.Reading.{Refusal, truncated}
use Rattle.grammar_core.specs.Preorder.{Entry}
use Rattle.scale_core.specs.Number.{AreBytes}
use Rattle.decode_core.specs.Decoding.{HoldsOf, IsDone, IsEnded, IsGoing, RanOut, RunLed}
use Rattle.decode_core.specs.Decoding.{built_tree}
use Rattle.outcome_core.specs.Machine.{remain}
use Rattle.outcome_core.specs.Outcome.{Query, done, refused, more, too_long, IsOutcome}
use Rattle.machine_core.specs.Reasons.{reason_of}
use Rattle.machine_core.specs.Running.{Running, held_of, state_of}
use Rattle.outcome_core.specs.Reported.{reported, added, after, Ending, ending}
use Rattle.machine_core.specs.Turned.{FeedReports, IsSound, Moves, EndsTurns, WantsMemory, types_in}
use Rattle.decode_core.specs.declared.fault.DecodeFault.{DecodeFault}
use Rattle.machine_core.specs.declared.reason.DecodeReason.{DecodeReason}
use Rattle.machine_core.specs.declared.turned.Stopped.TheVariants as stop
use Rattle.decode_core.proofs.calls.Bridge.{offered, of_moved, fed_done, fed_more, fed_long}
use Rattle.decode_core.proofs.calls.Bridge.{fed_refused}
use Rattle.outcome_core.proofs.Kept.{outcome_is_kept, take_split}
use Rattle.machine_core.proofs.steps.Refusing.{waits_reported}

-- ---- a value that is whole takes no more

-- what a whole value reports after any move
pub done_reported : (j : Query) (b : List ℕ) (s last : Running) (n : ℕ) (x : List ℕ) →
    (g : IsDone j b s n) → (m : Moves s last x) → (later : List ℕ) →
    reported s.built.entries (Ok (m.own ++ later))
    ≡ after last.built.entries (remain (types_in s) (state_of last.built) later)
done_reported j b s last n x g m later =
    let whole : remain (types_in s) (state_of s.built) (m.own ++ later) ≡ reported []
    (Ok (m.own ++ later)) = ap (λ (r : List TypeInfo). remain r (state_of s.built)
    (m.own ++ later)) g.same.types ∙ g.whole (m.own ++ later) in
    ap (λ (xs : List Entry). reported xs (Ok (m.own ++ later))) (sym (append-nil s.built.entries))
    ∙ sym (ap (after s.built.entries) whole) ∙ m.reports later

-- a reading that ended well has no fault, so anything follows
no_fault : {X : Type 0} (xs ys : List Entry) (rest x left : List ℕ) (e : Refusal) →
    reported xs (Ok rest) ≡ after ys (reported [] (Err ((e, left), x))) → X
no_fault xs ys rest x left e h = let both : ◌≡◌ {A = Ending} (Ok rest) (Err ((e, left), x)) =
    ap ending h in absurd cc

-- a value that was whole cannot fail after it moved on, so anything follows
done_cannot_fail : {X : Type 0} (j : Query) (b : List ℕ) (s last : Running) (n : ℕ)
    (x y left : List ℕ) (e : Refusal) → IsDone j b s n → Moves s last x →
    remain (types_in last) (state_of last.built) y ≡ reported [] (Err ((e, left), y)) → X
done_cannot_fail j b s last n x y left e g m h =
    let there : remain (types_in s) (state_of last.built) y ≡ reported [] (Err ((e, left), y)) =
    ap (λ (r : List TypeInfo). remain r (state_of last.built) y) (sym m.same.types) ∙ h in
    no_fault s.built.entries last.built.entries (m.own ++ y) y left e
    (done_reported j b s last n x g m y ∙ ap (after last.built.entries) there)

-- two readings that ended well and are equal left the same bytes
ok_is : (x y : List ℕ) → ◌≡◌ {A = Ending} (Ok x) (Ok y) → x ≡ y
ok_is x y h = cc

-- it stands as it is
pub done_again : (j : Query) (b piece : List ℕ) (s last : Running) (n k : ℕ) → IsDone j b s n →
    k ≤ length (offered j n piece) → Moves s last (take k (offered j n piece)) →
    EndsTurns last (drop k (offered j n piece)) stop.Finished → IsSound last →
    IsDone j (b ++ piece) last (n + k)
done_again j b piece s last n k g le m st sound =
    let cut = offered j n piece in
    let of = of_moved j s last g.same m.same in
    let reports : (x : List ℕ) → remain j.registry (state_of last.built) x ≡ reported [] (Ok x) =
    λ x. ap (λ (r : List TypeInfo). remain r (state_of last.built) x) (sym of.types) ∙ st.0 x in
    let all : reported s.built.entries (Ok (m.own ++ []))
    ≡ after last.built.entries (reported [] (Ok [])) =
    done_reported j b s last n (take k cut) g m []
    ∙ ap (λ (r : List TypeInfo). after last.built.entries (remain r (state_of last.built) []))
    (sym m.same.types) ∙ ap (after last.built.entries) (st.0 []) in
    let own : length (m.own ++ []) ≡ 0 = ap length (ok_is (m.own ++ []) [] (ap ending all)) in
    let none : k ≡ 0 = omega (
      arith,
      own,
      length-append m.own [],
      ap length m.is,
      ap length g.nothing,
      ap length st.1,
      length-append (held_of s) (take k cut),
      length-append m.own (held_of last),
      length-take k cut,
      le,
    ) in
    let same : s.built.entries ≡ last.built.entries = ap added all
    ∙ append-nil last.built.entries in
    let tree : built_tree s.built ≡ built_tree last.built =
    ap (λ (xs : List Entry). built_tree (record s.built { entries = xs })) same in
    let count : n ≡ n + k = omega (arith, none) in
    let kept = outcome_is_kept j b piece (done (built_tree s.built)) n (λ e. absurd cc) g.outcome in
    record {
      same = of;
      whole = reports;
      nothing = st.1;
      is_complete = st.2;
      sound = sound;
      outcome = subst (λ (c : ℕ). IsOutcome j (b ++ piece) (done (built_tree last.built)) c) count
          (subst (λ v. IsOutcome j (b ++ piece) (done v) n) tree kept);
      fits = omega (arith, none, g.fits);
    }

-- ---- be it whole or not

-- turns that end with a whole value make the decoder done, be it in progress or whole before
pub led_done : (j : Query) (b piece : List ℕ) (s new : Running) (n k : ℕ) → RunLed j b n (Ok s) →
    FeedReports s new (offered j n piece) k stop.Finished → IsDone j (b ++ piece) new (n + k)
led_done j b piece s new n k (inl g) f =
    subst (λ (r : Running). IsDone j (b ++ piece) r (n + k)) (sym f.1.3)
    (fed_done j b piece s f.1.0 n k g f.0 f.1.1 f.1.2 f.1.4)
led_done j b piece s new n k (inr g) f =
    subst (λ (r : Running). IsDone j (b ++ piece) r (n + k)) (sym f.1.3)
    (done_again j b piece s f.1.0 n k g f.0 f.1.1 f.1.2 f.1.4)

-- the same where they lack bytes within the limit: more is wanted, and a begun tree held
pub led_more : (j : Query) (b piece : List ℕ) (s new : Running) (n k : ℕ) → RunLed j b n (Ok s) →
    FeedReports s new (offered j n piece) k stop.Wants → AreBytes piece →
    length piece ≤ j.bytes - n →
    IsGoing j (b ++ piece) new (n + k) × IsOutcome j (b ++ piece) more (n + k)
    × HoldsOf j (b ++ piece) new
led_more j b piece s new n k (inl g) f are short =
    subst (λ (r : Running). IsGoing j (b ++ piece) r (n + k) × IsOutcome j (b ++ piece) more (n + k)
    × HoldsOf j (b ++ piece) r) (sym f.1.3)
    (fed_more j b piece s f.1.0 n k g f.0 f.1.1 f.1.2 f.1.4 are short)
led_more j b piece s new n k (inr g) f are short =
    done_cannot_fail j b s f.1.0 n (take k (offered j n piece)) (held_of f.1.0) f.1.2.1.left
    truncated g f.1.1 (waits_reported f.1.0 f.1.2.1)

-- the same where they lack bytes and the piece passes the limit: the input is too long
pub led_long : (j : Query) (b piece : List ℕ) (s new : Running) (n k : ℕ) → RunLed j b n (Ok s) →
    FeedReports s new (offered j n piece) k stop.Wants → j.bytes - n < length piece →
    IsOutcome j (b ++ piece) too_long j.bytes
led_long j b piece s new n k (inl g) f long = fed_long j b piece s f.1.0 n k g f.0 f.1.1 f.1.2 long
led_long j b piece s new n k (inr g) f long =
    done_cannot_fail j b s f.1.0 n (take k (offered j n piece)) (held_of f.1.0) f.1.2.1.left
    truncated g f.1.1 (waits_reported f.1.0 f.1.2.1)

-- the same where they end with a refusal: it is the outcome of all bytes so far, at its place
pub led_refused : (j : Query) (b piece : List ℕ) (s new : Running) (n k held : ℕ)
    (reported_reason : DecodeReason) (at len : ℕ) → RunLed j b n (Ok s) →
    FeedReports s new (offered j n piece) k (stop.Refused held reported_reason at len) →
    (held ≤ n + k) × ((e : Refusal) × (reported_reason ≡ reason_of e)
    × IsOutcome j (b ++ piece) (refused e (n + k - held + at)) (n + k - held + len))
led_refused j b piece s new n k held reported_reason at len (inl g) f =
    fed_refused j b piece s f.1.0 n k held reported_reason at len g f.0 f.1.1 f.1.2
led_refused j b piece s new n k held reported_reason at len (inr g) f =
    done_cannot_fail j b s f.1.0 n (take k (offered j n piece))
    (held_of f.1.0 ++ drop k (offered j n piece)) f.1.2.1 f.1.2.0 g f.1.1 f.1.2.6

-- the bytes that led to a decoder are within its limit
pub led_fits : (j : Query) (b : List ℕ) (s : Running) (n : ℕ) → RunLed j b n (Ok s) → n ≤ j.bytes
led_fits j b s n (inl g) = g.fits
led_fits j b s n (inr g) = g.fits

-- memory that is wanted is wanted also where further bytes follow
wants_on : (s : Running) (rest back : List ℕ) → WantsMemory s rest → WantsMemory s (rest ++ back)
wants_on s rest back h =
    record {
      form = h.form;
      next = h.next;
      bytes = h.bytes;
      later = h.later ++ back;
      is =
          ap (λ (l : List ℕ). l ++ back) h.is ∙ append_assoc h.bytes h.later back;
      keeps = h.keeps;
    }

-- memory that was wanted was so, whatever bytes follow
ran_out_stays : (j : Query) (b piece : List ℕ) (n : ℕ) → RanOut j b n → RanOut j (b ++ piece) n
ran_out_stays j b piece n h =
    let back = take (j.bytes - length b) piece in
    let held = held_of h.s in
    record {
      s = h.s;
      same = h.same;
      own = h.own;
      rest = h.rest ++ back;
      is = take_split j.bytes b piece ∙ ap (λ (l : List ℕ). l ++ back) h.is
          ∙ append_assoc h.own (held ++ h.rest) back
          ∙ ap (λ (l : List ℕ). h.own ++ l) (append_assoc held h.rest back);
      led = h.led;
      count = h.count;
      wants = wants_on h.s h.rest back h.wants;
      sound = h.sound;
    }

-- what ended stays so
pub ended_stays : (j : Query) (b piece : List ℕ) (f : DecodeFault) (n : ℕ) → IsEnded j b f n →
    IsEnded j (b ++ piece) f n
ended_stays j b piece f n (inl h) = inl (h.0, ran_out_stays j b piece n h.1)
ended_stays j b piece f n (inr (inl h)) =
    inr (inl (h.0, outcome_is_kept j b piece too_long n (λ e. absurd cc) h.1))
ended_stays j b piece f n (inr (inr h)) =
    inr (inr (h.0, h.1, h.2, outcome_is_kept j b piece (refused h.0 h.1) n (λ e. absurd cc) h.3))

-- What the turns on a piece made of a value in progress, by the limit of bytes.
use Rattle.std.proofs.Common.{◌≡◌, ℕ, ◌+◌, ◌-◌, ◌<◌, ◌≤◌, true, List, ◌++◌, length, take, drop, Ok}
use Rattle.std.proofs.Common.{refl, sym, ap, subst, ◌∙◌, arith, inl, inr, length-append}
use Rattle.std.proofs.Common.{length-drop}
use Rattle.std.proofs.lemmas.List.{length-take}
use Rattle.growth_core.specs.Evidence.{evidence}
use Rattle.scale_core.specs.Number.{AreBytes}
use Rattle.scale_core.specs.declared.fault.Reason.TheVariants as scale
use Rattle.grammar_core.specs.Reading.{Refusal, basic}
use Rattle.decode_core.specs.Decoding.{HoldsOf, IsDone, IsEnded, IsGoing, RunLed}
use Rattle.machine_core.specs.Reasons.{reason_of}
use Rattle.outcome_core.specs.Outcome.{Query, more, IsOutcome}
use Rattle.value_core.specs.Refusals.{is_complete}
use Rattle.machine_core.specs.Running.{Running, held_of}
use Rattle.machine_core.specs.Turned.{FeedReports, RunsOut, EndsTurns}
use Rattle.machine_core.specs.declared.reason.DecodeReason.{DecodeReason}
use Rattle.machine_core.specs.declared.reason.DecodeReason.TheVariants as reason
use Rattle.machine_core.specs.declared.turned.Stopped.{Stopped}
use Rattle.machine_core.specs.declared.turned.Stopped.TheVariants as stop
use Rattle.decode_core.proofs.calls.Bridge.{fed_short, offered}
use Rattle.decode_core.proofs.calls.Feeding.{led_done, led_more, led_long, led_refused}

-- what was offered is the part within the limit
reports_offered : (j : Query) (piece slice : List ℕ) (s new : Running) (limit taken k : ℕ)
    (why : Stopped) → j.bytes ≡ limit → slice ≡ take (limit - taken) piece →
    FeedReports s new slice k why → FeedReports s new (offered j taken piece) k why
reports_offered j piece slice s new limit taken k why e is f =
    let same : slice ≡ offered j taken piece = is
    ∙ ap (λ (l : ℕ). take (l - taken) piece) (sym e) in
    subst (λ (l : List ℕ). FeedReports s new l k why) same f

-- turns that end with a whole value make the decoder done, by all bytes so far
pub run_done : (j : Query) (b piece slice : List ℕ) (s new : Running) (limit taken k : ℕ)
    (why : Stopped) → j.bytes ≡ limit → slice ≡ take (limit - taken) piece →
    RunLed j b taken (Ok s) → FeedReports s new slice k why → why ≡ stop.Finished →
    IsDone j (b ++ piece) new (taken + k)
run_done j b piece slice s new limit taken k why e is led f w =
    led_done j b piece s new taken k led
    (subst (FeedReports s new (offered j taken piece) k) w
    (reports_offered j piece slice s new limit taken k why e is f))

-- turns that lack bytes at the limit, where the piece has more, end the decoder as too long
pub run_long : (j : Query) (b piece slice : List ℕ) (s new : Running) (limit taken k : ℕ)
    (why : Stopped) → j.bytes ≡ limit → slice ≡ take (limit - taken) piece →
    RunLed j b taken (Ok s) → FeedReports s new slice k why → why ≡ stop.Wants →
    length slice < length piece →
    IsEnded j (b ++ piece) (record { reason = reason.TooLong; at = limit }) limit
run_long j b piece slice s new limit taken k why e is led f w cut =
    let long : j.bytes - taken < length piece =
    omega (arith, e, ap length is, length-take (limit - taken) piece, cut) in
    let out = led_long j b piece s new taken k led
    (subst (FeedReports s new (offered j taken piece) k) w
    (reports_offered j piece slice s new limit taken k why e is f)) long in
    subst (λ (l : ℕ). IsEnded j (b ++ piece) (record { reason = reason.TooLong; at = l }) l) e
    (inr (inl (refl, out)))

-- turns that lack bytes within the limit leave the decoder going, and a begun tree held
pub run_more : (j : Query) (b piece slice : List ℕ) (s new : Running) (limit taken k : ℕ)
    (why : Stopped) → j.bytes ≡ limit → slice ≡ take (limit - taken) piece →
    RunLed j b taken (Ok s) → FeedReports s new slice k why → why ≡ stop.Wants → AreBytes piece →
    length piece ≤ length slice → IsGoing j (b ++ piece) new (taken + k)
    × IsOutcome j (b ++ piece) more (taken + k) × HoldsOf j (b ++ piece) new
run_more j b piece slice s new limit taken k why e is led f w are all =
    let short : length piece ≤ j.bytes - taken =
    omega (arith, e, ap length is, length-take (limit - taken) piece, all) in
    led_more j b piece s new taken k led
    (subst (FeedReports s new (offered j taken piece) k) w
    (reports_offered j piece slice s new limit taken k why e is f)) are short

-- what was held of a refused node is no more than the bytes taken
pub run_held : (j : Query) (b piece slice : List ℕ) (s new : Running) (limit taken k held : ℕ)
    (reported_reason : DecodeReason) (at len : ℕ) (why : Stopped) → j.bytes ≡ limit →
    slice ≡ take (limit - taken) piece → RunLed j b taken (Ok s) → FeedReports s new slice k why →
    why ≡ stop.Refused held reported_reason at len → held ≤ taken + k
run_held j b piece slice s new limit taken k held reported_reason at len why e is led f w =
    (led_refused j b piece s new taken k held reported_reason at len led
    (subst (FeedReports s new (offered j taken piece) k) w
    (reports_offered j piece slice s new limit taken k why e is f))).0

-- turns that end with a refusal end the decoder with its reason, place and bytes taken
pub run_refused : (j : Query) (b piece slice : List ℕ) (s new : Running) (limit taken k held : ℕ)
    (reported_reason : DecodeReason) (at len : ℕ) (why : Stopped) → j.bytes ≡ limit →
    slice ≡ take (limit - taken) piece → RunLed j b taken (Ok s) → FeedReports s new slice k why →
    why ≡ stop.Refused held reported_reason at len →
    IsEnded j (b ++ piece) (record { reason = reported_reason; at = taken + k - held + at })
    (taken + k - held + len)
run_refused j b piece slice s new limit taken k held reported_reason at len why e is led f w =
    let r = led_refused j b piece s new taken k held reported_reason at len led
    (subst (FeedReports s new (offered j taken piece) k) w
    (reports_offered j piece slice s new limit taken k why e is f)) in
    inr (inr (
      r.1.0,
      taken + k - held + at,
      ap (λ (q : DecodeReason). record { reason = q; at = taken + k - held + at }) r.1.1,
      r.1.2,
    ))

-- ---- an allocation fails

-- turns that end at an allocation failure lead to where it is wanted
pub runs_out : (s new : Running) (slice : List ℕ) (k : ℕ) (why : Stopped) →
    FeedReports s new slice k why → why ≡ stop.OutOfMemory evidence → RunsOut s slice k
runs_out s new slice k why f is =
    let g = subst (FeedReports s new slice k) is f in (g.0, (g.1.0, g.1.1, g.1.2, g.1.4))

-- turns that end so don't end with a whole value
pub stops_otherwise : (r : ℕ × Stopped) → r ≡ (0, stop.Finished) →
    r.1 ≡ stop.OutOfMemory evidence → ⊥
stops_otherwise r whole is =
    let no : (stop.OutOfMemory evidence) ≡ stop.Finished =
    sym is ∙ ap (λ (x : ℕ × Stopped). x.1) whole in absurd cc

-- turns that end at an allocation failure end the decoder so, if its value was not whole
pub run_short : (j : Query) (b piece slice : List ℕ) (s : Running) (limit taken k : ℕ) →
    j.bytes ≡ limit → slice ≡ take (limit - taken) piece → RunLed j b taken (Ok s) →
    (is_complete s.built ≡ true → ⊥) → RunsOut s slice k →
    IsEnded j (b ++ piece) (record { reason = reason.OutOfMemory evidence; at = 0 }) (taken + k)
run_short j b piece slice s limit taken k e is (inr g) going f = absurd (going g.is_complete)
run_short j b piece slice s limit taken k e is (inl g) going f =
    let same : slice ≡ offered j taken piece = is
    ∙ ap (λ (l : ℕ). take (l - taken) piece) (sym e) in
    let at = subst (λ (l : List ℕ). RunsOut s l k) same f in
    inl (refl, fed_short j b piece s at.1.0 taken k g at.0 at.1.1 at.1.2 at.1.3)

-- no bytes are rejected as an allocation failure
not_memory : (e : Refusal) → reason_of e ≡ reason.OutOfMemory evidence → ⊥
not_memory (basic scale.Truncated) h = absurd cc
not_memory (basic _) h = absurd cc
not_memory _ h = absurd cc

-- so turns that end with a refusal have another reason
pub refused_has_bytes : (s new : Running) (slice : List ℕ) (k held : ℕ)
    (reported_reason : DecodeReason) (at len : ℕ) (why : Stopped) → FeedReports s new slice k why →
    why ≡ stop.Refused held reported_reason at len →
    reported_reason ≡ reason.OutOfMemory evidence → ⊥
refused_has_bytes s new slice k held reported_reason at len why f is h =
    let ends = (subst (FeedReports s new slice k) is f).1.2 in
    not_memory ends.0 (sym ends.3 ∙ h)

-- ---- how many bytes were taken

-- a refused node has as many as were held, and at most those that are left of the piece
refused_by : (last new : Running) (piece : List ℕ) (k held : ℕ) (reported_reason : DecodeReason)
    (at len : ℕ) → k ≤ length piece →
    EndsTurns last (drop k piece) (stop.Refused held reported_reason at len) → (held ≤ len)
    × (len ≤ held + (length piece - k))
refused_by last new piece k held reported_reason at len le st = (
  st.8,
  omega (
    arith,
    st.7.within,
    st.4,
    length-append (held_of last) (drop k piece),
    length-drop k piece,
  ),
)

-- a refusal takes no fewer bytes than were taken before, and no more than the piece adds
pub takes_refused : (s new : Running) (slice : List ℕ) (k held taken len : ℕ)
    (reported_reason : DecodeReason) (at : ℕ) (why : Stopped) → FeedReports s new slice k why →
    why ≡ stop.Refused held reported_reason at len → held ≤ taken + k →
    (taken ≤ taken + k - held + len)
    × (taken + k - held + len ≤ taken + length slice)
takes_refused s new slice k held taken len reported_reason at why f is within =
    let g = subst (FeedReports s new slice k) is f in
    let few = refused_by g.1.0 new slice k held reported_reason at len g.0 g.1.2 in
    (omega (arith, few.0, within), omega (arith, few.1, within, g.0))

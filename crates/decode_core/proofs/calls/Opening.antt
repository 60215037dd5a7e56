-- A decoder that has taken nothing, and what the end of its input makes of one.
use Rattle.std.proofs.Common.{◌≡◌, ℕ, suc, ◌+◌, ◌-◌, List, [], ◌++◌, length, Ok, Err, refl, sym, ap}
use Rattle.std.proofs.Common.{subst, ◌∙◌, arith, inl, inr}
use Rattle.std.specs.Prelude.{Option, Some, None, Result}
use Rattle.std.proofs.lemmas.List.{append-nil, length-take}
use Rattle.value_core.specs.Built.{Built, finished}
use Rattle.node_core.specs.Shown.{Seen}
use Rattle.decode_core.specs.Decoding.{AnswersPiece, AsksMemory, Decoding, FinishesDecoder, IsEnded}
use Rattle.decode_core.specs.Decoding.{IsGoing, OpensDecoder}
use Rattle.decode_core.specs.Decoding.{IsOf, Led, RunLed, built_tree, first_running}
use Rattle.outcome_core.specs.Machine.{State, start}
use Rattle.outcome_core.specs.Outcome.{Query, done, more, IsOutcome}
use Rattle.machine_core.specs.Running.{Running, state_of}
use Rattle.machine_core.specs.Turned.{EndsTurns, IsSound}
use Rattle.outcome_core.specs.Machine.{TurnsLead}
use Rattle.decode_core.specs.declared.decoder.Progress.{Progress}
use Rattle.decode_core.specs.declared.decoder.Progress.TheVariants as progress
use Rattle.decode_core.specs.declared.fault.DecodeFault.{DecodeFault}
use Rattle.decode_core.specs.declared.fault.OpenFault.{OpenFault}
use Rattle.machine_core.specs.declared.reason.DecodeReason.TheVariants as reason
use Rattle.machine_core.specs.declared.turned.Stopped.TheVariants as stop
use Rattle.decode_core.proofs.calls.Bridge.{offered}
use Rattle.decode_core.proofs.calls.Feeding.{led_done}
use Rattle.machine_core.proofs.steps.Moving.{moves_none}

abbrev pub first : Query → Running
first j = first_running j.registry j.ty j.depth

-- a decoder that has taken nothing is in the first state of the machine
start_is : (j : Query) → state_of (first j).built ≡ start j.depth j.ty
start_is j = let room : j.depth + 2 - 1 ≡ suc j.depth = omega arith in rw room refl

-- what is opened is the first one, and nothing forbids it
pub opened_first : {X : Type 0} (o : Option OpenFault) (first d : X) →
    OpensDecoder o first (Ok d) → (o ≡ None) × (d ≡ first)
opened_first None first d h = (refl, h)
opened_first (Some f) first d h = absurd h

-- no bytes have led to it
pub first_going : (j : Query) (s : Running) (b : Built) → s ≡ record { built = b; carry = [] } →
    b ≡ (first j).built → IsGoing j [] s 0
first_going j s b is same =
    let whole : first j ≡ s =
    sym (is ∙ ap (λ (x : Built). record { built = x; carry = [] }) same) in
    let led : TurnsLead j.registry (start j.depth j.ty) (state_of (first j).built) [] =
    subst (λ (x : State). TurnsLead j.registry (start j.depth j.ty) x []) (sym (start_is j))
    (record { reports = λ later. refl; level = refl }) in
    subst (λ (x : Running). IsGoing j [] x 0) whole
    (record {
      same = record { types = refl; ty = refl; limit = refl };
      own = [];
      is = refl;
      are_bytes = tt;
      led = led;
      stands = inl refl;
      count = refl;
      fits = omega arith;
    })

-- ---- the end of the input

-- a refusal of the empty last piece is the fault that the decoder finishes with
pub ends_refused : (old new : Decoding) (b : List ℕ) (f : DecodeFault) → new.query ≡ old.query →
    AnswersPiece old new (b ++ []) (Err f) → FinishesDecoder old.query b (Err f)
ends_refused old new b f same h =
    let at_end = subst (λ (l : List ℕ). IsEnded new.query l f new.taken) (append-nil b) h.1 in
    inr (new.taken, subst (λ (j : Query). IsEnded j b f new.taken) same at_end)

-- an empty last piece takes no bytes, also where memory is wanted in it
pub asks_at_end : (d : Decoding) (n : ℕ) (f : DecodeFault) → AsksMemory d [] n f →
    AsksMemory d [] d.taken f
asks_at_end d n f h is = elim (h is) [
  | inl before ↦ inl before
  | inr now ↦ let asks = now.2 in
      let none : d.taken ≡ d.taken + asks.0 =
      omega (arith, asks.2.0, length-take {A = ℕ} (d.query.bytes - d.taken) []) in
      inr (now.0, now.1, (asks.0, none, asks.2))
]

-- where the empty last piece leaves more wanted, the decoder finishes with missing bytes
pub ends_short : (old new : Decoding) (b : List ℕ) (at : ℕ) → new.query ≡ old.query →
    at ≡ new.taken → AnswersPiece old new (b ++ []) (Ok progress.More) →
    FinishesDecoder old.query b (Err (record { reason = reason.Truncated; at = at }))
ends_short old new b at same is h =
    let at_end : IsOutcome old.query b more new.taken =
    subst (λ (j : Query). IsOutcome j b more new.taken) same
    (subst (λ (l : List ℕ). IsOutcome new.query l more new.taken) (append-nil b) h) in
    let count : new.taken ≡ length b = at_end.2 in
    inl (
      ap (λ (n : ℕ). record { reason = reason.Truncated; at = n }) (is ∙ count),
      subst (IsOutcome old.query b more) count at_end,
    )

-- a decoder that bytes led to decodes a value of the query
run_of : (j : Query) (b : List ℕ) (n : ℕ) (s : Running) → RunLed j b n (Ok s) → IsOf j s
run_of j b n s (inl g) = g.same
run_of j b n s (inr g) = g.same

-- a decoder has one value in progress
pub same_run : (s t : Running) (run : Result Running DecodeFault) → run ≡ Ok s → run ≡ Ok t → s ≡ t
same_run s t run h k = let both = sym h ∙ k in cc

-- where the value is done after the empty last piece, the decoder finishes with it
pub ends_done : (old new : Decoding) (b : List ℕ) (used : ℕ) (s : Running) (v : Seen) →
    new.query ≡ old.query → new.run ≡ Ok s → v ≡ finished s.built →
    AnswersPiece old new (b ++ []) (Ok (progress.Done used)) → Led new (b ++ []) →
    FinishesDecoder old.query b (Ok v)
ends_done old new b used s v same run is h led =
    let t = h.0 in
    let one : t ≡ s = same_run t s new.run h.1 run in
    let of : IsOf new.query s =
    run_of new.query (b ++ []) new.taken s (subst (RunLed new.query (b ++ []) new.taken) run led) in
    let of_old = subst (λ (j : Query). IsOf j s) same of in
    let out : IsOutcome new.query (b ++ []) (done (built_tree s.built)) new.taken =
    subst (λ (r : Running). IsOutcome new.query (b ++ []) (done (built_tree r.built)) new.taken)
    one h.2 in
    let out_old : IsOutcome old.query b (done (built_tree s.built)) new.taken =
    subst (λ (j : Query). IsOutcome j b (done (built_tree s.built)) new.taken) same
    (subst (λ (l : List ℕ). IsOutcome new.query l (done (built_tree s.built)) new.taken)
    (append-nil b) out) in (
      new.taken,
      ap (λ (x : Seen). x.types) is ∙ of_old.types,
      ap (λ (x : Seen). x.ty) is
          ∙ of_old.ty,
      subst (λ (x : Seen). IsOutcome old.query b (done x.tree) new.taken) (sym is)
          out_old,
    )

-- the same where the answer is only known not to be that more is wanted
pub ends_by : (old new : Decoding) (b : List ℕ) (p : Progress) (s : Running) (v : Seen) →
    new.query ≡ old.query → (p ≡ progress.More → ⊥) → new.run ≡ Ok s →
    v ≡ finished s.built → AnswersPiece old new (b ++ []) (Ok p) × Led new (b ++ []) →
    FinishesDecoder old.query b (Ok v)
ends_by old new b progress.More s v same whole run is h = absurd (whole refl)
ends_by old new b (progress.Done used) s v same whole run is h =
    ends_done old new b used s v same run is h.0 h.1

-- where the value is whole before the end of its input, the decoder finishes with it
pub ends_whole : (d : Decoding) (b : List ℕ) (s : Running) (v : Seen) → d.run ≡ Ok s →
    ((rest : List ℕ) → EndsTurns s rest stop.Finished) → IsSound s → v ≡ finished s.built →
    Led d b → FinishesDecoder d.query b (Ok v)
ends_whole d b s v run ends sound is led =
    let whole = led_done d.query b [] s s d.taken 0 (subst (RunLed d.query b d.taken) run led)
    (omega arith, (s, moves_none s, ends (offered d.query d.taken []), refl, sound)) in
    let out : IsOutcome d.query (b ++ []) (done (built_tree s.built)) d.taken =
    subst (IsOutcome d.query (b ++ []) (done (built_tree s.built))) (omega arith) whole.outcome in
    ends_done d d b 0 s v refl run is (s, run, out, omega arith)
    (subst (Led d) (sym (append-nil b)) led)

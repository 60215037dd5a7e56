-- What the decoder's answer says of the value that all the bytes spell.
use Rattle.std.proofs.Common.{◌≡◌, ◌==◌, ℕ, ◌<◌, ◌≤◌, List, ◌++◌, length, Bool, true, false}
use Rattle.std.proofs.Common.{Option, Some, None, option_map, Ok, Err, refl, ap, ◌∙◌, arith, subst}
use Rattle.std.proofs.Common.{inl, inr, sym, take}
use Rattle.std.specs.Prelude.{if◌then◌else◌, ◌≢◌}
use Rattle.std.proofs.lemmas.Bool.{cases_lt, eq-eqb, ne_eqb}
use Rattle.std.proofs.lemmas.List.{length-append, length-take}
use Rattle.growth_core.specs.Evidence.{evidence}
use Rattle.types_core.specs.declared.type_info.TypeInfo.{TypeInfo}
use Rattle.grammar_core.specs.Tree.{Tree}
use Rattle.node_core.specs.Shown.{Seen}
use Rattle.decode_core.specs.Decoding.{AnswersPiece, Decoding, FinishesDecoder, IsEnded, Led}
use Rattle.decode_core.specs.Decoding.{OpensDecoder}
use Rattle.outcome_core.specs.Outcome.{Query, Outcome, done, refused, more, too_long, IsOutcome}
use Rattle.decode_core.specs.Streaming.{EndsAt, Forbids, IsOfQuery, Trails}
use Rattle.decode_core.specs.declared.decoder.Progress.{Progress}
use Rattle.decode_core.specs.declared.decoder.Progress.TheVariants as progress
use Rattle.decode_core.specs.declared.fault.DecodeFault.{DecodeFault}
use Rattle.machine_core.specs.declared.reason.DecodeReason.{DecodeReason}
use Rattle.machine_core.specs.declared.reason.DecodeReason.TheVariants as reason
use Rattle.decode_core.specs.declared.fault.OpenFault.{OpenFault}
use Rattle.decode_core.specs.declared.fault.OpenFault.TheVariants as opening
use Rattle.decode_core.proofs.Streaming.{done_ends, no_value, opened}
use Rattle.outcome_core.proofs.Computed.{outcome_is_computed}
use Rattle.outcome_core.proofs.Outcomes.{one_outcome}
use Rattle.scale_calls.specs.Refused.{opening_refusal, value_refusal, value_refusal_by}
use Rattle.scale_calls.specs.Values.{RefusesValue, value_in, value_of_all}

-- the value that an outcome gives to so many bytes
abbrev value_by : Query → ℕ → Outcome × ℕ → Option Seen
value_by j len o =
    option_map (λ v. record { types = j.registry; ty = j.ty; tree = v }) (value_of_all len o.0 o.1)

-- the value that all bytes spell is what their outcome gives
pub by_outcome : (j : Query) (b : List ℕ) (one : Outcome) (n : ℕ) → IsOutcome j b one n →
    value_in j b ≡ value_by j (length b) (one, n)
by_outcome j b one n h = ap (value_by j (length b)) ((outcome_is_computed j b).1 one n h)

-- a value that was read is that of all bytes where it has as many as there are
whole_where : (len taken : ℕ) (v : Tree) (same : Bool) → (taken == len) ≡ same →
    value_of_all len (done v) taken ≡ (if same then Some v else None)
whole_where len taken v same e = ap (λ (t : Bool). if t then Some v else None) e

-- a value is known by its types, its type and its tree
seen_is : (types : List TypeInfo) (id : ℕ) (v : Seen) → v.types ≡ types → v.ty ≡ id →
    record { types = types; ty = id; tree = v.tree } ≡ v
seen_is types id v a b = rw (← a, ← b) refl

-- all the bytes are those of the value
pub spelled : (j : Query) (b : List ℕ) (v : Seen) (n : ℕ) → n ≡ length b → IsOfQuery j v →
    IsOutcome j b (done v.tree) n → value_in j b ≡ Some v
spelled j b v n all of h = by_outcome j b (done v.tree) n h
    ∙ ap (option_map (λ t. record { types = j.registry; ty = j.ty; tree = t }))
    (whole_where (length b) n v.tree true (eq-eqb n (length b) all))
    ∙ ap Some (seen_is j.registry j.ty v of.0 of.1)

-- some of them are not
pub not_all : (j : Query) (b : List ℕ) (v : Tree) (n : ℕ) → (n ≡ length b → ⊥) →
    IsOutcome j b (done v) n → value_in j b ≡ None
not_all j b v n some h = by_outcome j b (done v) n h
    ∙ ap (option_map (λ t. record { types = j.registry; ty = j.ty; tree = t }))
    (whole_where (length b) n v false (ne_eqb n (length b) some))

-- a fault of the bytes, which is no allocation failure
ended : (j : Query) (b : List ℕ) (f : DecodeFault) (n : ℕ) →
    f.reason ≢ reason.OutOfMemory evidence →
    IsEnded j b f n → value_in j b ≡ None
ended j b f n other (inl is) = absurd (other (ap (λ (x : DecodeFault). x.reason) is.0))
ended j b f n other (inr (inl h)) = by_outcome j b too_long n h.1
ended j b f n other (inr (inr h)) = by_outcome j b (refused h.0 h.1) n h.3

-- bytes that a decoder refuses, and not for an allocation failure, spell no value
pub faulted : (j : Query) (b : List ℕ) (f : DecodeFault) → f.reason ≢ reason.OutOfMemory evidence →
    FinishesDecoder j b (Err f) → value_in j b ≡ None
faulted j b f other (inl h) = by_outcome j b more (length b) h.1
faulted j b f other (inr h) = ended j b f h.0 other h.1

-- ---- what a refusal says

-- a fault that is not an allocation failure is reported of the bytes, which spell no value
reported_fault : (forbidden : Option OpenFault) (j : Query) (b : List ℕ) (f : DecodeFault) →
    forbidden ≡ None → f.reason ≢ reason.OutOfMemory evidence → FinishesDecoder j b (Err f) →
    (forbidden ≡ None) × (value_in j b ≡ None) × FinishesDecoder j b (Err f)
reported_fault forbidden j b f none other h = (none, faulted j b f other h, h)

-- a decoder's fault is why the bytes are refused, whatever its reason
by_reason : (r : DecodeReason) (forbidden : Option OpenFault) (j : Query) (b : List ℕ)
    (f : DecodeFault) → r ≡ f.reason → forbidden ≡ None → FinishesDecoder j b (Err f) →
    RefusesValue forbidden j b (value_refusal_by r f)
by_reason (reason.OutOfMemory _) forbidden j b f is none h = tt
by_reason _ forbidden j b f is none h =
    reported_fault forbidden j b f none (λ e. let bad = is ∙ e in cc) h

-- what forbids a decoder is why the bytes are refused
pub by_opening : (forbidden : Option OpenFault) (j : Query) (b : List ℕ) (f : OpenFault) →
    Forbids forbidden f → RefusesValue forbidden j b (opening_refusal f)
by_opening forbidden j b opening.UnknownType (inl is) = is
by_opening forbidden j b opening.UnknownType (inr is) = let bad = is.0 in absurd cc
by_opening forbidden j b opening.LimitOutOfRange (inl is) = is
by_opening forbidden j b opening.LimitOutOfRange (inr is) = let bad = is.0 in absurd cc
by_opening forbidden j b (opening.OutOfMemory _) h = tt

-- what the decoder's fault refuses the bytes for
pub refused_by : (forbidden : Option OpenFault) (j : Query) (b : List ℕ) (f : DecodeFault) →
    forbidden ≡ None → FinishesDecoder j b (Err f) →
    RefusesValue forbidden j b (value_refusal f)
refused_by forbidden j b f none h = by_reason f.reason forbidden j b f refl none h

-- ---- a decoder that was fed with all the bytes

-- it was opened, they have led to it, and a value on their front ends where it has taken them
pub record WasFed (fault : Option OpenFault) (j : Query) (d : Decoding) (b : List ℕ) : Type 0 where
  pub none : fault ≡ None
  pub query : d.query ≡ j
  pub led : Led d b
  pub ends : EndsAt d.query b d.taken

-- where a decoder ends that answers a piece, each value on the front of the bytes ends
ends_taken : (old new : Decoding) (b : List ℕ) (p : Progress) → AnswersPiece old new b (Ok p) →
    EndsAt new.query b new.taken
ends_taken old new b progress.More h =
    λ v n k. no_value v (one_outcome new.query b (done v) more n new.taken k h).0
ends_taken old new b (progress.Done used) h = done_ends new.query b _ new.taken h.2

-- its answer to them says so
pub was_fed : (fault : Option OpenFault) (first old new : Decoding) (b : List ℕ) (p : Progress) →
    OpensDecoder fault first (Ok old) → new.query ≡ old.query →
    AnswersPiece old new b (Ok p) × Led new b → WasFed fault first.query new b
was_fed fault first old new b p opens same answers = let o = opened fault first old opens in
    record {
      none = o.0;
      query = same ∙ ap (λ (d : Decoding). d.query) o.1;
      led = answers.1;
      ends = ends_taken old new b p answers.0;
    }

-- what its fault in feeding refuses the bytes for
pub refused_fed : (fault : Option OpenFault) (first old new : Decoding) (b : List ℕ)
    (f : DecodeFault) → OpensDecoder fault first (Ok old) → new.query ≡ old.query →
    AnswersPiece old new b (Err f) → RefusesValue fault first.query b (value_refusal f)
refused_fed fault first old new b f opens same answers =
    let o = opened fault first old opens in
    refused_by fault first.query b f o.0
    (subst (λ (q : Query). FinishesDecoder q b (Err f))
    (same ∙ ap (λ (d : Decoding). d.query) o.1) (inr (new.taken, answers.1)))

-- what its fault at the end refuses the bytes for
pub refused_ended : (fault : Option OpenFault) (j : Query) (d : Decoding) (b : List ℕ)
    (f : DecodeFault) → WasFed fault j d b → FinishesDecoder d.query b (Err f) →
    RefusesValue fault j b (value_refusal f)
refused_ended fault j d b f fed h =
    refused_by fault j b f fed.none
    (subst (λ (q : Query). FinishesDecoder q b (Err f)) fed.query h)

-- a value that takes all the bytes is the one that they spell
pub one_value : (fault : Option OpenFault) (j : Query) (d : Decoding) (b : List ℕ) (v : Seen) →
    WasFed fault j d b → d.taken ≡ length b → FinishesDecoder d.query b (Ok v) →
    (fault ≡ None) × (value_in j b ≡ Some v)
one_value fault j d b v fed all h =
    let is = spelled d.query b v h.0 (fed.ends v.tree h.0 h.3 ∙ all) (h.1, h.2) h.3 in
    (fed.none, subst (λ (q : Query). value_in q b ≡ Some v) fed.query is)

-- what is at most a number, and is not it, is less
short : (n len : ℕ) → n ≤ len → (n ≡ len → ⊥) → n < len
short n len le some = elim (cases_lt n len)
    [ inl lt ↦ lt | inr ge ↦ absurd (some (omega (arith, le, ge))) ]

-- a value's own bytes are some of all
within : (n limit : ℕ) (b front rest : List ℕ) → take limit b ≡ front ++ rest → n ≡ length front →
    n ≤ length b
within n limit b front rest is own =
    omega (arith, own, ap length is, length-append front rest, length-take limit b)

-- a value that does not take all the bytes is followed by others, and all spell no value
pub one_front : (fault : Option OpenFault) (j : Query) (d : Decoding) (b : List ℕ) (v : Seen)
    (n : ℕ) → WasFed fault j d b → n ≡ d.taken → (n ≡ length b → ⊥) →
    FinishesDecoder d.query b (Ok v) →
    (fault ≡ None) × (value_in j b ≡ None) × Trails j n b
one_front fault j d b v n fed count some h =
    let out = subst (λ m. IsOutcome d.query b (done v.tree) m)
    (fed.ends v.tree h.0 h.3 ∙ sym count) h.3 in
    let both : (value_in d.query b ≡ None) × Trails d.query n b = (
      not_all d.query b v.tree n some out,
      (v.tree, out, short n (length b) (within n d.query.bytes b out.0 out.1 out.2 out.5) some),
    ) in
    let moved = subst (λ (q : Query). (value_in q b ≡ None) × Trails q n b) fed.query both in
    (fed.none, moved.0, moved.1)

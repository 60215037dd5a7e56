-- Every input has the outcome that is computed.
use Rattle.std.proofs.Common.{◌≡◌, ℕ, suc, List, ◌++◌, length, take, drop, Ok, Err, refl, sym, ap}
use Rattle.std.proofs.Common.{◌∙◌, arith, inl, inr}
use Rattle.std.specs.Prelude.{◌≢◌}
use Rattle.std.proofs.lemmas.Bool.{cases_lt, lt-ltb, le-ltb}
use Rattle.std.proofs.lemmas.List.{take_all, take-append-drop, length-append}
use Rattle.scale_core.specs.Read.{Read, place}
use Rattle.scale_core.specs.declared.fault.Reason.TheVariants as scale
use Rattle.grammar_core.specs.Tree.{Tree}
use Rattle.grammar_core.specs.Reading.{value_at, Refusal, basic, no_such_variant, too_deep}
use Rattle.grammar_core.specs.Reading.{no_finite_value, bit_sequence, bad_compact, truncated}
use Rattle.grammar_core.proofs.Proved.{read_is_value, stable}
use Rattle.outcome_core.specs.Taken.{value_taken}
use Rattle.outcome_core.specs.Outcome.{Outcome, refused, Query, IsShortest, FailsAt, IsOutcome}
use Rattle.outcome_core.specs.Outcome.{missing, refusal, answer, outcome_of, OutcomeIsComputed}
use Rattle.outcome_core.specs.Outcome.{TakenIsShortest}
use Rattle.outcome_core.proofs.DecidingFronts.{Decides}
use Rattle.outcome_core.proofs.Shortest.{value_decided}
use Rattle.outcome_core.proofs.Outcomes.{one_outcome, failed_is}

-- a value that is refused for good is decided by the bytes that are said to be taken
decides : (j : Query) (b : List ℕ) (reason : Refusal) (left : List ℕ) → reason ≢ truncated →
    value_at j.registry (suc j.depth) j.ty b ≡ Err (reason, left) →
    Decides truncated (value_at j.registry (suc j.depth) j.ty) b
    (value_taken j.registry (suc j.depth) j.ty b) reason
decides j b reason left ne e = (rw e at (value_decided j.registry (suc j.depth) j.ty b)) ne

-- the bytes that are said to be taken are the shortest front that is refused so, at this place
shortest : (j : Query) (b : List ℕ) (reason : Refusal) (left : List ℕ) → reason ≢ truncated →
    value_at j.registry (suc j.depth) j.ty b ≡ Err (reason, left) →
    IsShortest (FailsAt j reason (place b left)) b (value_taken j.registry (suc j.depth) j.ty b)
shortest j b reason left ne e =
    let k = value_taken j.registry (suc j.depth) j.ty b in
    let d = decides j b reason left ne e in
    let longer = stable j.registry (suc j.depth) j.ty (take k b) (drop k b) reason d.front.0 ne
    d.front.1 in
    let split : take k b ++ drop k b ≡ b = take-append-drop k b in
    let same : value_at j.registry (suc j.depth) j.ty b ≡ Err (reason, d.front.0 ++ drop k b) =
    ap (value_at j.registry (suc j.depth) j.ty) (sym split) ∙ longer in
    let lefts : left ≡ d.front.0 ++ drop k b =
    ap (λ (p : Refusal × List ℕ). p.1)
    (failed_is (reason, left) (reason, d.front.0 ++ drop k b) (sym e ∙ same)) in
    record {
      there = d.there;
      holds = (
        d.front.0,
        d.front.1,
        omega (
          arith,
          ap length split,
          length-append (take k b) (drop k b),
          ap length lefts,
          length-append d.front.0 (drop k b),
        ),
      );
      least = λ i lt f. let early = d.early i lt in
          ne (ap (λ (p : Refusal × List ℕ). p.0)
          (failed_is (reason, f.0) (truncated, early.0) (sym f.1 ∙ early.1)));
    }

-- what is taken of a refused value is the shortest front that is refused so
pub taken_is_shortest : TakenIsShortest
taken_is_shortest j reason at b ne f = rw (← f.2) (shortest j b reason f.0 ne f.1)

abbrev Is : Query → List ℕ → Outcome × ℕ → Type 0
Is j input o = IsOutcome j input o.0 o.1

-- a refusal for good, within the byte limit, is the outcome with its place and what it takes
refused_is : (j : Query) (input : List ℕ) (reason : Refusal) (left : List ℕ) → reason ≢ truncated →
    value_at j.registry (suc j.depth) j.ty (take j.bytes input) ≡ Err (reason, left) →
    Is j input (
      refused reason (place (take j.bytes input) left),
      value_taken j.registry (suc j.depth) j.ty (take j.bytes input),
    )
refused_is j input reason left ne e =
    (ne, (left, e, refl), shortest j (take j.bytes input) reason left ne e)

-- where bytes are missing within the limit, more is wanted, or the input is too long
missing_is : (j : Query) (input left : List ℕ) →
    value_at j.registry (suc j.depth) j.ty (take j.bytes input) ≡ Err (truncated, left) →
    Is j input (missing j input)
missing_is j input left e = elim (cases_lt j.bytes (length input)) [
  | inl lt ↦ rw (lt-ltb j.bytes (length input) lt)
      ((place (take j.bytes input) left, (left, e, refl)), lt, refl)
  | inr le ↦ rw (le-ltb j.bytes (length input) le)
      ((place input left, (left, rw (take_all j.bytes input le) at e, refl)), le, refl)
]

-- a refusal within the byte limit gives the outcome that is computed for it
refusal_is : (j : Query) (input : List ℕ) (reason : Refusal) (left : List ℕ) →
    value_at j.registry (suc j.depth) j.ty (take j.bytes input) ≡ Err (reason, left) →
    Is j input (refusal j input reason left)
refusal_is j input (basic scale.Truncated) left e = missing_is j input left e
refusal_is j input (basic scale.BadBool) left e =
    refused_is j input (basic scale.BadBool) left (λ q. absurd cc) e
refusal_is j input (basic scale.BadChar) left e =
    refused_is j input (basic scale.BadChar) left (λ q. absurd cc) e
refusal_is j input (basic scale.BadUtf8) left e =
    refused_is j input (basic scale.BadUtf8) left (λ q. absurd cc) e
refusal_is j input (basic scale.UnusedBits) left e =
    refused_is j input (basic scale.UnusedBits) left (λ q. absurd cc) e
refusal_is j input (basic scale.CompactNotShortest) left e =
    refused_is j input (basic scale.CompactNotShortest) left (λ q. absurd cc) e
refusal_is j input (basic scale.CompactTooLarge) left e =
    refused_is j input (basic scale.CompactTooLarge) left (λ q. absurd cc) e
refusal_is j input no_such_variant left e =
    refused_is j input no_such_variant left (λ q. absurd cc) e
refusal_is j input too_deep left e = refused_is j input too_deep left (λ q. absurd cc) e
refusal_is j input no_finite_value left e =
    refused_is j input no_finite_value left (λ q. absurd cc) e
refusal_is j input bit_sequence left e = refused_is j input bit_sequence left (λ q. absurd cc) e
refusal_is j input bad_compact left e = refused_is j input bad_compact left (λ q. absurd cc) e

-- what the reading within the byte limit answers gives the outcome that is computed for it
answer_is : (j : Query) (input : List ℕ) (read : Read Refusal Tree) →
    value_at j.registry (suc j.depth) j.ty (take j.bytes input) ≡ read →
    Is j input (answer j input read)
answer_is j input (Ok x) e =
    let s = read_is_value j.registry (suc j.depth) j.ty (take j.bytes input) x.0 x.1 e in
    (s.0, x.1, s.1, s.2, s.3, omega (arith, ap length s.1, length-append s.0 x.1))
answer_is j input (Err x) e = refusal_is j input x.0 x.1 e

-- the outcome that is computed is one of the input
computed : (j : Query) (input : List ℕ) → Is j input (outcome_of j input)
unfolding outcome_of
computed j input = answer_is j input (value_at j.registry (suc j.depth) j.ty (take j.bytes input))
    refl

-- every input has the outcome that is computed, and no other
pub outcome_is_computed : OutcomeIsComputed
outcome_is_computed j input = (
  computed j input,
  λ o n h. let same =
      one_outcome j input (outcome_of j input).0 o (outcome_of j input).1 n (computed j input) h in
      rw (← same.0, ← same.1) refl,
)

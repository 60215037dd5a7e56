-- An outcome that is decided is kept.
use Rattle.std.proofs.Common.{◌≡◌, ℕ, suc, ◌+◌, ◌-◌, List, ◌++◌, length, take, refl, sym, ap}
use Rattle.std.proofs.Common.{◌∙◌, append_assoc, arith, inl, inr}
use Rattle.std.specs.Prelude.{◌≢◌}
use Rattle.std.proofs.lemmas.Bool.{cases_lt}
use Rattle.std.proofs.lemmas.List.{take-append-le, length-append, take_all, append-nil}
use Rattle.std.proofs.Math.Seq.{take-append-add}
use Rattle.grammar_core.specs.Reading.{Refusal, truncated}
use Rattle.grammar_core.proofs.Proved.{stable}
use Rattle.outcome_core.specs.Outcome.{done, refused, more, too_long, Query, IsShortest, FailsAt}
use Rattle.outcome_core.specs.Outcome.{OutcomeIsKept}

-- the first bytes of two lists are those of the first and what is still wanted of the other
pub take_split : (n : ℕ) (b p : List ℕ) → take n (b ++ p) ≡ take n b ++ take (n - length b) p
take_split n b p = elim (cases_lt n (length b)) [
  | inl lt ↦ let none : n - length b ≡ 0 = omega arith in take-append-le n b p (omega arith)
      ∙ sym (append-nil (take n b)) ∙ ap (λ (k : ℕ). take n b ++ take k p) (sym none)
  | inr ge ↦ let same : length b + (n - length b) ≡ n = omega arith in
      ap (λ (k : ℕ). take k (b ++ p)) (sym same) ∙ take-append-add b p (n - length b)
      ∙ ap (λ (x : List ℕ). x ++ take (n - length b) p) (sym (take_all n b ge))
]

-- a refusal for good stays, with its place, where bytes are appended
fails_more : (j : Query) (reason : Refusal) (at : ℕ) (input m : List ℕ) → reason ≢ truncated →
    FailsAt j reason at input → FailsAt j reason at (input ++ m)
fails_more j reason at input m ne f = (
  f.0 ++ m,
  stable j.registry (suc j.depth) j.ty input m reason f.0 ne f.1,
  omega (arith, f.2, length-append input m, length-append f.0 m),
)

-- the shortest front with a property stays so where bytes are appended
shortest_more : (P : List ℕ → Type 0) (input m : List ℕ) (n : ℕ) → IsShortest P input n →
    IsShortest P (input ++ m) n
shortest_more P input m n s = record {
  there = omega (arith, s.there, length-append input m);
  holds = rw (take-append-le n input m s.there) s.holds;
  least = λ k lt f. s.least k lt (rw (take-append-le k input m (omega (arith, s.there))) at f);
}

-- once an outcome is decided, further bytes do not change it
pub outcome_is_kept : OutcomeIsKept
outcome_is_kept j input later (done v) n ne h =
    let back = take (j.bytes - length input) later in (
      h.0,
      h.1 ++ back,
      rw (take_split j.bytes input later, h.2) (append_assoc h.0 h.1 back),
      h.3,
      h.4,
      h.5,
    )
outcome_is_kept j input later (refused reason at) n ne h =
    let back = take (j.bytes - length input) later in
    rw (take_split j.bytes input later) (
      h.0,
      fails_more j reason at (take j.bytes input) back h.0 h.1,
      shortest_more (FailsAt j reason at) (take j.bytes input) back n h.2,
    )
outcome_is_kept j input later more n ne h = absurd (ne refl)
outcome_is_kept j input later too_long n ne h = (
  rw (take-append-le j.bytes input later (omega (arith, h.1))) h.0,
  omega (arith, h.1, length-append input later),
  h.2,
)

-- The outcome of what was encoded, and that there is one outcome alone.
use Rattle.std.proofs.Common.{◌≡◌, ℕ, suc, ◌≤◌, List, [], ◌++◌, length, take, Result, Err, refl}
use Rattle.std.proofs.Common.{sym, ap, ◌∙◌, arith, inl, inr}
use Rattle.std.proofs.lemmas.Bool.{cases_lt}
use Rattle.std.proofs.lemmas.List.{append-nil, take_all}
use Rattle.scale_core.specs.Read.{place}
use Rattle.types_core.specs.declared.type_info.TypeInfo.{TypeInfo}
use Rattle.grammar_core.specs.Tree.{Tree, levels}
use Rattle.grammar_core.specs.Grammar.{Val}
use Rattle.grammar_core.specs.Reading.{Refusal, truncated}
use Rattle.grammar_core.proofs.Proved.{not_both, prefix_free}
use Rattle.outcome_core.specs.Outcome.{done, refused, more, too_long, Query, IsShortest, FailsAt}
use Rattle.outcome_core.specs.Outcome.{EncodedIsDone, OneOutcome}

-- what is encoded within the limits is decoded, and all of it is taken
pub encoded_is_done : EncodedIsDone
encoded_is_done j v b h l s = (b, [], take_all j.bytes b s ∙ sym (append-nil b), h, l, refl)

-- an input has one shortest front with a property
shortest_is_one : (P : List ℕ → Type 0) (input : List ℕ) (n m : ℕ) → IsShortest P input n →
    IsShortest P input m → n ≡ m
shortest_is_one P input n m a b = elim (cases_lt n m) [
  | inl lt ↦ absurd (b.least n lt a.holds)
  | inr ge ↦ elim (cases_lt m n) [ inl lt ↦ absurd (a.least m lt b.holds) | inr le ↦ omega arith ]
]

-- a fault is no value
done_fails : (j : Query) (input front rest : List ℕ) (v : Tree) (reason : Refusal) (at : ℕ) →
    input ≡ front ++ rest → Val j.registry j.ty v front → levels v ≤ suc j.depth →
    FailsAt j reason at input → ⊥
done_fails j input front rest v reason at e h l f =
    not_both j.registry (suc j.depth) j.ty input v rest reason f.0 (front, e, h, l) f.1

abbrev pub failed : Refusal × List ℕ → Result (Tree × List ℕ) (Refusal × List ℕ)
failed e = Err e

-- two failed readings that are equal have one fault
pub failed_is : (x y : Refusal × List ℕ) → failed x ≡ failed y → x ≡ y
failed_is x y e = cc

-- one fault alone
one_fault : (j : Query) (input : List ℕ) (one two : Refusal) (n m : ℕ) → FailsAt j one n input →
    FailsAt j two m input → (one ≡ two) × (n ≡ m)
one_fault j input one two n m f g =
    let same = failed_is (one, f.0) (two, g.0) (sym f.1 ∙ g.1) in (
      ap (λ (p : Refusal × List ℕ). p.0) same,
      sym f.2
          ∙ ap (λ (p : Refusal × List ℕ). place input p.1) same ∙ g.2,
    )

-- two values that stand on fronts of one input are one, and of the same length
done_once : (r : List TypeInfo) (t n m : ℕ) (v w : Tree) (input a rest b left : List ℕ) →
    input ≡ a ++ rest → input ≡ b ++ left → Val r t v a → Val r t w b → n ≡ length a →
    m ≡ length b → (done v ≡ done w) × (n ≡ m)
done_once r t n m v w input a rest b left e f h k len1 len2 =
    let same = prefix_free r t v w a b rest left h k (sym e ∙ f) in
    (ap done same.0, len1 ∙ ap length same.1 ∙ sym len2)

-- an input that is refused has one reason, one place and one count of bytes taken
refused_once : (j : Query) (input : List ℕ) (one two : Refusal) (at place n m : ℕ) →
    FailsAt j one at input → FailsAt j two place input → IsShortest (FailsAt j one at) input n →
    IsShortest (FailsAt j two place) input m → (refused one at ≡ refused two place) × (n ≡ m)
refused_once j input one two at place n m f g h k =
    let same = one_fault j input one two at place f g in
    let moved : IsShortest (FailsAt j one at) input m = rw (same.0, same.1) k in
    (rw (same.0, same.1) refl, shortest_is_one (FailsAt j one at) input n m h moved)

-- an input has one outcome alone
pub one_outcome : OneOutcome
one_outcome j input (done v) (done w) n m h k =
    done_once j.registry j.ty n m v w (take j.bytes input) h.0 h.1 k.0 k.1 h.2 k.2 h.3 k.3 h.5 k.5
one_outcome j input (done v) (refused reason at) n m h k =
    absurd (done_fails j (take j.bytes input) h.0 h.1 v reason at h.2 h.3 h.4 k.1)
one_outcome j input (done v) more n m h k =
    absurd (done_fails j (take j.bytes input) h.0 h.1 v truncated k.0.0 h.2 h.3 h.4
    (rw (take_all j.bytes input k.1) k.0.1))
one_outcome j input (done v) too_long n m h k =
    absurd (done_fails j (take j.bytes input) h.0 h.1 v truncated k.0.0 h.2 h.3 h.4 k.0.1)
one_outcome j input (refused reason at) (done v) n m k h =
    absurd (done_fails j (take j.bytes input) h.0 h.1 v reason at h.2 h.3 h.4 k.1)
one_outcome j input (refused reason at) (refused other place) n m h k =
    refused_once j (take j.bytes input) reason other at place n m h.1 k.1 h.2 k.2
one_outcome j input (refused reason at) more n m h k =
    absurd (h.0 (one_fault j (take j.bytes input) reason truncated at k.0.0 h.1
    (rw (take_all j.bytes input k.1) k.0.1)).0)
one_outcome j input (refused reason at) too_long n m h k =
    absurd (h.0 (one_fault j (take j.bytes input) reason truncated at k.0.0 h.1 k.0.1).0)
one_outcome j input more (done v) n m k h =
    absurd (done_fails j (take j.bytes input) h.0 h.1 v truncated k.0.0 h.2 h.3 h.4
    (rw (take_all j.bytes input k.1) k.0.1))
one_outcome j input more (refused reason at) n m k h =
    absurd (h.0 (one_fault j (take j.bytes input) reason truncated at k.0.0 h.1
    (rw (take_all j.bytes input k.1) k.0.1)).0)
one_outcome j input more more n m h k = (refl, h.2 ∙ sym k.2)
one_outcome j input more too_long n m h k = absurd (omega (arith, h.1, k.1))
one_outcome j input too_long (done v) n m k h =
    absurd (done_fails j (take j.bytes input) h.0 h.1 v truncated k.0.0 h.2 h.3 h.4 k.0.1)
one_outcome j input too_long (refused reason at) n m k h =
    absurd (h.0 (one_fault j (take j.bytes input) reason truncated at k.0.0 h.1 k.0.1).0)
one_outcome j input too_long more n m h k = absurd (omega (arith, h.1, k.1))
one_outcome j input too_long too_long n m h k = (refl, h.2 ∙ sym k.2)

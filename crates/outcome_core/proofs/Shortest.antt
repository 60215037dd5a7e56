-- What is taken where a value is refused is the shortest front that is refused so.
use Rattle.std.proofs.Common.{◌≡◌, ℕ, zero, suc, ◌<◌, ◌≤◌, ◌⊎◌, Bool, true}
use Rattle.std.proofs.Common.{false, cond, List, [], ◌∷◌, length, take, drop, Option, Some, None}
use Rattle.std.proofs.Common.{Ok, Err, refl, sym, ◌∙◌, arith, inl, inr}
use Rattle.std.specs.Prelude.{◌≢◌}
use Rattle.std.specs.Str.{is_utf8}
use Rattle.std.specs.Str.Lossy.{utf8_valid_len}
use Rattle.std.proofs.lemmas.Bool.{cases_lt, le-ltb}
use Rattle.std.proofs.lemmas.List.{length-take, length-take-le, take-take, take_all}
use Rattle.scale_core.specs.Read.{Read, ◌>>=◌, bytes_at, compact_at}
use Rattle.scale_core.specs.declared.compact.Target.TheVariants as target
use Rattle.scale_core.specs.declared.fault.Reason.{Reason}
use Rattle.scale_core.specs.declared.fault.Reason.TheVariants as reasons
use Rattle.scale_core.proofs.Results.{mapped}
use Rattle.types_core.specs.Bits.{bits_bytes, first_unused}
use Rattle.types_core.specs.declared.bits.BitForm.{BitForm}
use Rattle.types_core.proofs.BitWords.{unused_before, unused_front, unused_within}
use Rattle.types_core.specs.declared.definition.Arm.{Arm}
use Rattle.types_core.specs.declared.type_info.TypeInfo.{TypeInfo}
use Rattle.graph_core.specs.Types.{field_types}
use Rattle.widths_core.specs.Arms.{arm_of}
use Rattle.widths_core.specs.Classes.{is_finite}
use Rattle.widths_core.specs.Layouts.{Plain, Layout, layout}
use Rattle.widths_core.specs.Layouts as layout
use Rattle.widths_core.specs.declared.run_kind.RunKind.{RunKind}
use Rattle.widths_core.specs.declared.run_kind.RunKind.TheVariants as kind
use Rattle.grammar_core.specs.Tree.{Leaf, Branch, Tree, leaf, branch, fields, arm, list, Trees, and}
use Rattle.grammar_core.specs.Tree.{levels}
use Rattle.grammar_core.specs.Ways.{Way, of_no_byte, of_width, of_compact, of_run, way_of, read_by}
use Rattle.grammar_core.specs.Ways.{leaf_of, judged_leaf}
use Rattle.grammar_core.specs.Grammar.{Val}
use Rattle.grammar_core.specs.Reading.{value_at, layout_at, leaf_at, all_at}
use Rattle.grammar_core.specs.Reading.{times_at, fields_after_index, arms_at, elements_at, as_leaf}
use Rattle.grammar_core.specs.Reading.{with_children, Refusal, basic, too_deep}
use Rattle.grammar_core.specs.Reading.{no_finite_value, bit_sequence, bad_compact, truncated}
use Rattle.grammar_core.specs.Runs.{body_at, run_at, run_judged, run_leaf, run_length_at, words_at}
use Rattle.grammar_core.proofs.Runs.{length_again, length_extends, length_takes}
use Rattle.grammar_core.proofs.Sound.{value_takes}
use Rattle.grammar_core.proofs.Complete.{value_again}
use Rattle.grammar_core.proofs.Stable.{value_extends}
use Rattle.outcome_core.specs.Taken.{leaf_taken, taken_by, compact_taken, run_length_taken}
use Rattle.outcome_core.specs.Taken.{body_taken, words_taken, run_taken, all_taken, times_taken}
use Rattle.outcome_core.specs.Taken.{arm_taken, arms_taken}
use Rattle.outcome_core.specs.Taken.{layout_taken, value_taken}
use Rattle.outcome_core.proofs.DecidingFronts.{DecidedBy, IsStable, chain, finish, bind_chain}
use Rattle.outcome_core.proofs.DecidingFronts.{finish_decided, chain_decided, cons_decided}
use Rattle.outcome_core.proofs.ShortestCompacts.{reason_reports, compact_steady, short_bytes}
use Rattle.outcome_core.proofs.ShortestCompacts.{taken_bytes, compact_decided}

-- ---- runs, bools, chars

-- a run's length is read, or refused for good, whatever follows it
run_length_steady : (k : RunKind) → IsStable reasons.Truncated (run_length_at k)
run_length_steady k = record {
  reports = reason_reports;
  extends = length_extends k;
  exact = λ b. mapped _ _ b (run_length_at k b) (length_takes k b)
      (λ n c is more. length_again k n c more is);
}

-- a run's length that is refused for good is decided by what is said to be taken
run_length_decided : (k : RunKind) (b : List ℕ) →
    DecidedBy reasons.Truncated (run_length_at k) b (run_length_taken k b) (run_length_at k b)
run_length_decided kind.Text b = compact_decided target.U32 b
run_length_decided kind.Bytes b = compact_decided target.U32 b
run_length_decided (kind.ByteArray n) b = tt
run_length_decided (kind.Bits f) b = compact_decided target.U32 b

-- n bytes, which are judged when all are there
abbrev pub judged_at : RunKind → ℕ → List ℕ → Read Reason (List ℕ)
judged_at k n b = bytes_at n b >>= λ s. run_judged k b s

-- a run whose bytes are all there is refused at its end, by all of them
judged_decided : (k : RunKind) (n : ℕ) (b : List ℕ) → n ≤ length b →
    DecidedBy reasons.Truncated (judged_at k n) b n (run_judged k b (take n b, drop n b))
judged_decided kind.Text n b le = go (is_utf8 (take n b)) refl where
  go : (t : Bool) → is_utf8 (take n b) ≡ t →
      DecidedBy reasons.Truncated (judged_at kind.Text n) b n
      (cond t (Ok (take n b, drop n b)) (Err (reasons.BadUtf8, drop (utf8_valid_len (take n b)) b)))
  go true e = tt
  go false e = λ ne. record {
    there = le;
    front = (drop (utf8_valid_len (take n b)) (take n b), rw (taken_bytes n b le, e) refl);
    early = λ j lt. (
      [],
      rw (short_bytes n (take j b)
          (omega (arith, length-take-le j b (omega arith)))) refl,
    );
  }
judged_decided kind.Bytes n b le = tt
judged_decided _ n b le = tt

-- the same whether or not the run's bytes are all there
all_decided_by : (k : RunKind) (n : ℕ) (b : List ℕ) →
    DecidedBy reasons.Truncated (judged_at k n) b n (judged_at k n b)
all_decided_by k n b = elim (cases_lt (length b) n) [
  | inl lt ↦ rw (short_bytes n b lt) (λ ne. absurd (ne refl))
  | inr le ↦ rw (le-ltb (length b) n le) (judged_decided k n b le)
]

-- words are decided by the first byte with an unused bit that is 1, or by all bytes
words_decided : (f : BitForm) (n : ℕ) (b : List ℕ) →
    DecidedBy reasons.Truncated (body_at (kind.Bits f) n) b (body_taken (kind.Bits f) n b)
    (body_at (kind.Bits f) n b)
unfolding body_at
words_decided f n b = go (first_unused f n 0 (take (bits_bytes f n) b)) refl where
  -- the words of a short front are that front
  front_is : (j : ℕ) → j ≤ bits_bytes f n →
      take (bits_bytes f n) (take j b) ≡ take j (take (bits_bytes f n) b)
  front_is j le = take_all (bits_bytes f n) (take j b) (omega (arith, length-take j b, le))
      ∙ sym (take-take j (bits_bytes f n) b le)

  go : (o : Option ℕ) → first_unused f n 0 (take (bits_bytes f n) b) ≡ o →
      DecidedBy reasons.Truncated (body_at (kind.Bits f) n) b (words_taken o (bits_bytes f n))
      (words_at o (bits_bytes f n) b)
  go (Some i) e =
      let within : i < length (take (bits_bytes f n) b) =
      unused_within f n 0 (take (bits_bytes f n) b) i e in
      let len = length-take (bits_bytes f n) b in
      λ ne. record {
        there = omega (arith, within, len);
        front = (
          drop i (take (suc i) b),
          rw (
            front_is (suc i) (omega (arith, within, len)),
            unused_front f n 0 (take (bits_bytes f n) b) i e,
          ) refl,
        );
        early = λ j lt. (
          [],
          rw (
            front_is j (omega (arith, lt, within, len)),
            unused_before f n 0 (take (bits_bytes f n) b) i j e (omega (arith, lt)),
          )
              (short_bytes (bits_bytes f n) (take j b)
              (omega (arith, length-take j b, lt, within, len))),
        );
      }
  go None e = elim (cases_lt (length b) (bits_bytes f n)) [
    | inl lt ↦ rw (short_bytes (bits_bytes f n) b lt) (λ ne. absurd (ne refl))
    | inr le ↦ rw (le-ltb (length b) (bits_bytes f n) le) tt
  ]

-- the bytes of a run that are refused for good are decided by what is taken
body_decided : (k : RunKind) (n : ℕ) (b : List ℕ) →
    DecidedBy reasons.Truncated (body_at k n) b (body_taken k n b) (body_at k n b)
unfolding body_at
body_decided kind.Text n b = all_decided_by kind.Text n b
body_decided kind.Bytes n b = all_decided_by kind.Bytes n b
body_decided (kind.ByteArray m) n b = all_decided_by (kind.ByteArray m) n b
body_decided (kind.Bits f) n b = words_decided f n b

-- the bytes of a run, with its length
abbrev pub counted : ℕ → List ℕ × List ℕ → Read Reason (ℕ × List ℕ)
counted n s = Ok ((n, s.0), s.1)

abbrev pub counted_body : RunKind → ℕ → List ℕ → Read Reason (ℕ × List ℕ)
counted_body k n b = body_at k n b >>= counted n

-- the bytes of a run with its length are those of the run, or its fault
pub counted_finish : (n : ℕ) (r : Read Reason (List ℕ)) →
    (r >>= counted n) ≡ finish (λ e. e) (λ (s : List ℕ). (n, s)) r
counted_finish n (Ok s) = refl
counted_finish n (Err e) = refl

-- a run that is refused for good, in its length or its bytes, is decided by what is taken
run_decided : (k : RunKind) (b : List ℕ) →
    DecidedBy reasons.Truncated (run_at k) b (run_taken k b) (run_at k b)
unfolding run_at
run_decided k b = chain_decided reasons.Truncated (λ e. e) (run_at k) (run_length_at k)
    (counted_body k) (λ n. body_taken k n.0 n.1)
    (λ b. bind_chain (counted_body k) (run_length_at k b)) (run_length_steady k) b
    (run_length_taken k b) (run_length_decided k b)
    (λ n. finish_decided reasons.Truncated (λ e. e) (λ s. (n.0, s)) (counted_body k n.0)
    (body_at k n.0) (λ c. counted_finish n.0 (body_at k n.0 c)) n.1 (body_taken k n.0 n.1)
    (body_decided k n.0 n.1))

-- a fact of no bytes holds of each front with fewer bytes than one
below_one : (b : List ℕ) (P : List ℕ → Type 0) → P [] → (j : ℕ) → j < 1 → P (take j b)
below_one b P h zero lt = h
below_one b P h (suc j) lt = absurd (omega arith)

-- so many bytes that are refused for good are decided by all of them
width_decided : (k : ℕ) (make : List ℕ → Leaf) (fault : List ℕ → Option Reason) (b : List ℕ) →
    DecidedBy reasons.Truncated (read_by (of_width k make fault)) b k
    (read_by (of_width k make fault) b)
width_decided k make fault b = elim (cases_lt (length b) k) [
  | inl lt ↦ rw (short_bytes k b lt) (λ ne. absurd (ne refl))
  | inr le ↦ rw (le-ltb (length b) k le) (go le (fault (take k b)) refl)
] where
  go : k ≤ length b → (f : Option Reason) → fault (take k b) ≡ f →
      DecidedBy reasons.Truncated (read_by (of_width k make fault)) b k
      (judged_leaf b (make (take k b)) (drop k b) f)
  go le None e = tt
  go le (Some reason) e = λ ne. record {
    there = le;
    front = (take k b, rw (taken_bytes k b le, e) refl);
    early = λ j lt. (
      [],
      rw (short_bytes k (take j b)
          (omega (arith, length-take-le j b (omega arith)))) refl,
    );
  }

-- making a leaf of what was read changes the result and leaves the reason
leaf_of_finish : {X : Type 0} (make : X → Leaf) (r : Read Reason X) →
    leaf_of make r ≡ finish (λ e. e) make r
leaf_of_finish make (Ok x) = refl
leaf_of_finish make (Err e) = refl

-- a leaf that is refused for good is decided by what is said to be taken, whatever its way
way_decided : (w : Way) (b : List ℕ) →
    DecidedBy reasons.Truncated (read_by w) b (taken_by w b) (read_by w b)
way_decided (of_no_byte l) b = tt
way_decided (of_width k make fault) b = width_decided k make fault b
way_decided (of_compact m make) b =
    finish_decided reasons.Truncated (λ e. e) make _ (compact_at m)
    (λ c. leaf_of_finish make (compact_at m c)) b (compact_taken m b) (compact_decided m b)
way_decided (of_run k) b =
    finish_decided reasons.Truncated (λ e. e) (run_leaf k) _ (run_at k)
    (λ c. leaf_of_finish (run_leaf k) (run_at k c)) b (run_taken k b) (run_decided k b)

-- ---- values

-- a refusal is either that bytes are missing or another one
pub refusal_reports : (e : Refusal) → (e ≡ truncated) ⊎ (e ≢ truncated)
refusal_reports (basic reasons.Truncated) = inl refl
refusal_reports _ = inr (λ e. absurd cc)

-- a value is read, or refused for good, whatever follows it
value_steady : (r : List TypeInfo) (room t : ℕ) → IsStable truncated (value_at r room t)
value_steady r room t = record {
  reports = refusal_reports;
  extends = value_extends r room t;
  exact = λ b. mapped (λ v c. Val r t v c × (levels v ≤ room)) _ b (value_at r room t b)
      (value_takes r room t b) (λ v c is more. value_again r room t v c more is.0 is.1);
}

-- a leaf as a value carries the reason over
as_leaf_finish : (r : Read Reason Leaf) → as_leaf r ≡ finish basic leaf r
as_leaf_finish (Ok x) = refl
as_leaf_finish (Err e) = refl

-- putting a node over parts changes the result and leaves the refusal
pub with_children_finish : (k : Branch) (r : Read Refusal Trees) →
    with_children k r ≡ finish (λ e. e) (branch k) r
with_children_finish k (Ok x) = refl
with_children_finish k (Err e) = refl

-- putting a value before others changes the result and leaves the refusal
pub and_finish : (v : Tree) (r : Read Refusal Trees) →
    (r >>= λ others. Ok (and v others.0, others.1)) ≡ finish (λ e. e) (and v) r
and_finish v (Ok x) = refl
and_finish v (Err e) = refl

-- a sequence is its length and, after it, so many elements
pub elements_chain : (child : ℕ → List ℕ → Read Refusal Tree) (t : ℕ) (r : Read Reason ℕ) →
    elements_at child t r ≡ chain basic (λ n b. with_children list (times_at child n t b)) r
elements_chain child t (Ok x) = refl
elements_chain child t (Err e) = refl

-- refused as it is met
met_decided : (g : List ℕ → Read Refusal Tree) (b : List ℕ) (reason : Refusal) (left : List ℕ) →
    g [] ≡ Err (reason, []) → DecidedBy truncated g b 0 (Err (reason, left))
met_decided g b reason left h =
    λ ne. record { there = omega arith; front = ([], h); early = λ j lt. absurd (omega arith) }

abbrev ChildDecided : List TypeInfo → ℕ → Type 0
ChildDecided r room = (t : ℕ) (b : List ℕ) →
    DecidedBy truncated (value_at r room t) b (value_taken r room t b) (value_at r room t b)

-- parts of these types are decided by what is taken of them, if each part is
all_decided : (r : List TypeInfo) (room : ℕ) → ChildDecided r room → (ts : List ℕ) (b : List ℕ) →
    DecidedBy truncated (all_at (value_at r room) ts) b
    (all_taken (value_at r room) (value_taken r room) ts b) (all_at (value_at r room) ts b)
all_decided r room h [] b = tt
all_decided r room h (t ∷ ts) b = let child = value_at r room in
    chain_decided truncated (λ e. e) (all_at child (t ∷ ts)) (child t)
    (λ v c. all_at child ts c >>= λ others. Ok (and v others.0, others.1))
    (λ x. all_taken child (value_taken r room) ts x.1)
    (λ c. bind_chain (λ v d. all_at child ts d >>= λ others. Ok (and v others.0, others.1))
    (child t c)) (value_steady r room t) b (value_taken r room t b) (h t b)
    (λ x. finish_decided truncated (λ e. e) (and x.0) _ (all_at child ts)
    (λ c. and_finish x.0 (all_at child ts c)) x.1 (all_taken child (value_taken r room) ts x.1)
    (all_decided r room h ts x.1))

-- the same for parts of one type
times_decided : (r : List TypeInfo) (room : ℕ) → ChildDecided r room → (n t : ℕ) (b : List ℕ) →
    DecidedBy truncated (times_at (value_at r room) n t) b
    (times_taken (value_at r room) (value_taken r room) n t b) (times_at (value_at r room) n t b)
times_decided r room h zero t b = tt
times_decided r room h (suc n) t b = let child = value_at r room in
    chain_decided truncated (λ e. e) (times_at child (suc n) t) (child t)
    (λ v c. times_at child n t c >>= λ others. Ok (and v others.0, others.1))
    (λ x. times_taken child (value_taken r room) n t x.1)
    (λ c. bind_chain (λ v d. times_at child n t d >>= λ others. Ok (and v others.0, others.1))
    (child t c)) (value_steady r room t) b (value_taken r room t b) (h t b)
    (λ x. finish_decided truncated (λ e. e) (and x.0) _ (times_at child n t)
    (λ c. and_finish x.0 (times_at child n t c)) x.1
    (times_taken child (value_taken r room) n t x.1) (times_decided r room h n t x.1))

-- an arm is decided by its index and what its fields take; an unknown index by itself
arm_decided : (r : List TypeInfo) (room : ℕ) → ChildDecided r room →
    (arms : List Arm) (i : ℕ) (b : List ℕ) (found : Option (ℕ × Arm)) → arm_of arms i ≡ found →
    DecidedBy truncated (arms_at (value_at r room) arms) (i ∷ b)
    (suc (arm_taken (value_at r room) (value_taken r room) found b))
    (fields_after_index (value_at r room) (i ∷ b) found b)
arm_decided r room h arms i b None e =
    λ ne. record {
      there = omega arith;
      front = (i ∷ [], rw e refl);
      early =
          below_one (i ∷ b) (λ d. (left : List ℕ)
          × (arms_at (value_at r room) arms d ≡ Err (truncated, left))) ([], refl);
    }
arm_decided r room h arms i b (Some a) e = let child = value_at r room in let ts =
    field_types a.1.fields in
    let inner = finish_decided truncated (λ x. x) (branch (arm a.0))
    (λ c. with_children (arm a.0) (all_at child ts c)) (all_at child ts)
    (λ c. with_children_finish (arm a.0) (all_at child ts c)) b
    (all_taken child (value_taken r room) ts b) (all_decided r room h ts b) in
    let is : (c : List ℕ) → arms_at child arms (i ∷ c) ≡ with_children (arm a.0)
    (all_at child ts c) = λ c. rw e refl in
    rw is at (cons_decided truncated (arms_at child arms)
    (λ c. with_children (arm a.0) (all_at child ts c)) i is [] refl b
    (all_taken child (value_taken r room) ts b) inner)

-- a variant is decided by what is said to be taken
arms_decided : (r : List TypeInfo) (room : ℕ) → ChildDecided r room →
    (arms : List Arm) (b : List ℕ) →
    DecidedBy truncated (arms_at (value_at r room) arms) b
    (arms_taken (value_at r room) (value_taken r room) arms b) (arms_at (value_at r room) arms b)
arms_decided r room h arms [] = λ ne. absurd (ne refl)
arms_decided r room h arms (i ∷ b) = arm_decided r room h arms i b (arm_of arms i) refl

-- the fault of a value without parts is decided by the bytes that are taken
plain_decided : (p : Plain) (b : List ℕ) →
    DecidedBy truncated (leaf_at p) b (leaf_taken p b) (leaf_at p b)
plain_decided p b = let w = way_of p in
    finish_decided reasons.Truncated basic leaf _ (read_by w) (λ c. as_leaf_finish (read_by w c)) b
    (taken_by w b) (way_decided w b)

-- by every layout a refusal is decided by what is taken, if that of each part is
layout_decided : (r : List TypeInfo) (room : ℕ) → ChildDecided r room → (f : Layout) (b : List ℕ) →
    DecidedBy truncated (layout_at (value_at r room) f) b
    (layout_taken (value_at r room) (value_taken r room) f b) (layout_at (value_at r room) f b)
unfolding layout_at layout_taken
layout_decided r room h layout.unknown b = met_decided _ b no_finite_value b refl
layout_decided r room h layout.bit_sequence b = met_decided _ b bit_sequence b refl
layout_decided r room h layout.bad_compact b = met_decided _ b bad_compact b refl
layout_decided r room h (layout.plain p) b = plain_decided p b
layout_decided r room h (layout.fields ts) b =
    finish_decided truncated (λ e. e) (branch fields) _ (all_at (value_at r room) ts)
    (λ c. with_children_finish fields (all_at (value_at r room) ts c)) b
    (all_taken (value_at r room) (value_taken r room) ts b) (all_decided r room h ts b)
layout_decided r room h (layout.arms arms) b = arms_decided r room h arms b
layout_decided r room h (layout.array n t) b =
    finish_decided truncated (λ e. e) (branch list) _ (times_at (value_at r room) n t)
    (λ c. with_children_finish list (times_at (value_at r room) n t c)) b
    (times_taken (value_at r room) (value_taken r room) n t b) (times_decided r room h n t b)
layout_decided r room h (layout.sequence t) b = let child = value_at r room in
    chain_decided reasons.Truncated basic (λ c. elements_at child t (compact_at target.U32 c))
    (compact_at target.U32) (λ n c. with_children list (times_at child n t c))
    (λ n. times_taken child (value_taken r room) n.0 t n.1)
    (λ c. elements_chain child t (compact_at target.U32 c)) (compact_steady target.U32) b
    (compact_taken target.U32 b) (compact_decided target.U32 b)
    (λ n. finish_decided truncated (λ e. e) (branch list) _ (times_at child n.0 t)
    (λ c. with_children_finish list (times_at child n.0 t c)) n.1
    (times_taken child (value_taken r room) n.0 t n.1) (times_decided r room h n.0 t n.1))

-- a value that is refused for good is decided by what is said to be taken, at every depth
pub value_decided : (r : List TypeInfo) (room t : ℕ) (b : List ℕ) →
    DecidedBy truncated (value_at r room t) b (value_taken r room t b) (value_at r room t b)
unfolding value_at value_taken
value_decided r zero t b = met_decided _ b too_deep b refl
value_decided r (suc room) t b = go (λ u c. value_decided r room u c) (is_finite r t) refl where
  go : ChildDecided r room → (f : Bool) → is_finite r t ≡ f →
      DecidedBy truncated (λ c. cond (is_finite r t) (layout_at (value_at r room) (layout r t) c)
      (Err (no_finite_value, c))) b
      (cond f (layout_taken (value_at r room) (value_taken r room) (layout r t) b) 0)
      (cond f (layout_at (value_at r room) (layout r t) b) (Err (no_finite_value, b)))
  go h true e = rw e (layout_decided r room h (layout r t) b)
  go h false e = met_decided _ b no_finite_value b (rw e refl)

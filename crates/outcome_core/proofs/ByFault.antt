-- What is taken, by the fault alone.
use Rattle.std.proofs.Common.{◌≡◌, ℕ, zero, suc, ◌+◌, ◌^◌, ◌<◌, ◌≤◌, Bool, true, false, cond, List}
use Rattle.std.proofs.Common.{[]}
use Rattle.std.proofs.Common.{◌∷◌, ◌++◌, length, take, drop, Option, Some, None, Ok, Err, refl, ap}
use Rattle.std.proofs.Common.{◌∙◌, arith, inl, inr}
use Rattle.std.specs.Prelude.{◌≢◌, nat_lt, not}
use Rattle.std.specs.Str.{bytes_eq, is_utf8}
use Rattle.std.specs.Str.Lossy.{utf8_valid_len}
use Rattle.std.proofs.lemmas.Bool.{ltb-false}
use Rattle.scale_core.specs.Compact.{compact, target_bytes}
use Rattle.scale_core.specs.Number.{number, is_scalar}
use Rattle.scale_core.specs.Read.{Read, ◌>>=◌, compact_at, integer_at, mode_from}
use Rattle.scale_core.specs.Read.{mode_number, is_too_long, mode_len}
use Rattle.scale_core.specs.declared.compact.Target.{Target}
use Rattle.scale_core.specs.declared.compact.Target.TheVariants as target
use Rattle.scale_core.specs.declared.fault.Reason.{Reason}
use Rattle.scale_core.specs.declared.fault.Reason.TheVariants as reasons
use Rattle.scale_core.proofs.Results.{Takes, compact_takes}
use Rattle.scale_core.specs.Read.{place}
use Rattle.std.proofs.lemmas.Str.{utf8_valid_len_le}
use Rattle.std.proofs.lemmas.List.{length-append, length-drop, length-take}
use Rattle.types_core.specs.Bits.{bits_bytes, first_unused}
use Rattle.types_core.specs.declared.bits.BitForm.{BitForm}
use Rattle.types_core.proofs.BitWords.{unused_within}
use Rattle.types_core.specs.declared.definition.Arm.{Arm}
use Rattle.types_core.specs.declared.type_info.TypeInfo.{TypeInfo}
use Rattle.graph_core.specs.Types.{field_types}
use Rattle.widths_core.specs.Arms.{arm_of}
use Rattle.widths_core.specs.Classes.{is_finite}
use Rattle.widths_core.specs.Layouts.{Plain, Layout, layout}
use Rattle.widths_core.specs.Layouts as layout
use Rattle.widths_core.specs.declared.run_kind.RunKind.{RunKind}
use Rattle.widths_core.specs.declared.run_kind.RunKind.TheVariants as kind
use Rattle.grammar_core.specs.Tree.{Leaf, Branch, fields, arm, list, Trees, and}
use Rattle.grammar_core.specs.Ways.{Way, of_no_byte, of_width, of_compact, of_run, way_of, read_by}
use Rattle.grammar_core.specs.Ways.{bool_fault, leaf_of, leaf_by, judged_leaf}
use Rattle.grammar_core.specs.Reading.{value_at, layout_at, leaf_at, all_at, times_at}
use Rattle.grammar_core.specs.Reading.{fields_after_index, arms_at, as_leaf, with_children, Refusal}
use Rattle.grammar_core.specs.Reading.{basic, no_finite_value}
use Rattle.grammar_core.specs.Runs.{body_at, run_at, run_judged, run_leaf, run_length_at, words_at}
use Rattle.grammar_core.proofs.Runs.{length_takes}
use Rattle.grammar_core.proofs.Sound.{value_takes}
use Rattle.outcome_core.specs.Taken.{leaf_taken, taken_by, taken_after, compact_taken}
use Rattle.outcome_core.specs.Taken.{body_taken, words_taken, run_length_taken, run_taken}
use Rattle.outcome_core.specs.Taken.{all_taken, times_taken, arm_taken}
use Rattle.outcome_core.specs.Taken.{arms_taken, layout_taken, value_taken}
use Rattle.outcome_core.specs.Outcome.{IsTakenBefore, TakenByFault}
use Rattle.outcome_core.proofs.DecidingFronts.{chain, finish, bind_chain}
use Rattle.outcome_core.proofs.Shortest.{and_finish, counted_body, counted_finish, elements_chain}
use Rattle.outcome_core.proofs.Shortest.{judged_at}

-- the fault stands within b, and k is what it takes
abbrev pub ReportedWithin : {E X : Type 0} → (E → Refusal) → List ℕ → ℕ → Read E X → Type 0
ReportedWithin m b k (Ok x) = Unit {0}
ReportedWithin m b k (Err e) = (length e.1 ≤ length b) × IsTakenBefore (m e.0) e.1 (place b e.1) k

-- where bytes stand before a fault, its place and what is taken move by as many
moved : (reason : Refusal) (left : List ℕ) (c at k : ℕ) → IsTakenBefore reason left at k →
    IsTakenBefore reason left (c + at) (c + k)
moved (basic reasons.Truncated) left c at k h = h
moved (basic reasons.CompactTooLarge) left c at k (inl h) = inl (omega (arith, h))
moved (basic reasons.CompactTooLarge) left c at k (inr h) = inr (omega (arith, h))
moved _ left c at k h = omega (arith, h)

-- after c
reported_beyond : {E X : Type 0} (m : E → Refusal) (b c rest : List ℕ) (k : ℕ) (read : Read E X) →
    b ≡ c ++ rest → ReportedWithin m rest k read → ReportedWithin m b (length c + k) read
reported_beyond m b c rest k (Ok x) eq h = tt
reported_beyond m b c rest k (Err e) eq h =
    let len : length b ≡ length c + length rest = ap length eq ∙ length-append c rest in
    let at : length c + place rest e.1 ≡ place b e.1 = omega (arith, len, h.0) in
    (omega (arith, len, h.0), rw (← at) (moved (m e.0) e.1 (length c) (place rest e.1) k h.1))

-- a fault reports what is taken also where the reader's result is only made into something else
finish_reported : {E F X Y : Type 0} (m : E → F) (n : F → Refusal) (make : X →
    Y) (b : List ℕ) (k : ℕ)
    (read : Read E X) → ReportedWithin (λ e. n (m e)) b k read →
    ReportedWithin n b k (finish m make read)
finish_reported m n make b k (Ok x) h = tt
finish_reported m n make b k (Err e) h = h

-- of two parts, one after the other, the fault of whichever is refused reports what is taken
chain_reported : {E F X Y : Type 0} (m : E → F) (n : F → Refusal) (P : X → List ℕ → Type 0)
    (h : X → List ℕ → Read F Y) (next : X × List ℕ → ℕ) (b : List ℕ) (own : ℕ) (read : Read E X) →
    Takes P b read → ReportedWithin (λ e. n (m e)) b own read →
    ((x : X × List ℕ) → ReportedWithin n x.1 (next x) (h x.0 x.1)) →
    ReportedWithin n b (taken_after b read own next) (chain m h read)
chain_reported m n P h next b own (Err e) takes first rest = first
chain_reported m n P h next b own (Ok x) takes first rest =
    let len : length takes.0 ≡ place b x.1 =
    omega (arith, ap length takes.1, length-append takes.0 x.1) in
    rw (← len) (reported_beyond n b takes.0 x.1 (next x) (h x.0 x.1) takes.1 (rest x))

-- ---- compacts and runs

-- the place before the first byte is 0
whole : (b : List ℕ) → place b b ≡ 0
whole b = omega arith

-- a compact integer's fault reports what is taken, whichever target bounds it
integer_reported : (m : Target) (b : List ℕ) →
    ReportedWithin basic b (compact_taken m b) (integer_at m b)
integer_reported m [] = (omega arith, refl)
integer_reported m (first ∷ tail) =
    go (is_too_long m first) (nat_lt (length (first ∷ tail)) (mode_len first)) where
      judged : (a b : Bool) (x : List ℕ × List ℕ) →
          ReportedWithin basic (first ∷ tail) (mode_len first)
          (cond a (Err (reasons.CompactNotShortest, first ∷ tail))
          (cond b (Ok (mode_number x.0, x.1)) (Err (reasons.CompactTooLarge, first ∷ tail))))
      judged true b x = (omega arith, omega arith)
      judged false true x = tt
      judged false false x = (omega arith, inr (omega arith))

      go : (t short : Bool) → ReportedWithin basic (first ∷ tail) (cond t 1 (mode_len first))
          (cond t (Err (reasons.CompactTooLarge, first ∷ tail))
          (mode_from m (first ∷ tail)
          (cond short (Err (reasons.Truncated, []))
          (Ok (take (mode_len first) (first ∷ tail), drop (mode_len first) (first ∷ tail))))))
      go true short = (omega arith, inl (omega arith))
      go false true = (omega arith, refl)
      go false false = let form = take (mode_len first) (first ∷ tail) in
          judged (not (bytes_eq (compact (mode_number form)) form))
          (nat_lt (mode_number form) (256 ^ target_bytes m))
          (form, drop (mode_len first) (first ∷ tail))

-- the same where the target may be nothing, and there is no byte
pub compact_reported : (m : Target) (b : List ℕ) →
    ReportedWithin basic b (compact_taken m b) (compact_at m b)
unfolding compact_at
compact_reported target.Unit b = tt
compact_reported m b = integer_reported m b

-- the fault of a run's length reports what is taken
run_length_reported : (k : RunKind) (b : List ℕ) →
    ReportedWithin basic b (run_length_taken k b) (run_length_at k b)
run_length_reported kind.Text b = compact_reported target.U32 b
run_length_reported kind.Bytes b = compact_reported target.U32 b
run_length_reported (kind.ByteArray n) b = tt
run_length_reported (kind.Bits f) b = compact_reported target.U32 b

-- a run whose bytes are all there and are refused is taken to its end
judged_reported : (k : RunKind) (n : ℕ) (b : List ℕ) → n ≤ length b →
    ReportedWithin basic b n (run_judged k b (take n b, drop n b))
judged_reported kind.Text n b le = valid (is_utf8 (take n b)) where
  valid : (t : Bool) →
      ReportedWithin basic b n (cond t (Ok (take n b, drop n b))
      (Err (reasons.BadUtf8, drop (utf8_valid_len (take n b)) b)))
  valid true = tt
  valid false =
      let front : utf8_valid_len (take n b) ≤ n =
      omega (arith, utf8_valid_len_le (take n b), length-take n b) in
      let rest = length-drop (utf8_valid_len (take n b)) b in
      (omega (arith, rest), omega (arith, rest, front))
judged_reported _ n b le = tt

-- the same whether or not the run's bytes are all there
all_reported_by : (k : RunKind) (n : ℕ) (b : List ℕ) →
    ReportedWithin basic b n (judged_at k n b)
all_reported_by k n b = go (nat_lt (length b) n) refl where
  go : (short : Bool) → nat_lt (length b) n ≡ short →
      ReportedWithin basic b n
      (cond short (Err (reasons.Truncated, [])) (Ok (take n b, drop n b)) >>=
      λ s. run_judged k b s)
  go true e = (omega arith, refl)
  go false e = judged_reported k n b (ltb-false _ _ e)

-- words are taken up to the first byte with an unused bit that is 1
words_reported : (f : BitForm) (n : ℕ) (b : List ℕ) →
    ReportedWithin basic b (body_taken (kind.Bits f) n b) (body_at (kind.Bits f) n b)
unfolding body_at
words_reported f n b = go (first_unused f n 0 (take (bits_bytes f n) b)) refl where
  short : (t : Bool) → ReportedWithin basic b (bits_bytes f n)
      (cond t (Err (reasons.Truncated, [])) (Ok (take (bits_bytes f n) b, drop (bits_bytes f n) b)))
  short true = (omega arith, refl)
  short false = tt

  go : (o : Option ℕ) → first_unused f n 0 (take (bits_bytes f n) b) ≡ o →
      ReportedWithin basic b (words_taken o (bits_bytes f n)) (words_at o (bits_bytes f n) b)
  go (Some i) e =
      let within : i < length (take (bits_bytes f n) b) =
      unused_within f n 0 (take (bits_bytes f n) b) i e in
      let there : i < length b = omega (arith, within, length-take (bits_bytes f n) b) in
      (omega (arith, length-drop i b), omega (arith, length-drop i b, there))
  go None e = short (nat_lt (length b) (bits_bytes f n))

-- the fault of a run's bytes reports what is taken
body_reported : (k : RunKind) (n : ℕ) (b : List ℕ) →
    ReportedWithin basic b (body_taken k n b) (body_at k n b)
unfolding body_at
body_reported kind.Text n b = all_reported_by kind.Text n b
body_reported kind.Bytes n b = all_reported_by kind.Bytes n b
body_reported (kind.ByteArray m) n b = all_reported_by (kind.ByteArray m) n b
body_reported (kind.Bits f) n b = words_reported f n b

-- a run's fault, in its length or its bytes, reports what is taken
run_reported : (k : RunKind) (b : List ℕ) → ReportedWithin basic b (run_taken k b) (run_at k b)
unfolding run_at
run_reported k b = rw (bind_chain (counted_body k) (run_length_at k b))
    (chain_reported (λ e. e) basic _ (counted_body k) (λ n. body_taken k n.0 n.1) b
    (run_length_taken k b) (run_length_at k b) (length_takes k b) (run_length_reported k b)
    (λ n. rw (counted_finish n.0 (body_at k n.0 n.1))
    (finish_reported (λ e. e) basic (λ s. (n.0, s)) n.1 (body_taken k n.0 n.1) (body_at k n.0 n.1)
    (body_reported k n.0 n.1))))

-- bytes are refused for a reason by which all of them are taken, and which is not that bytes are
-- missing
abbrev pub IsJudged : ℕ → Option Reason → Type 0
IsJudged k None = Unit {0}
IsJudged k (Some e) = (e ≢ reasons.Truncated) × ((left : List ℕ) → IsTakenBefore (basic e) left 0 k)

-- the same of what is read in this way
abbrev pub Judges : Way → List ℕ → Type 0
Judges (of_width k make fault) b = IsJudged k (fault b)
Judges _ b = Unit {0}

-- a boolean is refused by its one byte
bool_judges : (b : List ℕ) → IsJudged 1 (bool_fault b)
bool_judges (zero ∷ []) = tt
bool_judges (suc zero ∷ []) = tt
bool_judges _ = (λ e. absurd cc, λ left. refl)

-- a character is refused by its four bytes, and no other kind by bytes that are there
pub judges : (p : Plain) (b : List ℕ) → Judges (way_of p) b
judges layout.bool b = bool_judges b
judges layout.char b = by (is_scalar (number b)) where
  by : (t : Bool) → IsJudged 4 (cond t None (Some reasons.BadChar))
  by true = tt
  by false = (λ e. absurd cc, λ left. refl)
judges _ b = tt

-- the fault of so many bytes reports what is taken, which is all of them
width_reported : (k : ℕ) (make : List ℕ → Leaf) (fault : List ℕ → Option Reason) (b : List ℕ) →
    IsJudged k (fault (take k b)) →
    ReportedWithin basic b k (read_by (of_width k make fault) b)
width_reported k make fault b h = go (nat_lt (length b) k) where
  judged : (f : Option Reason) → IsJudged k f →
      ReportedWithin basic b k (judged_leaf b (make (take k b)) (drop k b) f)
  judged None j = tt
  judged (Some e) j = (omega arith, rw (whole b) (j.1 b))

  go : (short : Bool) → ReportedWithin basic b k
      (leaf_by b make fault (cond short (Err (reasons.Truncated, [])) (Ok (take k b, drop k b))))
  go true = (omega arith, refl)
  go false = judged (fault (take k b)) h

-- making a leaf of what was read leaves what its fault takes
leaf_of_reported : {X : Type 0} (make : X → Leaf) (b : List ℕ) (k : ℕ) (read : Read Reason X) →
    ReportedWithin basic b k read → ReportedWithin basic b k (leaf_of make read)
leaf_of_reported make b k (Ok x) h = tt
leaf_of_reported make b k (Err e) h = h

-- a leaf's fault reports what is taken, whatever its way
way_reported : (w : Way) → ((b : List ℕ) → Judges w b) → (b : List ℕ) →
    ReportedWithin basic b (taken_by w b) (read_by w b)
way_reported (of_no_byte l) h b = tt
way_reported (of_width k make fault) h b = width_reported k make fault b (h (take k b))
way_reported (of_compact m make) h b =
    leaf_of_reported make b _ (compact_at m b) (compact_reported m b)
way_reported (of_run k) h b = leaf_of_reported (run_leaf k) b _ (run_at k b) (run_reported k b)

-- ---- values

abbrev ChildReported : List TypeInfo → ℕ → Type 0
ChildReported r room = (t : ℕ) (b : List ℕ) →
    ReportedWithin (λ e. e) b (value_taken r room t b) (value_at r room t b)

-- the fault of parts of these types reports what is taken, if that of each part does
all_reported : (r : List TypeInfo) (room : ℕ) → ChildReported r room → (ts : List ℕ) (b : List ℕ) →
    ReportedWithin (λ e. e) b (all_taken (value_at r room) (value_taken r room) ts b)
    (all_at (value_at r room) ts b)
all_reported r room h [] b = tt
all_reported r room h (t ∷ ts) b = let child = value_at r room in
    rw (bind_chain (λ v c. all_at child ts c >>= λ others. Ok (and v others.0, others.1))
    (child t b))
    (chain_reported (λ e. e) (λ e. e) _
    (λ v c. all_at child ts c >>= λ others. Ok (and v others.0, others.1))
    (λ x. all_taken child (value_taken r room) ts x.1) b (value_taken r room t b) (child t b)
    (value_takes r room t b) (h t b)
    (λ x. rw (and_finish x.0 (all_at child ts x.1))
    (finish_reported (λ e. e) (λ e. e) (and x.0) x.1 (all_taken child (value_taken r room) ts x.1)
    (all_at child ts x.1) (all_reported r room h ts x.1))))

-- the same for parts of one type
times_reported : (r : List TypeInfo) (room : ℕ) → ChildReported r room → (n t : ℕ) (b : List ℕ) →
    ReportedWithin (λ e. e) b (times_taken (value_at r room) (value_taken r room) n t b)
    (times_at (value_at r room) n t b)
times_reported r room h zero t b = tt
times_reported r room h (suc n) t b = let child = value_at r room in
    rw (bind_chain (λ v c. times_at child n t c >>= λ others. Ok (and v others.0, others.1))
    (child t b))
    (chain_reported (λ e. e) (λ e. e) _
    (λ v c. times_at child n t c >>= λ others. Ok (and v others.0, others.1))
    (λ x. times_taken child (value_taken r room) n t x.1) b (value_taken r room t b) (child t b)
    (value_takes r room t b) (h t b)
    (λ x. rw (and_finish x.0 (times_at child n t x.1))
    (finish_reported (λ e. e) (λ e. e) (and x.0) x.1
    (times_taken child (value_taken r room) n t x.1) (times_at child n t x.1)
    (times_reported r room h n t x.1))))

-- putting a node over parts leaves what their fault takes
parts_reported : (kind : Branch) (b : List ℕ) (k : ℕ) (read : Read Refusal Trees) →
    ReportedWithin (λ e. e) b k read → ReportedWithin (λ e. e) b k (with_children kind read)
parts_reported kind b k (Ok x) h = tt
parts_reported kind b k (Err e) h = h

-- a leaf as a value leaves what its fault takes
as_leaf_reported : (b : List ℕ) (k : ℕ) (read : Read Reason Leaf) → ReportedWithin basic b k read →
    ReportedWithin (λ e. e) b k (as_leaf read)
as_leaf_reported b k (Ok x) h = tt
as_leaf_reported b k (Err e) h = h

-- the fault of an arm takes its index and what its fields take; an unknown index is taken alone
arm_reported : (r : List TypeInfo) (room : ℕ) → ChildReported r room →
    (i : ℕ) (b : List ℕ) (found : Option (ℕ × Arm)) →
    ReportedWithin (λ e. e) (i ∷ b) (suc (arm_taken (value_at r room) (value_taken r room) found b))
    (fields_after_index (value_at r room) (i ∷ b) found b)
arm_reported r room h i b None = (omega arith, omega arith)
arm_reported r room h i b (Some a) =
    let ts = field_types a.1.fields in
    let k = all_taken (value_at r room) (value_taken r room) ts b in
    let one : 1 + k ≡ suc k = omega arith in
    rw one at (reported_beyond (λ e. e) (i ∷ b) (i ∷ []) b k _ refl
    (parts_reported (arm a.0) b k (all_at (value_at r room) ts b) (all_reported r room h ts b)))

-- the fault of a variant reports what is taken, also where there is no index
arms_reported : (r : List TypeInfo) (room : ℕ) → ChildReported r room →
    (arms : List Arm) (b : List ℕ) →
    ReportedWithin (λ e. e) b (arms_taken (value_at r room) (value_taken r room) arms b)
    (arms_at (value_at r room) arms b)
arms_reported r room h arms [] = (omega arith, refl)
arms_reported r room h arms (i ∷ b) = arm_reported r room h i b (arm_of arms i)

-- the fault of a value without parts is reported by the bytes that are taken
pub plain_reported : (p : Plain) (b : List ℕ) →
    ReportedWithin (λ e. e) b (leaf_taken p b) (leaf_at p b)
plain_reported p b =
    as_leaf_reported b _ (read_by (way_of p) b) (way_reported (way_of p) (judges p) b)

-- by every layout a fault reports what is taken, if that of each part does
layout_reported : (r : List TypeInfo) (room : ℕ) → ChildReported r room →
    (f : Layout) (b : List ℕ) →
    ReportedWithin (λ e. e) b (layout_taken (value_at r room) (value_taken r room) f b)
    (layout_at (value_at r room) f b)
unfolding layout_at layout_taken
layout_reported r room h layout.unknown b = (omega arith, omega arith)
layout_reported r room h layout.bit_sequence b = (omega arith, omega arith)
layout_reported r room h layout.bad_compact b = (omega arith, omega arith)
layout_reported r room h (layout.plain p) b = plain_reported p b
layout_reported r room h (layout.fields ts) b =
    parts_reported fields b _ (all_at (value_at r room) ts b) (all_reported r room h ts b)
layout_reported r room h (layout.arms arms) b = arms_reported r room h arms b
layout_reported r room h (layout.array n t) b =
    parts_reported list b _ (times_at (value_at r room) n t b) (times_reported r room h n t b)
layout_reported r room h (layout.sequence t) b = let child = value_at r room in
    rw (elements_chain child t (compact_at target.U32 b))
    (chain_reported basic (λ e. e) _ (λ n c. with_children list (times_at child n t c))
    (λ n. times_taken child (value_taken r room) n.0 t n.1) b (compact_taken target.U32 b)
    (compact_at target.U32 b) (compact_takes target.U32 b) (compact_reported target.U32 b)
    (λ n. parts_reported list n.1 _ (times_at child n.0 t n.1) (times_reported r room h n.0 t n.1)))

-- a value's fault reports what is taken, at every depth
value_reported : (r : List TypeInfo) (room t : ℕ) (b : List ℕ) →
    ReportedWithin (λ e. e) b (value_taken r room t b) (value_at r room t b)
unfolding value_at value_taken
value_reported r zero t b = (omega arith, omega arith)
value_reported r (suc room) t b = go (λ u c. value_reported r room u c) (is_finite r t) where
  go : ChildReported r room → (f : Bool) →
      ReportedWithin (λ e. e) b
      (cond f (layout_taken (value_at r room) (value_taken r room) (layout r t) b)
      0) (cond f (layout_at (value_at r room) (layout r t) b) (Err (no_finite_value, b)))
  go h true = layout_reported r room h (layout r t) b
  go h false = (omega arith, omega arith)

-- what is taken of a refused value follows from its reason and its place
pub taken_by_fault : TakenByFault
taken_by_fault r room t b reason left e = (rw e at (value_reported r room t b)).1

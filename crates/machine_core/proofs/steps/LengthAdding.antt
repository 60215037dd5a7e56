-- A list, a count, an arm, and a run's length, by their own bytes.
use Rattle.std.proofs.Common.{◌≡◌, ℕ, true, false, List, [], ◌∷◌, length, Option, Some, None}
use Rattle.std.proofs.Common.{Result, Ok, Err, refl, sym, ap, subst, ◌∙◌, arith}
use Rattle.std.specs.Prelude.{◌≢◌, OnErr, OnOk, is_some, slice_index_or}
use Rattle.scale_core.specs.Read.{Read, place, compact_at}
use Rattle.scale_core.specs.declared.compact.Target.TheVariants as target
use Rattle.scale_core.specs.declared.fault.Reason.{Reason}
use Rattle.scale_core.specs.declared.fault.Reason.TheVariants as scale
use Rattle.types_core.specs.declared.definition.Arm.{Arm}
use Rattle.widths_core.specs.Arms.{arm_of}
use Rattle.graph_core.specs.Types.{field_types}
use Rattle.widths_core.specs.Layouts.{Layout}
use Rattle.widths_core.specs.Layouts as layout
use Rattle.widths_core.specs.declared.run_kind.RunKind.{RunKind}
use Rattle.widths_core.specs.declared.run_kind.RunKind.TheVariants as kind
use Rattle.grammar_core.specs.Runs.{run_at, run_form, run_length_at}
use Rattle.grammar_core.specs.Tree as tree
use Rattle.value_core.specs.Built.{Built, next_layout, arm_in, with_arm, with_found}
use Rattle.grammar_core.specs.Cells.{fields_part, list_part}
use Rattle.grammar_core.specs.Parts.{Part, each, how_many_left}
use Rattle.grammar_core.specs.Preorder.{Head}
use Rattle.grammar_core.specs.Preorder as head
use Rattle.grammar_core.specs.Reading.{basic, layout_at, no_such_variant}
use Rattle.value_core.specs.Walked.{next_of}
use Rattle.grammar_core.specs.declared.form.Form.TheVariants as form
use Rattle.grammar_core.specs.declared.form.Next.TheVariants as next
use Rattle.form_core.specs.Needs.{AreOwn, HasBytes}
use Rattle.machine_core.specs.NodeAdds.{AddsBytes, IsAdded, IsRefused, IsSpelled}
use Rattle.machine_core.specs.NodeAdds.{with_own}
use Rattle.machine_core.specs.Reasons.{reason_of}
use Rattle.outcome_core.specs.Reported.{length_own, own_at}
use Rattle.machine_core.proofs.steps.NodeAdding.{all_read, next_has, next_run}
use Rattle.machine_core.proofs.steps.Whole.{IsDefinite, settled_at, u32_is, basic_whole}

-- ---- lists and counts

-- a sequence whose length is read opens so many elements
list_by : (lay : Layout) (u : ℕ) (own : List ℕ) (n : ℕ) → lay ≡ layout.sequence u →
    ((rest : List ℕ) × (compact_at target.U32 own ≡ Ok (n, rest))) → (rest : List ℕ)
    × (own_at lay own ≡ Ok ((head.branch tree.list n, Some (list_part lay n)), rest))
unfolding own_at
list_by lay u own n e h = rw e (h.0, ap (length_own u) h.1)

-- the same where a sequence is next
pub list_read : (b : Built) (own : List ℕ) (n : ℕ) → next_of b.walk ≡ next.Wants form.Sequence →
    (rest : List ℕ) × (compact_at target.U32 own ≡ Ok (n, rest)) → (rest : List ℕ)
    × (own_at (next_layout b) own
    ≡ Ok ((head.branch tree.list n, Some (list_part (next_layout b) n)), rest))
list_read b own n h k = let s = next_has b form.Sequence h in
    list_by (next_layout b) s.0 own n s.1 k

-- a sequence is refused as its length is, at the same place
list_refused_by : (lay : Layout) (u : ℕ) (own : List ℕ) (e : Reason) (at : ℕ) →
    lay ≡ layout.sequence u →
    ((left : List ℕ) × (compact_at target.U32 own ≡ Err (e, left)) × (at ≡ place own left)) →
    (left : List ℕ) × (own_at lay own ≡ Err (basic e, left)) × (at ≡ place own left)
unfolding own_at
list_refused_by lay u own e at is h = rw is (h.0, ap (length_own u) h.1, h.2)

-- the same where a sequence is next
pub list_refused : (b : Built) (own : List ℕ) (e : Reason) (at : ℕ) →
    next_of b.walk ≡ next.Wants form.Sequence → (left : List ℕ)
    × (compact_at target.U32 own ≡ Err (e, left)) × (at ≡ place own left) → (left : List ℕ)
    × (own_at (next_layout b) own ≡ Err (basic e, left)) × (at ≡ place own left)
list_refused b own e at h k = let s = next_has b form.Sequence h in
    list_refused_by (next_layout b) s.0 own e at s.1 k

-- a sequence that is next is read of just its length's bytes, and none is left
pub list_all : (b : Built) (own : List ℕ) (n : ℕ) → next_of b.walk ≡ next.Wants form.Sequence →
    AreOwn form.Sequence own → (rest : List ℕ) × (compact_at target.U32 own ≡ Ok (n, rest)) →
    own_at (next_layout b) own
    ≡ Ok ((head.branch tree.list n, Some (list_part (next_layout b) n)), [])
list_all b own n h a k =
    all_read form.Sequence b own (head.branch tree.list n, Some (list_part (next_layout b) n)) h tt
    tt a (list_read b own n h k)

-- ---- arms

-- the own bytes of an arm are its index alone
one_byte : (own : List ℕ) → AreOwn form.Arm own → own ≡ slice_index_or own 0 0 ∷ []
one_byte [] h = let no = h.2 in absurd cc
one_byte (x ∷ []) h = refl
one_byte (x ∷ y ∷ own) h = absurd (omega (arith, h.3))

-- an arm of the index is there, and its node is what the byte spells
arm_spells : (b : Built) (i : ℕ) (found : Option (ℕ × Arm)) →
    next_of b.walk ≡ next.Wants form.Arm → arm_in (next_layout b) i ≡ found →
    is_some found ≡ true → (a : ℕ × Arm) × (found ≡ Some a)
    × (own_at (next_layout b) (i ∷ [])
    ≡ Ok (
      (
        head.branch (tree.arm a.0) (length (field_types a.1.fields)),
        Some (each (field_types a.1.fields)),
      ),
      [],
    ))
unfolding own_at
arm_spells b i None h e there = absurd cc
arm_spells b i (Some a) h e there =
    let s = next_has b form.Arm h in
    let is : arm_of s.0 i ≡ Some a = sym (ap (λ (f : Layout). arm_in f i) s.1) ∙ e in
    (a, refl, rw (s.1, is) refl)

-- an index that an arm has adds the arm by this one byte
pub arm_added : (b new : Built) (own : List ℕ) → next_of b.walk ≡ next.Wants form.Arm →
    AreOwn form.Arm own → is_some (arm_in (next_layout b) (slice_index_or own 0 0)) ≡ true →
    new ≡ with_arm b (slice_index_or own 0 0) → IsAdded b new own
arm_added b new own h a there is =
    let i = slice_index_or own 0 0 in
    let s = arm_spells b i (arm_in (next_layout b) i) h refl there in
    subst (IsAdded b new) (sym (one_byte own a))
    ((_, _), s.2, is ∙ ap (with_found b) s.1)

-- an index that an arm has spells the next node
pub arm_spelled : (b : Built) (own : List ℕ) → next_of b.walk ≡ next.Wants form.Arm →
    AreOwn form.Arm own → is_some (arm_in (next_layout b) (slice_index_or own 0 0)) ≡ true →
    IsSpelled b own
arm_spelled b own h a there =
    let i = slice_index_or own 0 0 in
    let s = arm_spells b i (arm_in (next_layout b) i) h refl there in
    subst (IsSpelled b) (sym (one_byte own a)) (_, s.2)

-- an index that no arm has is refused at its place
arm_missing : (b : Built) (i : ℕ) (found : Option (ℕ × Arm)) →
    next_of b.walk ≡ next.Wants form.Arm → arm_in (next_layout b) i ≡ found →
    is_some found ≡ false → IsRefused b (i ∷ []) (reason_of no_such_variant) 0
unfolding own_at
arm_missing b i (Some a) h e none = absurd cc
arm_missing b i None h e none =
    let s = next_has b form.Arm h in
    let is : arm_of s.0 i ≡ None = sym (ap (λ (f : Layout). arm_in f i) s.1) ∙ e in
    (no_such_variant, i ∷ [], rw (s.1, is) refl, refl, refl, omega arith)

-- the same where the index is the own byte of the next node
pub arm_refused : (b : Built) (own : List ℕ) → next_of b.walk ≡ next.Wants form.Arm →
    AreOwn form.Arm own → is_some (arm_in (next_layout b) (slice_index_or own 0 0)) ≡ false →
    IsRefused b own (reason_of no_such_variant) 0
arm_refused b own h a none =
    let i = slice_index_or own 0 0 in
    subst (λ (o : List ℕ). IsRefused b o (reason_of no_such_variant) 0) (sym (one_byte own a))
    (arm_missing b i (arm_in (next_layout b) i) h refl none)

-- ---- the length of a run

-- just the bytes of a run's length leave none of them, or are refused for good
length_settled : (k : RunKind) (own : List ℕ) → HasBytes (run_form k) → AreOwn (run_form k) own →
    IsDefinite (run_length_at k own)
length_settled kind.Text own s a = settled_at target.U32 own u32_is a.0 a.1 a.2 a.3
length_settled kind.Bytes own s a = settled_at target.U32 own u32_is a.0 a.1 a.2 a.3
length_settled (kind.ByteArray n) own s a = absurd s
length_settled (kind.Bits f) own s a = settled_at target.U32 own u32_is a.0 a.1 a.2 a.3

-- what is read of just its own bytes leaves none of them
settled_ok : (read : Read Reason ℕ) (n : ℕ) (rest : List ℕ) → IsDefinite read →
    read ≡ Ok (n, rest) →
    read ≡ Ok (n, [])
settled_ok read n rest h e = let nil : rest ≡ [] = (rw e at h) in e
    ∙ ap (λ (r : List ℕ). Ok (n, r)) nil

-- what is refused of just its own bytes is not refused as cut
settled_err : (read : Read Reason ℕ) (e : Reason) (left : List ℕ) → IsDefinite read →
    read ≡ Err (e, left) → e ≢ scale.Truncated
settled_err read e left h is = (rw is at h)

-- a run's length that is read of just its own bytes leaves none of them
pub length_read : (k : RunKind) (own : List ℕ) (n : ℕ) → HasBytes (run_form k) →
    AreOwn (run_form k) own → (rest : List ℕ) × (run_length_at k own ≡ Ok (n, rest)) →
    run_length_at k own ≡ Ok (n, [])
length_read k own n s a h =
    settled_ok (run_length_at k own) n h.0 (length_settled k own s a) h.1

-- a run is refused as its length is, with the same bytes left
pub run_cut : (k : RunKind) (own : List ℕ) (e : Reason) (left : List ℕ) →
    run_length_at k own ≡ Err (e, left) →
    own_at (layout.plain (layout.run k)) own ≡ Err (basic e, left)
unfolding own_at layout_at run_at
run_cut k own e left h = rw h refl

-- a run that is next is refused as its length is, by just the length's bytes
pub length_refused : (k : RunKind) (b : Built) (own : List ℕ) (e : Reason) (at : ℕ) →
    next_of b.walk ≡ next.Wants (run_form k) → HasBytes (run_form k) → AreOwn (run_form k) own →
    (left : List ℕ) × (run_length_at k own ≡ Err (e, left)) × (at ≡ place own left) →
    IsRefused b own (reason_of (basic e)) at
length_refused k b own e at h s a r =
    let cut = ap (λ (f : Layout). own_at f own) (next_run b k h) ∙ run_cut k own e r.0 r.1 in (
      basic e,
      r.0,
      cut,
      basic_whole e (settled_err (run_length_at k own) e r.0 (length_settled k own s a) r.1),
      refl,
      r.2,
    )

-- ---- nodes without bytes of their own

-- a node that takes no bytes is read of none, and opens nothing
empty_by : (lay : Layout) → lay ≡ (layout.plain layout.empty) →
    own_at lay [] ≡ Ok (((head.leaf tree.unit), None), [])
unfolding own_at layout_at
empty_by lay e = rw e refl

-- a node of fields is read of no bytes, and opens as many parts as there are types
fields_by : (lay : Layout) (ts : List ℕ) → lay ≡ layout.fields ts →
    own_at lay [] ≡ Ok (
      (
        head.branch tree.fields (how_many_left (fields_part lay)),
        Some (fields_part lay),
      ),
      [],
    )
unfolding own_at
fields_by lay ts e = rw e refl

-- an array is read of no bytes, and opens so many elements
array_by : (lay : Layout) (n u : ℕ) → lay ≡ layout.array n u →
    own_at lay [] ≡ Ok ((head.branch tree.list n, Some (list_part lay n)), [])
unfolding own_at
array_by lay n u e = rw e refl

-- the same of a node without bytes that is next
pub empty_read : (b : Built) → next_of b.walk ≡ next.Wants form.Empty →
    own_at (next_layout b) [] ≡ Ok (((head.leaf tree.unit), None), [])
empty_read b h = empty_by (next_layout b) (next_has b form.Empty h)

-- the same of a node of fields that is next
pub fields_read : (b : Built) → next_of b.walk ≡ next.Wants form.Fields →
    own_at (next_layout b) []
    ≡ Ok (
      (
        head.branch tree.fields (how_many_left (fields_part (next_layout b))),
        Some (fields_part (next_layout b)),
      ),
      [],
    )
fields_read b h = let f = next_has b form.Fields h in fields_by (next_layout b) f.0 f.1

-- the same of an array that is next
pub array_read : (b : Built) (n : ℕ) → next_of b.walk ≡ next.Wants (form.Array n) →
    own_at (next_layout b) []
    ≡ Ok ((head.branch tree.list n, Some (list_part (next_layout b) n)), [])
array_read b n h = let f = next_has b (form.Array n) h in array_by (next_layout b) n f.0 f.1

-- a node is added by these bytes, or an allocation failed for it
pub bytes_added : {E : Type 0} (b new : Built) (own : List ℕ) (x : Head × Option Part)
    (added : Result (Unit {0}) E) → own_at (next_layout b) own ≡ Ok (x, []) →
    OnOk added (new ≡ with_own b x) → OnErr added (new ≡ b) → AddsBytes b new own added
bytes_added b new own x (Ok u) r ok err = (x, r, ok)
bytes_added b new own x (Err e) r ok err = ((x, r), err)

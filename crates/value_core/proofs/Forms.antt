-- What the next form says of the layout of the next type, and what a reason to stop says of it.
use Rattle.std.proofs.Common.{◌≡◌, ℕ, ◌+◌, ◌<◌, ◌≤◌, ◌⊎◌, inl, inr, Bool, true, false, List, length}
use Rattle.std.proofs.Common.{Option, Some, None, refl, subst, arith}
use Rattle.std.specs.Prelude.{nat_lt, if◌then◌else◌}
use Rattle.scale_core.specs.declared.compact.Target.{Target}
use Rattle.types_core.specs.declared.bits.BitForm.{BitForm}
use Rattle.types_core.specs.declared.definition.Arm.{Arm}
use Rattle.types_core.specs.declared.primitive.Primitive.{Primitive}
use Rattle.types_core.specs.declared.definition.TypeDef.{TypeDef}
use Rattle.types_core.specs.declared.definition.TypeDef.TheVariants as Def
use Rattle.types_core.specs.declared.type_info.TypeInfo.{TypeInfo}
use Rattle.graph_core.specs.Types.{shape, ids, field_types}
use Rattle.widths_core.specs.Targets.{target_of}
use Rattle.widths_core.specs.Classes.{is_finite, is_empty}
use Rattle.widths_core.specs.Layouts.{Layout, layout, layout_of_shape, is_byte, sized_layout}
use Rattle.widths_core.specs.Layouts.{bits_layout, primitive_layout, sequence_layout}
use Rattle.widths_core.specs.Layouts.{compact_layout}
use Rattle.widths_core.specs.Layouts as layout
use Rattle.widths_core.specs.Layouts.{array_layout as array_layout_of}
use Rattle.grammar_core.specs.declared.form.Form.{Form}
use Rattle.grammar_core.specs.declared.form.Form.TheVariants as form
use Rattle.grammar_core.specs.declared.form.StopReason.{StopReason}
use Rattle.grammar_core.specs.declared.form.StopReason.TheVariants as stop
use Rattle.grammar_core.specs.declared.form.Next.TheVariants as next
use Rattle.grammar_core.specs.Forms.{form_of, form_of_shape, array_form, sequence_form}
use Rattle.grammar_core.specs.Forms.{bits_form, compact_form, next_at}
use Rattle.grammar_core.specs.Runs.{run_form}
use Rattle.grammar_core.proofs.Classes.{shapeless}
use Rattle.widths_core.specs.declared.run_kind.RunKind.{RunKind}
use Rattle.widths_core.specs.declared.run_kind.RunKind.TheVariants as kind
use Rattle.types_core.specs.declared.primitive.Primitive.TheVariants as P
use Rattle.value_core.specs.Walked.{Walked, next_type, next_of, next_from}

-- ---- forms

-- the layouts that have this form
abbrev pub HasForm : Form → Layout → Type 0
HasForm form.Empty f = f ≡ (layout.plain layout.empty)
HasForm (form.Primitive p) f = f ≡ primitive_layout p
HasForm (form.Compact m) f = f ≡ layout.plain (layout.compact m)
HasForm form.Fields f = (ts : List ℕ) × (f ≡ layout.fields ts)
HasForm form.Arm f = (arms : List Arm) × (f ≡ layout.arms arms)
HasForm (form.Array n) f = (u : ℕ) × (f ≡ layout.array n u)
HasForm (form.ByteArray n) f = f ≡ layout.plain (layout.run (kind.ByteArray n))
HasForm form.Bytes f = f ≡ layout.plain (layout.run kind.Bytes)
HasForm form.Sequence f = (u : ℕ) × (f ≡ layout.sequence u)
HasForm form.Count f = f ≡ (layout.plain layout.counted)
HasForm (form.Bits b) f = f ≡ layout.plain (layout.run (kind.Bits b))

-- the form that is wanted is this one
has_form : (wanted is : Form) (f : Layout) → next.Wants is ≡ next.Wants wanted → HasForm is f →
    HasForm wanted f
has_form wanted is f e h = let same : is ≡ wanted = cc in subst (λ (x : Form). HasForm x f) same h

-- the form of a sequence is that of its layout
sequence_has : (wanted : Form) (u : ℕ) (empty byte : Bool) →
    sequence_form empty byte ≡ next.Wants wanted → HasForm wanted (sequence_layout u empty byte)
sequence_has wanted u true byte e = has_form wanted form.Count (layout.plain layout.counted) e refl
sequence_has wanted u false true e =
    has_form wanted form.Bytes (layout.plain (layout.run kind.Bytes)) e refl
sequence_has wanted u false false e = has_form wanted form.Sequence (layout.sequence u) e (u, refl)

-- the form of an array is that of its layout
array_has : (wanted : Form) (n u : ℕ) (byte : Bool) → array_form n byte ≡ next.Wants wanted →
    HasForm wanted (array_layout_of n u byte)
array_has wanted n u true e =
    has_form wanted (form.ByteArray n) (layout.plain (layout.run (kind.ByteArray n))) e refl
array_has wanted n u false e = has_form wanted (form.Array n) (layout.array n u) e (u, refl)

-- the form of a compact is that of its layout
compact_has : (wanted : Form) (m : Option Target) → compact_form m ≡ next.Wants wanted →
    HasForm wanted (compact_layout m)
compact_has wanted (Some m) e =
    has_form wanted (form.Compact m) (layout.plain (layout.compact m)) e refl
compact_has wanted None e = absurd cc

-- the form of a bit sequence is that of its layout
bits_has : (wanted : Form) (o : Option BitForm) → bits_form o ≡ next.Wants wanted →
    HasForm wanted (bits_layout o)
bits_has wanted (Some b) e =
    has_form wanted (form.Bits b) (layout.plain (layout.run (kind.Bits b))) e refl
bits_has wanted None e = absurd cc

-- the form by a definition is that of the layout by it
sized_has : (r : List TypeInfo) (wanted : Form) (d : TypeDef) →
    form_of_shape r (Some d) ≡ next.Wants wanted → HasForm wanted (sized_layout r d)
sized_has r wanted (Def.Composite fs) e =
    has_form wanted form.Fields (layout.fields (field_types fs)) e (field_types fs, refl)
sized_has r wanted (Def.Variant arms) e = has_form wanted form.Arm (layout.arms arms) e (arms, refl)
sized_has r wanted (Def.Sequence u) e =
    sequence_has wanted u.0 (is_empty r u.0) (is_byte (shape r u.0)) e
sized_has r wanted (Def.Array n u) e = array_has wanted n u.0 (is_byte (shape r u.0)) e
sized_has r wanted (Def.Tuple ts) e =
    has_form wanted form.Fields (layout.fields (ids ts)) e (ids ts, refl)
sized_has r wanted (Def.Primitive p) e =
    has_form wanted (form.Primitive p) (primitive_layout p) e refl
sized_has r wanted (Def.Compact u) e = compact_has wanted (target_of r u.0) e
sized_has r wanted (Def.BitSequence store order bits) e = bits_has wanted bits e

-- the form by whether bytes are taken and by the definition is that of the layout by both
known_has : (r : List TypeInfo) (wanted : Form) (empty : Bool) (d : Option TypeDef) →
    (if empty then next.Wants form.Empty else form_of_shape r d) ≡ next.Wants wanted →
    HasForm wanted (layout_of_shape r empty d)
known_has r wanted true d e = has_form wanted form.Empty (layout.plain layout.empty) e refl
known_has r wanted false (Some d) e = sized_has r wanted d e
known_has r wanted false None e = absurd cc

-- a type of which this form is wanted has a layout of the form
pub form_layout : (r : List TypeInfo) (t : ℕ) (wanted : Form) → form_of r t ≡ next.Wants wanted →
    HasForm wanted (layout r t)
unfolding layout
form_layout r t wanted e = known_has r wanted (is_empty r t) (shape r t) e

-- a type whose form is the empty one is laid out as one without bytes
pub empty_layout : (r : List TypeInfo) (t : ℕ) → form_of r t ≡ next.Wants form.Empty →
    layout r t ≡ (layout.plain layout.empty)
empty_layout r t e = form_layout r t form.Empty e

-- a type whose form is a primitive's is laid out as this primitive
pub primitive_has_layout : (r : List TypeInfo) (t : ℕ) (p : Primitive) →
    form_of r t ≡ next.Wants (form.Primitive p) → layout r t ≡ primitive_layout p
primitive_has_layout r t p e = form_layout r t (form.Primitive p) e

-- a type whose form is that of a run is laid out as this run
pub run_layout : (r : List TypeInfo) (t : ℕ) (k : RunKind) → form_of r t ≡ next.Wants (run_form k) →
    layout r t ≡ layout.plain (layout.run k)
run_layout r t kind.Text e = form_layout r t (form.Primitive P.Str) e
run_layout r t kind.Bytes e = form_layout r t form.Bytes e
run_layout r t (kind.ByteArray n) e = form_layout r t (form.ByteArray n) e
run_layout r t (kind.Bits f) e = form_layout r t (form.Bits f) e

-- a type whose form is a compact's with a target is laid out as a compact with this target
pub compact_has_layout : (r : List TypeInfo) (t : ℕ) (m : Target) →
    form_of r t ≡ next.Wants (form.Compact m) → layout r t ≡ layout.plain (layout.compact m)
compact_has_layout r t m e = form_layout r t (form.Compact m) e

-- a type whose form is a count alone is laid out as the length alone
pub count_layout : (r : List TypeInfo) (t : ℕ) → form_of r t ≡ next.Wants form.Count →
    layout r t ≡ (layout.plain layout.counted)
count_layout r t e = form_layout r t form.Count e

-- ---- what is wanted next

-- a type of this form is next, which is finite, and there is room for a node of its depth
pub record Wanted (w : Walked) (wanted : Form) : Type 0 where
  pub ty : ℕ
  pub is_next : next_type w ≡ Some ty
  pub finite : is_finite w.types ty ≡ true
  pub form_is : form_of w.types ty ≡ next.Wants wanted
  pub room : length w.frames ≤ w.limit + 1

-- where a form is wanted of a type, it is finite, has this form, and there is room for its depth
wanted_from : (w : Walked) (wanted : Form) (o : Option ℕ) → next_type w ≡ o →
    next_from w o ≡ next.Wants wanted → Wanted w wanted
wanted_from w wanted None e h = absurd cc
wanted_from w wanted (Some t) e h =
    go (nat_lt (w.limit + 1) (length w.frames)) (is_finite w.types t) refl refl h where
      go : (deep finite : Bool) → nat_lt (w.limit + 1) (length w.frames) ≡ deep →
          is_finite w.types t ≡ finite →
          (if deep then next.Stop stop.TooDeep else
          (if finite then form_of w.types t else next.Stop stop.NoFiniteValue))
          ≡ next.Wants wanted →
          Wanted w wanted
      go true finite d f h = absurd cc
      go false false d f h = absurd cc
      go false true d f h = record {
        ty = t;
        is_next = e;
        finite = f;
        form_is = h;
        room =
            grind (arith, d);
      }

-- where a form is next, the next type is finite and of it, and there is room for its depth
pub wanted : (w : Walked) (wanted : Form) → next_of w ≡ next.Wants wanted → Wanted w wanted
wanted w f h = wanted_from w f (next_type w) refl h

-- ---- why nothing can be read

-- what this reason says of a type whose depth is within the limit
abbrev pub IsStoppedBy : StopReason → List TypeInfo → ℕ → Type 0
IsStoppedBy stop.TooDeep r t = ⊥
IsStoppedBy stop.NoFiniteValue r t = is_finite r t ≡ false
IsStoppedBy stop.BitSequence r t = (is_finite r t ≡ true) × (layout r t ≡ layout.bit_sequence)
IsStoppedBy stop.BadCompact r t = (is_finite r t ≡ true) × (layout r t ≡ layout.bad_compact)

-- what this reason says of a finite type's definition and layout
abbrev HasReason : StopReason → Option TypeDef → Layout → Type 0
HasReason stop.BitSequence d f = f ≡ layout.bit_sequence
HasReason stop.BadCompact d f = f ≡ layout.bad_compact
HasReason _ d f = d ≡ None

-- a reason to stop may be replaced by the same one
has_reason : (reported is : StopReason) (d : Option TypeDef) (f : Layout) →
    next.Stop is ≡ next.Stop reported → HasReason is d f → HasReason reported d f
has_reason reported is d f e h = let same : is ≡ reported = cc in
    subst (λ (x : StopReason). HasReason x d f) same h

-- a sequence is never a reason to stop
sequence_goes_on : (reported : StopReason) (empty byte : Bool) →
    sequence_form empty byte ≡ next.Stop reported → ⊥
sequence_goes_on reported true byte e = absurd cc
sequence_goes_on reported false true e = absurd cc
sequence_goes_on reported false false e = absurd cc

-- an array is never a reason to stop
array_goes_on : (reported : StopReason) (n : ℕ) (byte : Bool) →
    array_form n byte ≡ next.Stop reported → ⊥
array_goes_on reported n true e = absurd cc
array_goes_on reported n false e = absurd cc

-- where a compact is a reason to stop, it is the one that its layout reports
compact_has_reason : (reported : StopReason) (d : Option TypeDef) (m : Option Target) →
    compact_form m ≡ next.Stop reported → HasReason reported d (compact_layout m)
compact_has_reason reported d (Some m) e = absurd cc
compact_has_reason reported d None e =
    has_reason reported stop.BadCompact d layout.bad_compact e refl

-- where a bit sequence is a reason to stop, it is the one that its layout reports
bits_has_reason : (reported : StopReason) (d : Option TypeDef) (o : Option BitForm) →
    bits_form o ≡ next.Stop reported → HasReason reported d (bits_layout o)
bits_has_reason reported d (Some b) e = absurd cc
bits_has_reason reported d None e =
    has_reason reported stop.BitSequence d layout.bit_sequence e refl

-- where a type by its definition is a reason to stop, the definition or layout reports this one
known_has_reason : (r : List TypeInfo) (reported : StopReason) (empty : Bool) (d : Option TypeDef) →
    (if empty then next.Wants form.Empty else form_of_shape r d) ≡ next.Stop reported →
    HasReason reported d (layout_of_shape r empty d)
known_has_reason r reported true d e = absurd cc
known_has_reason r reported false None e =
    has_reason reported stop.NoFiniteValue None layout.unknown e refl
known_has_reason r reported false (Some (Def.Composite fs)) e = absurd cc
known_has_reason r reported false (Some (Def.Variant arms)) e = absurd cc
known_has_reason r reported false (Some (Def.Sequence u)) e =
    absurd (sequence_goes_on reported (is_empty r u.0) (is_byte (shape r u.0)) e)
known_has_reason r reported false (Some (Def.Array n u)) e =
    absurd (array_goes_on reported n (is_byte (shape r u.0)) e)
known_has_reason r reported false (Some (Def.Tuple ts)) e = absurd cc
known_has_reason r reported false (Some (Def.Primitive p)) e = absurd cc
known_has_reason r reported false (Some (Def.Compact u)) e =
    compact_has_reason reported (Some (Def.Compact u)) (target_of r u.0) e
known_has_reason r reported false (Some (Def.BitSequence store order bits)) e =
    bits_has_reason reported (Some (Def.BitSequence store order bits)) bits e

-- where a finite type is a reason to stop, its definition or its layout reports this one
reason_holds : (r : List TypeInfo) (t : ℕ) (reported : StopReason) →
    form_of r t ≡ next.Stop reported →
    HasReason reported (shape r t) (layout r t)
unfolding layout
reason_holds r t reported e = known_has_reason r reported (is_empty r t) (shape r t) e

-- a finite type is a position
no_shape : {X : Type 0} (r : List TypeInfo) (t : ℕ) → is_finite r t ≡ true → shape r t ≡ None → X
no_shape r t h e = let no : is_finite r t ≡ false = shapeless r (length r) t e in absurd cc

-- of a finite type, the reason to stop says what its layout is
stops_by : (r : List TypeInfo) (t : ℕ) (reported : StopReason) → is_finite r t ≡ true →
    HasReason reported (shape r t) (layout r t) → IsStoppedBy reported r t
stops_by r t stop.TooDeep h e = no_shape r t h e
stops_by r t stop.NoFiniteValue h e = no_shape r t h e
stops_by r t stop.BitSequence h e = (h, e)
stops_by r t stop.BadCompact h e = (h, e)

-- why a type stops where its depth is within the limit
pub stops : (r : List TypeInfo) (t : ℕ) (reported : StopReason) → next_at r t ≡ next.Stop reported →
    IsStoppedBy reported r t
stops r t reported h = go (is_finite r t) refl h where
  reported_so : is_finite r t ≡ false → next.Stop stop.NoFiniteValue ≡ next.Stop reported →
      IsStoppedBy reported r t
  reported_so f e = let same : stop.NoFiniteValue ≡ reported = cc in
      subst (λ (x : StopReason). IsStoppedBy x r t) same f

  go : (finite : Bool) → is_finite r t ≡ finite →
      (if finite then form_of r t else next.Stop stop.NoFiniteValue) ≡ next.Stop reported →
      IsStoppedBy reported r t
  go true f e = stops_by r t reported f (reason_holds r t reported e)
  go false f e = reported_so f e

-- a type is next that cannot be read: its depth is above the limit, or the type itself says why
pub record Stopped (w : Walked) (reported : StopReason) : Type 0 where
  pub ty : ℕ
  pub is_next : next_type w ≡ Some ty
  pub why : ((reported ≡ stop.TooDeep) × (w.limit + 1 < length w.frames))
      ⊎ ((length w.frames ≤ w.limit + 1) × IsStoppedBy reported w.types ty)

-- where a type is a reason to stop, it is too deep, or it says why itself
stopped_from : (w : Walked) (reported : StopReason) (o : Option ℕ) → next_type w ≡ o →
    next_from w o ≡ next.Stop reported → Stopped w reported
stopped_from w reported None e h = absurd cc
stopped_from w reported (Some t) e h = go (nat_lt (w.limit + 1) (length w.frames)) refl h where
  go : (deep : Bool) → nat_lt (w.limit + 1) (length w.frames) ≡ deep →
      (if deep then next.Stop stop.TooDeep else next_at w.types t) ≡ next.Stop reported →
      Stopped w reported
  go true d h = let same : reported ≡ stop.TooDeep = cc in
      record { ty = t; is_next = e; why = inl (same, grind (arith, d)) }
  go false d h = record {
    ty = t;
    is_next = e;
    why =
        inr (grind (arith, d), stops w.types t reported h);
  }

-- where the walk stops at the next type, it is too deep, or it says why itself
pub stopped : (w : Walked) (reported : StopReason) → next_of w ≡ next.Stop reported →
    Stopped w reported
stopped w reported h = stopped_from w reported (next_type w) refl h

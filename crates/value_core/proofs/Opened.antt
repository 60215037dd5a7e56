-- What the next type is made of says its layout.
use Rattle.std.proofs.Common.{◌≡◌, ℕ, Bool, true, false, List, Option, Some, None, refl, sym, ap}
use Rattle.std.proofs.Common.{◌∙◌, inl, inr}
use Rattle.std.specs.Prelude.{if◌then◌else◌, option_map}
use Rattle.scale_core.specs.declared.compact.Target.{Target}
use Rattle.types_core.specs.declared.definition.Arm.{Arm}
use Rattle.types_core.specs.declared.definition.Field.{Field}
use Rattle.types_core.specs.declared.bits.BitForm.{BitForm}
use Rattle.types_core.specs.declared.definition.TypeDef.{TypeDef}
use Rattle.types_core.specs.declared.definition.TypeDef.TheVariants as Def
use Rattle.types_core.specs.declared.type_id.TypeId.{TypeId}
use Rattle.types_core.specs.declared.type_info.TypeInfo.{TypeInfo}
use Rattle.graph_core.specs.Types.{shape, ids, field_types}
use Rattle.widths_core.specs.Arms.{arm_of, arm_at, arm_of_shape}
use Rattle.widths_core.specs.Classes.{is_empty}
use Rattle.widths_core.specs.Targets.{target_of}
use Rattle.widths_core.specs.Layouts.{Layout, layout, array_layout, is_byte, layout_of_shape}
use Rattle.widths_core.specs.Layouts.{sized_layout, sequence_layout}
use Rattle.widths_core.specs.Layouts as layout
use Rattle.grammar_core.specs.declared.form.Form.{Form}
use Rattle.grammar_core.specs.declared.form.Form.TheVariants as form
use Rattle.grammar_core.specs.declared.form.Next.TheVariants as next
use Rattle.grammar_core.specs.Forms.{bits_form, form_of, form_of_shape, array_form, sequence_form}
use Rattle.grammar_core.specs.Forms.{bits_form, compact_form}
use Rattle.grammar_core.specs.Parts.{each, times}
use Rattle.value_core.specs.Walked.{Walked, next_type, next_of}
use Rattle.value_core.specs.Opened.{shape_at, next_shape, OpensFields, OpensArm, OpensElements}
use Rattle.value_core.proofs.Forms.{wanted}

-- the next type is of this shape, is of the form, and has the layout of its shape
record Laid (w : Walked) (f : Form) (d : TypeDef) : Type 0 where
  pub ty : ℕ
  pub is_next : next_type w ≡ Some ty
  pub form_is : form_of_shape w.types (Some d) ≡ next.Wants f
  pub layout_is : layout w.types ty ≡ sized_layout w.types d

-- where a form other than the empty one is next, the type is laid out by its definition
laid_at : (w : Walked) (f : Form) (d : TypeDef) (t : ℕ) (empty : Bool) → (f ≡ form.Empty → ⊥) →
    next_type w ≡ Some t → shape w.types t ≡ Some d → is_empty w.types t ≡ empty →
    (if empty then next.Wants form.Empty else form_of_shape w.types (Some d)) ≡ next.Wants f →
    Laid w f d
unfolding layout
laid_at w f d t true sized e s b h = absurd (sized cc)
laid_at w f d t false sized e s b h =
    record { ty = t; is_next = e; form_is = h; layout_is = rw (b, s) refl }

-- the same of the walk's next type and its definition
laid : (w : Walked) (f : Form) (d : TypeDef) → (f ≡ form.Empty → ⊥) → next_of w ≡ next.Wants f →
    Some d ≡ next_shape w → Laid w f d
laid w f d sized h s =
    let at = wanted w f h in
    let shape_is : shape w.types at.ty ≡ Some d = sym (s ∙ ap (shape_at w.types) at.is_next) in
    laid_at w f d at.ty (is_empty w.types at.ty) sized at.is_next shape_is refl
    (rw shape_is at at.form_is)

-- where fields are next and the type is a composite, the types of its fields are opened
pub composite_opens : (w : Walked) (fs : List Field) → next_of w ≡ next.Wants form.Fields →
    Some (Def.Composite fs) ≡ next_shape w → OpensFields w (each (field_types fs))
composite_opens w fs h s = let is = laid w form.Fields (Def.Composite fs) (λ e. absurd cc) h s in
    record {
      ty = is.ty;
      next = is.is_next;
      members = field_types fs;
      laid = is.layout_is;
      part_is =
          refl;
    }

-- where fields are next and the type is a tuple, its members are opened
pub tuple_opens : (w : Walked) (ts : List TypeId) → next_of w ≡ next.Wants form.Fields →
    Some (Def.Tuple ts) ≡ next_shape w → OpensFields w (each (ids ts))
tuple_opens w ts h s = let is = laid w form.Fields (Def.Tuple ts) (λ e. absurd cc) h s in
    record { ty = is.ty; next = is.is_next; members = ids ts; laid = is.layout_is; part_is = refl }

-- an array whose form is an array of some length is laid out as one of this length
array_is : (m n u : ℕ) (byte : Bool) → array_form m byte ≡ next.Wants (form.Array n) →
    array_layout m u byte ≡ layout.array n u
array_is m n u true e = absurd cc
array_is m n u false e = let same : m ≡ n = cc in ap (λ (k : ℕ). layout.array k u) same

-- where an array is next, so many of the type of its elements are opened
pub array_opens : (w : Walked) (n m : ℕ) (u : TypeId) → next_of w ≡ next.Wants (form.Array n) →
    Some (Def.Array m u) ≡ next_shape w → OpensElements w n (times n u.0)
array_opens w n m u h s =
    let is = laid w (form.Array n) (Def.Array m u) (λ e. absurd cc) h s in
    record {
      ty = is.ty;
      next = is.is_next;
      element = u.0;
      laid =
          inl (is.layout_is ∙ array_is m n u.0 (is_byte (shape w.types u.0)) is.form_is);
      part_is = refl;
    }

-- a sequence whose form is a sequence is laid out by its elements
sequence_is : (u : ℕ) (empty byte : Bool) → sequence_form empty byte ≡ next.Wants form.Sequence →
    sequence_layout u empty byte ≡ layout.sequence u
sequence_is u true byte e = absurd cc
sequence_is u false true e = absurd cc
sequence_is u false false e = refl

-- where a sequence is next, any number of the type of its elements may be opened
pub sequence_opens : (w : Walked) (n : ℕ) (u : TypeId) → next_of w ≡ next.Wants form.Sequence →
    Some (Def.Sequence u) ≡ next_shape w → OpensElements w n (times n u.0)
sequence_opens w n u h s =
    let is = laid w form.Sequence (Def.Sequence u) (λ e. absurd cc) h s in
    record {
      ty = is.ty;
      next = is.is_next;
      element = u.0;
      laid =
          inr (is.layout_is ∙ sequence_is u.0 (is_empty w.types u.0) (is_byte (shape w.types u.0))
          is.form_is);
      part_is = refl;
    }

-- ---- arms

-- a sequence never has the form of an arm
sequence_no_arm : (empty byte : Bool) → sequence_form empty byte ≡ next.Wants form.Arm → ⊥
sequence_no_arm true byte e = absurd cc
sequence_no_arm false true e = absurd cc
sequence_no_arm false false e = absurd cc

-- an array never has the form of an arm
array_no_arm : (n : ℕ) (byte : Bool) → array_form n byte ≡ next.Wants form.Arm → ⊥
array_no_arm n true e = absurd cc
array_no_arm n false e = absurd cc

-- a compact never has the form of an arm
compact_no_arm : (m : Option Target) → compact_form m ≡ next.Wants form.Arm → ⊥
compact_no_arm (Some m) e = absurd cc
compact_no_arm None e = absurd cc

-- neither has a bit sequence
bits_no_arm : (o : Option BitForm) → bits_form o ≡ next.Wants form.Arm → ⊥
bits_no_arm (Some b) e = absurd cc
bits_no_arm None e = absurd cc

abbrev Arms : List TypeInfo → Option TypeDef → Layout → Type 0
Arms r d f = (arms : List Arm) × (d ≡ Some (Def.Variant arms)) × (f ≡ layout.arms arms)

-- where the form by a definition is that of an arm, it is a variant, laid out by its arms
arm_shape : (r : List TypeInfo) (empty : Bool) (d : Option TypeDef) →
    (if empty then next.Wants form.Empty else form_of_shape r d) ≡ next.Wants form.Arm →
    Arms r d (layout_of_shape r empty d)
arm_shape r true d e = absurd cc
arm_shape r false None e = absurd cc
arm_shape r false (Some (Def.Composite fs)) e = absurd cc
arm_shape r false (Some (Def.Variant arms)) e = (arms, refl, refl)
arm_shape r false (Some (Def.Sequence u)) e =
    absurd (sequence_no_arm (is_empty r u.0) (is_byte (shape r u.0)) e)
arm_shape r false (Some (Def.Array n u)) e = absurd (array_no_arm n (is_byte (shape r u.0)) e)
arm_shape r false (Some (Def.Tuple ts)) e = absurd cc
arm_shape r false (Some (Def.Primitive p)) e = absurd cc
arm_shape r false (Some (Def.Compact u)) e = absurd (compact_no_arm (target_of r u.0) e)
arm_shape r false (Some (Def.BitSequence store order bits)) e = absurd (bits_no_arm bits e)

-- a type whose form is that of an arm is a variant, laid out by its arms
arms_of : (r : List TypeInfo) (t : ℕ) → form_of r t ≡ next.Wants form.Arm →
    Arms r (shape r t) (layout r t)
unfolding layout
arms_of r t e = arm_shape r (is_empty r t) (shape r t) e

-- where an arm is next, the first arm of an index is opened with its fields, or there is none
pub arm_opens : (w : Walked) (t index : ℕ) (found : Option (ℕ × Arm)) →
    next_of w ≡ next.Wants form.Arm → Some t ≡ next_type w → found ≡ arm_at w.types t index →
    OpensArm w index (option_map (λ x. (x.0, each (field_types x.1.fields))) found)
arm_opens w t index found h e f =
    let at = wanted w form.Arm h in
    let some : Some t ≡ Some at.ty = e ∙ at.is_next in
    let same : t ≡ at.ty = cc in
    let is = arms_of w.types at.ty at.form_is in
    let found_is : found ≡ arm_of is.0 index = f ∙ ap (λ (u : ℕ). arm_at w.types u index) same
    ∙ ap (λ (d : Option TypeDef). arm_of_shape d index) is.1 in
    record {
      ty = at.ty;
      next = at.is_next;
      arms = is.0;
      laid = is.2;
      found_is =
          ap (option_map (λ (x : ℕ × Arm). (x.0, each (field_types x.1.fields)))) found_is;
    }

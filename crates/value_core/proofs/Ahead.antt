-- What the step of the next type says of what comes next, and of the parts that it opens.
use Rattle.std.proofs.Common.{◌≡◌, ℕ, ◌+◌, ◌≤◌, Bool, true, false, List, length, Option, Some, None}
use Rattle.std.proofs.Common.{refl, sym, ap, subst, ◌∙◌, arith, inl, inr}
use Rattle.std.specs.Prelude.{option_map, nat_lt, if◌then◌else◌, IfSome, is_none}
use Rattle.scale_core.specs.declared.compact.Target.{Target}
use Rattle.types_core.specs.declared.definition.TypeDef.{TypeDef}
use Rattle.types_core.specs.declared.definition.TypeDef.TheVariants as Def
use Rattle.types_core.specs.declared.type_id.TypeId.{TypeId}
use Rattle.types_core.specs.declared.type_info.TypeInfo.{TypeInfo}
use Rattle.graph_core.specs.Types.{shape, ids, field_types}
use Rattle.widths_core.specs.declared.class.Class.{Class}
use Rattle.widths_core.specs.declared.class.Class.TheVariants as class
use Rattle.widths_core.specs.declared.type_step.ArmStep.{ArmStep}
use Rattle.widths_core.specs.declared.type_step.TypeStep.{TypeStep}
use Rattle.widths_core.specs.declared.type_step.TypeStep.TheVariants as step
use Rattle.widths_core.specs.Arms.{arm_at}
use Rattle.widths_core.specs.Classes.{class_of, is_unit}
use Rattle.widths_core.specs.Steps.{references_of, AreParts, IsArm, IsStep, IsStepAt, array_step}
use Rattle.widths_core.specs.Steps.{by_class, sequence_step}
use Rattle.widths_core.specs.Layouts.{is_byte}
use Rattle.types_core.specs.declared.definition.Arm.{Arm}
use Rattle.grammar_core.proofs.Steps.{some_next, none_next}
use Rattle.grammar_core.specs.Forms.{compact_next, next_at, next_of_step}
use Rattle.grammar_core.specs.Parts.{Part, each, times, how_many_left}
use Rattle.grammar_core.specs.declared.form.Form.{Form}
use Rattle.grammar_core.specs.declared.form.Form.TheVariants as form
use Rattle.grammar_core.specs.declared.form.Next.TheVariants as next
use Rattle.value_core.specs.Ahead.{IsStepOf, elements_in, members_in}
use Rattle.node_core.specs.declared.remaining.Remaining.{Remaining}
use Rattle.node_core.specs.Remaining.{left_of, members_of}
use Rattle.value_core.specs.Opened.{OpensFields, OpensArm, OpensElements, IsListNext, shape_at}
use Rattle.value_core.specs.Opened.{next_shape}
use Rattle.value_core.specs.Walked.{Walked, next_type, next_of}
use Rattle.value_core.proofs.Forms.{wanted}
use Rattle.value_core.proofs.Members.{parts_left, parts_counted}
use Rattle.value_core.proofs.Opened.{composite_opens, tuple_opens, array_opens, sequence_opens}
use Rattle.value_core.proofs.Opened.{arm_opens}

-- a type is next, and this is its step
abbrev pub IsStepAhead : List TypeInfo → Option ℕ → TypeStep → Type 0
IsStepAhead r (Some t) s = IsStepOf r t s
IsStepAhead r None s = ⊥

-- where something is left, a type is next
pub found_ahead : (r : List TypeInfo) (o : Option ℕ) (s : TypeStep) → is_none o ≡ false →
    IfSome o (λ t. IsStepOf r t s) → IsStepAhead r o s
found_ahead r (Some t) s h is = is
found_ahead r None s h is = absurd cc

-- where a type is next, it is the one that the walk tells
pub type_at : (w : Walked) (t u : ℕ) → next_type w ≡ Some u → IfSome (next_type w) (λ x. t ≡ x) →
    t ≡ u
type_at w t u e h = rw e at h

-- so that it is what is next
pub type_is : (w : Walked) (t u : ℕ) → next_type w ≡ Some u → IfSome (next_type w) (λ x. t ≡ x) →
    Some t ≡ next_type w
type_is w t u e h = ap Some (type_at w t u e h) ∙ sym e

-- and so where a form is wanted
pub type_wanted : (w : Walked) (f : Form) (t : ℕ) → next_of w ≡ next.Wants f →
    IfSome (next_type w) (λ x. t ≡ x) → Some t ≡ next_type w
type_wanted w f t e h = let k = wanted w f e in type_is w t k.ty k.is_next h

-- the step of a type says what comes next, whether the type is known or not
pub next_by_step : (r : List TypeInfo) (t : ℕ) (s : TypeStep) → IsStepOf r t s →
    next_of_step s ≡ next_at r t
next_by_step r t s h = go (shape r t) refl where
  go : (x : Option TypeDef) → shape r t ≡ x → next_of_step s ≡ next_at r t
  go None e =
      let none : s ≡ step.NoValue = rw (IsStepOf, e) at h in
      rw none (none_next r t None (rw (IsStepAt, e) refl) refl)
  go (Some d) e =
      let is = rw (IsStepOf, e) at h in
      some_next r t (Some s) s (rw (IsStepAt, e) (s, refl, is)) refl

-- where there is room for it, what comes next is what the step of the next type says
pub next_in_room : (w : Walked) (s : TypeStep) → length w.frames ≤ w.limit + 1 →
    IsStepAhead w.types (next_type w) s → next_of_step s ≡ next_of w
next_in_room w s h a = go (next_type w) (nat_lt (w.limit + 1) (length w.frames)) refl refl where
  go : (o : Option ℕ) (deep : Bool) → next_type w ≡ o →
      nat_lt (w.limit + 1) (length w.frames) ≡ deep → next_of_step s ≡ next_of w
  go None deep e d = absurd (rw e at a)
  go (Some t) true e d = absurd (grind (arith, d, h))
  go (Some t) false e d = rw (e, d) (next_by_step w.types t s (rw e at a))

-- a step by class that opens parts is the one of a type that takes bytes
parts_sized : (c : Class) (sized : TypeStep) (from count : ℕ) →
    step.Parts from count ≡ by_class c step.NoValue sized → step.Parts from count ≡ sized
parts_sized class.NoValue sized from count e = absurd cc
parts_sized class.Empty sized from count e = absurd cc
parts_sized class.Sized sized from count e = e

-- where the step of an array was chosen by a class, it is that of a type that takes bytes
array_sized : (c : Class) (sized : TypeStep) (n t : ℕ) →
    step.Array n t ≡ by_class c step.NoValue sized → step.Array n t ≡ sized
array_sized class.NoValue sized n t e = absurd cc
array_sized class.Empty sized n t e = absurd cc
array_sized class.Sized sized n t e = e

-- where the step of a sequence was chosen by a class, it is that of a type that takes bytes
sequence_sized : (c : Class) (sized : TypeStep) (t : ℕ) →
    step.Sequence t ≡ by_class c step.NoValue sized → step.Sequence t ≡ sized
sequence_sized class.NoValue sized t e = absurd cc
sequence_sized class.Empty sized t e = absurd cc
sequence_sized class.Sized sized t e = e

-- where the step of a sequence reports the type of its elements, it is the sequence's own
sequence_is : (c : Class) (byte : Bool) (t u : ℕ) → step.Sequence t ≡ sequence_step c byte u → t ≡ u
sequence_is class.NoValue true t u e = absurd cc
sequence_is class.NoValue false t u e = cc
sequence_is class.Empty byte t u e = absurd cc
sequence_is class.Sized true t u e = absurd cc
sequence_is class.Sized false t u e = cc

-- where the step of an array reports the type of its elements, it is the array's own
array_is : (byte : Bool) (n m t u : ℕ) → step.Array n t ≡ array_step byte m u → t ≡ u
array_is true n m t u e = absurd cc
array_is false n m t u e = cc

-- the steps that open parts of the next type, and of which definitions
abbrev opens_parts : TypeStep → Bool
opens_parts (step.Parts from count) = true
opens_parts (step.Array n t) = true
opens_parts (step.Sequence t) = true
opens_parts _ = false

abbrev suits : TypeStep → TypeDef → Bool
suits (step.Parts from count) (Def.Composite fs) = true
suits (step.Parts from count) (Def.Tuple ts) = true
suits (step.Array n t) (Def.Array m u) = true
suits (step.Sequence t) (Def.Sequence u) = true
suits _ _ = false

-- a step that opens parts and was chosen by a class suits where the one with bytes does
suits_by_class : (c : Class) (none sized s : TypeStep) (d : TypeDef) → opens_parts none ≡ false →
    (opens_parts sized ≡ true → suits sized d ≡ true) → s ≡ by_class c none sized →
    opens_parts s ≡ true → suits s d ≡ true
suits_by_class class.NoValue none sized s d f g e o = let no = rw e at o in absurd cc
suits_by_class class.Empty none sized s d f g e o = let no = rw e at o in absurd cc
suits_by_class class.Sized none sized s d f g e o = rw e (g (rw e at o))

-- a sequence's step that opens parts suits the definition of a sequence
suits_sequence : (c : Class) (byte : Bool) (u : TypeId) →
    opens_parts (sequence_step c byte u.0) ≡ true →
    suits (sequence_step c byte u.0) (Def.Sequence u) ≡ true
suits_sequence class.NoValue true u o = absurd cc
suits_sequence class.NoValue false u o = refl
suits_sequence class.Empty byte u o = absurd cc
suits_sequence class.Sized true u o = absurd cc
suits_sequence class.Sized false u o = refl

-- an array's step that opens parts suits the definition of an array
suits_array : (byte : Bool) (n : ℕ) (u : TypeId) → opens_parts (array_step byte n u.0) ≡ true →
    suits (array_step byte n u.0) (Def.Array n u) ≡ true
suits_array true n u o = absurd cc
suits_array false n u o = refl

-- a step that opens parts is that of a definition with such parts
step_suits : (r : List TypeInfo) (c : Class) (d : TypeDef) (s : TypeStep) →
    IsStep r (references_of r) (λ from count arms. Unit {0}) c d s → opens_parts s ≡ true →
    suits s d ≡ true
step_suits r c (Def.Composite fs) s is o =
    suits_by_class c step.NoValue (step.Parts is.0 is.1) s (Def.Composite fs) refl
    (λ e. refl) is.2 o
step_suits r c (Def.Tuple ts) s is o =
    suits_by_class c step.NoValue (step.Parts is.0 is.1) s (Def.Tuple ts) refl (λ e. refl) is.2 o
step_suits r c (Def.Variant arms) s is o =
    suits_by_class c (step.NoArm is.0 is.1) (step.Arms is.0 is.1) s (Def.Variant arms) refl
    (λ e. absurd cc) is.2 o
step_suits r c (Def.Sequence u) s is o =
    let byte = is_byte (shape r u.0) in
    suits_by_class c step.NoValue (sequence_step (class_of r u.0) byte u.0) s (Def.Sequence u) refl
    (suits_sequence (class_of r u.0) byte u) is o
step_suits r c (Def.Array n u) s is o =
    let byte = is_byte (shape r u.0) in
    suits_by_class c step.NoValue (array_step byte n u.0) s (Def.Array n u) refl
    (suits_array byte n u) is o
step_suits r c (Def.Primitive p) s is o =
    suits_by_class c step.NoValue (step.Primitive p) s (Def.Primitive p) refl (λ e. absurd cc) is o
step_suits r c (Def.Compact u) s is o = let no = rw is at o in absurd cc
step_suits r c (Def.BitSequence store order form) s is o =
    suits_by_class c step.NoValue (step.BitSequence form) s (Def.BitSequence store order form) refl
    (λ e. absurd cc) is o

-- the type that is next, which is known, by a step that is not that of a type without values
record IsKnownNext (w : Walked) (s : TypeStep) : Type 0 where
  pub ty : ℕ
  pub is_next : next_type w ≡ Some ty
  pub d : TypeDef
  pub shape_is : Some d ≡ next_shape w
  pub is : IsStep w.types (references_of w.types) (λ from count arms. Unit {0})
      (class_of w.types ty) d s

-- where the step that is ahead is not that of no value, the next type is known and has it
known : (w : Walked) (s : TypeStep) → (s ≡ step.NoValue → ⊥) →
    IsStepAhead w.types (next_type w) s → IsKnownNext w s
known w s some h = go (next_type w) refl where
  at : (t : ℕ) (x : Option TypeDef) → next_type w ≡ Some t → shape w.types t ≡ x →
      IsStepOf w.types t s → IsKnownNext w s
  at t None e f is = absurd (some (rw (IsStepOf, f) at is))
  at t (Some d) e f is = record {
    ty = t;
    is_next = e;
    d = d;
    shape_is = sym (ap (shape_at w.types) e ∙ f);
    is =
        rw (IsStepOf, f) at is;
  }

  go : (o : Option ℕ) → next_type w ≡ o → IsKnownNext w s
  go None e = absurd (rw e at h)
  go (Some t) e = at t (shape w.types t) e refl (rw e at h)

abbrev opened_parts : Walked → ℕ → ℕ → Part
opened_parts w from count = left_of w.types (members_of from count)

-- these are the parts of the next type, and there are as many as they say
pub record OpensParts (w : Walked) (left : Remaining) : Type 0 where
  pub opens : OpensFields w (left_of w.types left)
  pub counts : how_many_left (left_of w.types left) ≡ left.count

-- the fields or members that the next type opens are the piece of references that its step reports
parts_open : (w : Walked) (from count from' count' : ℕ) (c : Class) (ts : List ℕ) →
    step.Parts from count ≡ by_class c step.NoValue (step.Parts from' count') →
    AreParts (references_of w.types) from' count' ts → OpensFields w (each ts) →
    OpensParts w (members_of from count)
parts_open w from count from' count' c ts e parts o =
    let is = parts_sized c (step.Parts from' count') from count e in
    let from_is : from ≡ from' = cc in
    let count_is : count ≡ count' = cc in
    let left = parts_left (references_of w.types) from' count' ts parts in
    let counted = parts_counted (references_of w.types) from' count' ts parts in
    rw (from_is, count_is) (record {
      opens = subst (OpensFields w) (sym left) o;
      counts = ap how_many_left left ∙ counted;
    })

-- where fields are next, they are the piece of references that the step ahead reports
fields_open : (w : Walked) (from count : ℕ) → next_of w ≡ next.Wants form.Fields →
    IsStepAhead w.types (next_type w) (step.Parts from count) →
    OpensParts w (members_of from count)
fields_open w from count h a =
    let k = known w (step.Parts from count) (λ e. absurd cc) a in
    let c = class_of w.types k.ty in
    go c k.d k.shape_is k.is (step_suits w.types c k.d (step.Parts from count) k.is refl) where
      go : (c : Class) (d : TypeDef) → Some d ≡ next_shape w →
          IsStep w.types (references_of w.types)
          (λ from count arms. Unit {0}) c d (step.Parts from count) →
          suits (step.Parts from count) d ≡ true →
          OpensParts w (members_of from count)
      go c (Def.Composite fs) s is f = parts_open w from count is.0 is.1 c
          (field_types fs) is.2 is.3 (composite_opens w fs h s)
      go c (Def.Tuple ts) s is f = parts_open w from count is.0 is.1 c (ids ts) is.2
          is.3 (tuple_opens w ts h s)
      go c (Def.Variant arms) s is f = absurd cc
      go c (Def.Sequence u) s is f = absurd cc
      go c (Def.Array m u) s is f = absurd cc
      go c (Def.Primitive p) s is f = absurd cc
      go c (Def.Compact u) s is f = absurd cc
      go c (Def.BitSequence store order form) s is f = absurd cc

-- where an array is next, so many of the type that the step ahead reports are its elements
elements_open : (w : Walked) (n m t : ℕ) → next_of w ≡ next.Wants (form.Array n) →
    IsStepAhead w.types (next_type w) (step.Array m t) → OpensElements w n (times n t)
elements_open w n m t h a =
    let k = known w (step.Array m t) (λ e. absurd cc) a in
    let c = class_of w.types k.ty in
    go c k.d k.shape_is k.is (step_suits w.types c k.d (step.Array m t) k.is refl) where
      go : (c : Class) (d : TypeDef) → Some d ≡ next_shape w →
          IsStep w.types (references_of w.types)
          (λ from count arms. Unit {0}) c d (step.Array m t) → suits (step.Array m t) d ≡ true →
          OpensElements w n (times n t)
      go c (Def.Array m' u) s is f =
          let byte = is_byte (shape w.types u.0) in
          let same = array_sized c (array_step byte m' u.0) m t is in
          rw (array_is byte m m' t u.0 same) (array_opens w n m' u h s)
      go c (Def.Composite fs) s is f = absurd cc
      go c (Def.Variant arms) s is f = absurd cc
      go c (Def.Sequence u) s is f = absurd cc
      go c (Def.Tuple ts) s is f = absurd cc
      go c (Def.Primitive p) s is f = absurd cc
      go c (Def.Compact u) s is f = absurd cc
      go c (Def.BitSequence store order form) s is f = absurd cc

-- where a sequence is next, any number of the type that the step ahead reports are its elements
sequence_elements_open : (w : Walked) (n t : ℕ) → next_of w ≡ next.Wants form.Sequence →
    IsStepAhead w.types (next_type w) (step.Sequence t) → OpensElements w n (times n t)
sequence_elements_open w n t h a =
    let k = known w (step.Sequence t) (λ e. absurd cc) a in
    let c = class_of w.types k.ty in
    go c k.d k.shape_is k.is (step_suits w.types c k.d (step.Sequence t) k.is refl) where
      go : (c : Class) (d : TypeDef) → Some d ≡ next_shape w →
          IsStep w.types (references_of w.types)
          (λ from count arms. Unit {0}) c d (step.Sequence t) → suits (step.Sequence t) d ≡ true →
          OpensElements w n (times n t)
      go c (Def.Sequence u) s is f =
          let byte = is_byte (shape w.types u.0) in
          let sized = sequence_step (class_of w.types u.0) byte u.0 in
          let same = sequence_sized c sized t is in
          rw (sequence_is (class_of w.types u.0) byte t u.0 same) (sequence_opens w n u h s)
      go c (Def.Composite fs) s is f = absurd cc
      go c (Def.Variant arms) s is f = absurd cc
      go c (Def.Array m u) s is f = absurd cc
      go c (Def.Tuple ts) s is f = absurd cc
      go c (Def.Primitive p) s is f = absurd cc
      go c (Def.Compact u) s is f = absurd cc
      go c (Def.BitSequence store order form) s is f = absurd cc

-- the arm that is found, with the parts that it opens
abbrev opened_arm : Walked → ArmStep → ℕ × Part
opened_arm w s = (s.position, opened_parts w s.from s.count)

-- where an arm is next, what is found for an index is the arm that it opens, or that there is none
pub found_arm_opens : (w : Walked) (t index : ℕ) (o : Option ArmStep) →
    next_of w ≡ next.Wants form.Arm → Some t ≡ next_type w →
    IsArm (references_of w.types) o (arm_at w.types t index) →
    OpensArm w index (option_map (opened_arm w) o)
found_arm_opens w t index o h e a =
    let opens = arm_opens w t index (arm_at w.types t index) h e refl in
    subst (OpensArm w index) (sym (go o (arm_at w.types t index) a)) opens where
      go : (o : Option ArmStep) (x : Option (ℕ × Arm)) → IsArm (references_of w.types) o x →
          option_map (opened_arm w) o
          ≡ option_map (λ (y : ℕ × Arm). (y.0, each (field_types y.1.fields))) x
      go None None a = refl
      go None (Some x) a = elim a [ ]
      go (Some s) None a = elim a [ ]
      go (Some s) (Some x) a =
          rw (
            a.0,
            parts_left (references_of w.types) s.from s.count
                (field_types x.1.fields) a.1,
          ) refl

-- an arm that is found opens as many parts as its step reports
pub found_arm_counts : (w : Walked) (s : ArmStep) (x : Option (ℕ × Arm)) →
    IsArm (references_of w.types) (Some s) x →
    how_many_left (opened_parts w s.from s.count) ≡ s.count
found_arm_counts w s None a = elim a [ ]
found_arm_counts w s (Some x) a =
    let refs = references_of w.types in
    ap how_many_left (parts_left refs s.from s.count (field_types x.1.fields) a.1)
    ∙ parts_counted refs s.from s.count (field_types x.1.fields) a.1

-- ---- the step that has a form

-- where a form is wanted, the step of the next type has it
with_form : (w : Walked) (f : Form) (s : TypeStep) → next_of w ≡ next.Wants f →
    IsStepAhead w.types (next_type w) s → next_of_step s ≡ next.Wants f
with_form w f s h a = next_in_room w s (wanted w f h).room a ∙ h

-- no compact is wanted as a value with parts
compact_no_parts : (m : Option Target) (f : Form) → (f ≡ form.Empty → ⊥) →
    ((t : Target) → f ≡ form.Compact t → ⊥) → compact_next m ≡ next.Wants f → ⊥
compact_no_parts None f empty compact e = absurd cc
compact_no_parts (Some m) f empty compact e = go (is_unit (Some m)) e where
  go : (unit : Bool) → (if unit then next.Wants form.Empty else next.Wants (form.Compact m))
      ≡ next.Wants f → ⊥
  go true e = empty cc
  go false e = compact m cc

-- where a form is wanted, a type is next, and it has the step that is ahead
wanted_ahead : (w : Walked) (f : Form) (s : TypeStep) → next_of w ≡ next.Wants f →
    IfSome (next_type w) (λ t. IsStepOf w.types t s) → IsStepAhead w.types (next_type w) s
wanted_ahead w f s h a =
    let is = (wanted w f h).is_next in
    rw is (rw is at a)

-- where fields are next, the step ahead reports a piece of the references
fields_known : (w : Walked) (s : TypeStep) → next_of w ≡ next.Wants form.Fields →
    IsStepAhead w.types (next_type w) s → (from count : ℕ) × (s ≡ step.Parts from count)
fields_known w s h a = go s (with_form w form.Fields s h a) where
  go : (s : TypeStep) → next_of_step s ≡ next.Wants form.Fields → (from count : ℕ)
      × (s ≡ step.Parts from count)
  go (step.Compact m) e =
      absurd (compact_no_parts m form.Fields (λ f. absurd cc) (λ t f. absurd cc) e)
  go (step.NoArm from count) e = absurd cc
  go step.NoValue e = absurd cc
  go step.Empty e = absurd cc
  go (step.Primitive p) e = absurd cc
  go (step.Parts from count) e = (from, count, refl)
  go (step.Arms from count) e = absurd cc
  go (step.Array n t) e = absurd cc
  go (step.Sequence t) e = absurd cc
  go (step.ByteArray n) e = absurd cc
  go step.Bytes e = absurd cc
  go step.Count e = absurd cc
  go (step.BitSequence None) e = absurd cc
  go (step.BitSequence (Some bits)) e = absurd cc

-- where an array is next, the step ahead is one of an array and reports its elements
array_known : (w : Walked) (n : ℕ) (s : TypeStep) → next_of w ≡ next.Wants (form.Array n) →
    IsStepAhead w.types (next_type w) s → (m t : ℕ) × (s ≡ step.Array m t)
array_known w n s h a = go s (with_form w (form.Array n) s h a) where
  go : (s : TypeStep) → next_of_step s ≡ next.Wants (form.Array n) → (m t : ℕ)
      × (s ≡ step.Array m t)
  go (step.Compact m) e =
      absurd (compact_no_parts m (form.Array n) (λ f. absurd cc) (λ t f. absurd cc) e)
  go (step.NoArm from count) e = absurd cc
  go step.NoValue e = absurd cc
  go step.Empty e = absurd cc
  go (step.Primitive p) e = absurd cc
  go (step.Parts from count) e = absurd cc
  go (step.Arms from count) e = absurd cc
  go (step.Array m t) e = (m, t, refl)
  go (step.Sequence t) e = absurd cc
  go (step.ByteArray n) e = absurd cc
  go step.Bytes e = absurd cc
  go step.Count e = absurd cc
  go (step.BitSequence None) e = absurd cc
  go (step.BitSequence (Some bits)) e = absurd cc

-- where a sequence is next, the step ahead is one of a sequence and reports its elements
sequence_known : (w : Walked) (s : TypeStep) → next_of w ≡ next.Wants form.Sequence →
    IsStepAhead w.types (next_type w) s → (t : ℕ) × (s ≡ step.Sequence t)
sequence_known w s h a = go s (with_form w form.Sequence s h a) where
  go : (s : TypeStep) → next_of_step s ≡ next.Wants form.Sequence → (t : ℕ)
      × (s ≡ step.Sequence t)
  go (step.Compact m) e =
      absurd (compact_no_parts m form.Sequence (λ f. absurd cc) (λ t f. absurd cc) e)
  go (step.NoArm from count) e = absurd cc
  go step.NoValue e = absurd cc
  go step.Empty e = absurd cc
  go (step.Primitive p) e = absurd cc
  go (step.Parts from count) e = absurd cc
  go (step.Arms from count) e = absurd cc
  go (step.Array m t) e = absurd cc
  go (step.Sequence t) e = (t, refl)
  go (step.ByteArray n) e = absurd cc
  go step.Bytes e = absurd cc
  go step.Count e = absurd cc
  go (step.BitSequence None) e = absurd cc
  go (step.BitSequence (Some bits)) e = absurd cc

-- ---- what is opened by the step that is ahead

-- where fields are next, the members that the step ahead reports are what is opened
pub members_opened : (w : Walked) (s : TypeStep) → next_of w ≡ next.Wants form.Fields →
    IfSome (next_type w) (λ t. IsStepOf w.types t s) → OpensParts w (members_in s)
members_opened w s h i =
    let a = wanted_ahead w form.Fields s h i in
    let k = fields_known w s h a in
    rw k.2 (fields_open w k.0 k.1 h (rw k.2 at a))

-- so many elements are opened
pub record OpensList (w : Walked) (n : ℕ) (left : Remaining) : Type 0 where
  pub opens : OpensElements w n (left_of w.types left)
  pub counts : left.count ≡ n

-- where an array is next, so many of the type of its elements
array_opened : (w : Walked) (n : ℕ) (s : TypeStep) → next_of w ≡ next.Wants (form.Array n) →
    IsStepAhead w.types (next_type w) s → OpensList w n (elements_in s n)
array_opened w n s h a =
    let k = array_known w n s h a in
    rw k.2 (record { opens = elements_open w n k.0 k.1 h (rw k.2 at a); counts = refl })

-- where a sequence is next, so many of the type of its elements
sequence_opened : (w : Walked) (n : ℕ) (s : TypeStep) → next_of w ≡ next.Wants form.Sequence →
    IsStepAhead w.types (next_type w) s → OpensList w n (elements_in s n)
sequence_opened w n s h a =
    let k = sequence_known w s h a in
    rw k.1 (record { opens = sequence_elements_open w n k.0 h (rw k.1 at a); counts = refl })

-- where an array or a sequence is next, so many of the type that the step reports are opened
pub elements_opened : (w : Walked) (n : ℕ) (s : TypeStep) → IsListNext w n →
    IfSome (next_type w) (λ t. IsStepOf w.types t s) → OpensList w n (elements_in s n)
elements_opened w n s (inl h) i = array_opened w n s h (wanted_ahead w (form.Array n) s h i)
elements_opened w n s (inr h) i = sequence_opened w n s h (wanted_ahead w form.Sequence s h i)

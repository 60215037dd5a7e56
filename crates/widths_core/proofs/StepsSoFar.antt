-- Steps are completed as types and their parts settle.
use Rattle.std.proofs.Common.{◌≡◌, ◌≢◌, ℕ, zero, suc, Bool, true, false, cond, List, [], ◌∷◌}
use Rattle.std.proofs.Common.{length, set, Option, Some, None, refl, sym, ap, ◌∙◌}
use Rattle.std.proofs.Common.{inl, inr}
use Rattle.std.specs.Prelude.{slice_get}
use Rattle.std.proofs.lemmas.List.{length-set}
use Rattle.scale_core.specs.declared.compact.Target.{Target}
use Rattle.types_core.specs.declared.definition.Arm.{Arm}
use Rattle.types_core.specs.declared.definition.TypeDef.{TypeDef}
use Rattle.types_core.specs.declared.definition.TypeDef.TheVariants as Def
use Rattle.types_core.specs.declared.primitive.Primitive.{Primitive}
use Rattle.types_core.specs.declared.primitive.Primitive.TheVariants as P
use Rattle.types_core.specs.declared.type_info.TypeInfo.{TypeInfo}
use Rattle.widths_core.specs.declared.class.Class.{Class}
use Rattle.widths_core.specs.declared.class.Class.TheVariants as class
use Rattle.widths_core.specs.declared.counter.Found.{Found}
use Rattle.widths_core.specs.declared.counter.Kind.{Kind}
use Rattle.widths_core.specs.declared.counter.Kind.TheVariants as kind
use Rattle.widths_core.specs.declared.type_step.TypeStep.{TypeStep}
use Rattle.widths_core.specs.declared.type_step.TypeStep.TheVariants as step
use Rattle.graph_core.specs.Types.{shape}
use Rattle.widths_core.specs.Targets.{target_of}
use Rattle.widths_core.specs.Classes.{class_of}
use Rattle.widths_core.specs.ClassTables.{has_value}
use Rattle.widths_core.specs.Completing.{empty_step, element_step, is_byte_step}
use Rattle.widths_core.specs.Completing.{array_settled, settled_step, told_step, written, step_at}
use Rattle.widths_core.specs.Consistent.{so_far, tells}
use Rattle.widths_core.specs.Layouts.{is_byte}
use Rattle.widths_core.specs.Rules.{outcome, kind_of_parts, found_sized, found_none}
use Rattle.widths_core.specs.Steps.{IsDraft, by_class, sequence_step}
use Rattle.widths_core.specs.Steps.{array_step}
use Rattle.widths_core.proofs.RuleKinds.{HasKind}
use Rattle.widths_core.proofs.Stable.{class_stable}

-- ---- places of the table

-- this step, or the one before where there is none
abbrev pub chosen : Option TypeStep → TypeStep → TypeStep
chosen None s = s
chosen (Some x) s = x

-- a step that is put at a place is read there
pub set_same : (xs : List TypeStep) (t : ℕ) (s y : TypeStep) → slice_get xs t ≡ Some y →
    slice_get (set xs t s) t ≡ Some s
set_same [] t s y e = absurd cc
set_same (x ∷ xs) zero s y e = refl
set_same (x ∷ xs) (suc t) s y e = set_same xs t s y e

-- and leaves the others
set_other : (xs : List TypeStep) (t u : ℕ) (s : TypeStep) → u ≢ t →
    slice_get (set xs t s) u ≡ slice_get xs u
set_other [] t u s ne = refl
set_other (x ∷ xs) zero zero s ne = absurd (ne refl)
set_other (x ∷ xs) zero (suc u) s ne = refl
set_other (x ∷ xs) (suc t) zero s ne = refl
set_other (x ∷ xs) (suc t) (suc u) s ne = set_other xs t u s (λ e. ne (ap suc e))

-- a step that is written at a place, or the one before, is read there
pub written_same : (xs : List TypeStep) (t : ℕ) (o : Option TypeStep) (y : TypeStep) →
    slice_get xs t ≡ Some y → slice_get (written xs t o) t ≡ Some (chosen o y)
written_same xs t None y e = e
written_same xs t (Some s) y e = set_same xs t s y e

-- and the others stay
pub written_other : (xs : List TypeStep) (t u : ℕ) (o : Option TypeStep) → u ≢ t →
    slice_get (written xs t o) u ≡ slice_get xs u
written_other xs t u None ne = refl
written_other xs t u (Some s) ne = set_other xs t u s ne

-- there are as many steps as before
pub written-length : (xs : List TypeStep) (t : ℕ) (o : Option TypeStep) →
    length (written xs t o) ≡ length xs
written-length xs t None = refl
written-length xs t (Some s) = length-set xs t s

-- what stands at a place is read there
pub step_is : (xs : List TypeStep) (t : ℕ) (y : TypeStep) → slice_get xs t ≡ Some y →
    step_at xs t ≡ y
step_is [] t y e = absurd cc
step_is (x ∷ xs) zero y e = cc
step_is (x ∷ xs) (suc t) y e = step_is xs t y e

-- ---- a type settles

-- what is known of the last part of a rule
pub record KnowsLast (r : List TypeInfo) (ps : List ℕ) (last : Option Target) (byte : Bool) : Type 0
  where
    pub target_is : (u : ℕ) → ps ≡ u ∷ [] → last ≡ target_of r u
    pub byte_is : (u : ℕ) → ps ≡ u ∷ [] → byte ≡ is_byte (shape r u)

-- the step of a type without a step of its own by class
chosen_by : (c : Class) (x : TypeStep) → chosen (empty_step c) x ≡ by_class c x x
chosen_by class.NoValue x = refl
chosen_by class.Empty x = refl
chosen_by class.Sized x = refl

-- the rule for fields or members changes a step by the class alone
chosen_parts : (n : ℕ) (c : Class) (last : Option Target) (byte : Bool) (y x : TypeStep) →
    chosen (settled_step (kind_of_parts n) c last byte y) x ≡ by_class c x x
chosen_parts zero c last byte y x = chosen_by c x
chosen_parts (suc zero) c last byte y x = chosen_by c x
chosen_parts (suc (suc n)) c last byte y x = chosen_by c x

-- an array's step by its class, and by whether its elements are u8
chosen_array : (c : Class) (byte : Bool) (n t : ℕ) →
    chosen (array_settled c byte (step.Array n t)) (step.Array n t)
    ≡ by_class c (step.Array n t) (array_step byte n t)
chosen_array class.NoValue byte n t = refl
chosen_array class.Empty byte n t = refl
chosen_array class.Sized true n t = refl
chosen_array class.Sized false n t = refl

-- what is found by a fixed rule
found_is : (f g : Found) → Some f ≡ Some g → f ≡ g
found_is f g e = cc

-- the step of a type that settles as this is the one so far, of this class
pub settles_step : (r : List TypeInfo) (refs : List ℕ) (Row : ℕ → ℕ → List Arm → Type 0)
    (d : TypeDef) (κ : Kind) (ps : List ℕ) (sized : Bool) (last : Option Target) (byte : Bool)
    (f : Found) (known : Bool) (x : TypeStep) → HasKind d κ ps → KnowsLast r ps last byte →
    outcome κ sized last ≡ Some f → has_value f.class ≡ true → IsDraft refs Row d x →
    chosen (settled_step κ f.class last byte (so_far r class.NoValue known d x))
    (so_far r class.NoValue known d x) ≡ so_far r f.class known d x
settles_step r refs Row (Def.Composite fs) κ ps sized last byte f known x h k e v draft =
    rw h (chosen_parts (length fs) f.class last byte x x)
settles_step r refs Row (Def.Tuple ts) κ ps sized last byte f known x h k e v draft =
    rw h (chosen_parts (length ts) f.class last byte x x)
settles_step r refs Row (Def.Variant arms) κ ps sized last byte f known x h k e v draft =
    elim h [
      | inl idle ↦ rw idle (chosen_by f.class x)
      | inr fixed ↦ rw fixed (chosen_by f.class x)
    ]
settles_step r refs Row (Def.Sequence u) κ ps sized last byte f known x h k e v draft = elim h [
  | inl fixed ↦
      let is : found_sized ≡ f = found_is found_sized f (rw fixed at e) in
      rw (fixed, ← is) refl
  | inr element ↦ absurd (let no : outcome kind.Sequence sized last ≡ Some f =
      rw element.0 at e in cc)
]
settles_step r refs Row (Def.Array zero u) κ ps sized last byte f known x h k e v draft = elim h [
  | inl fixed ↦
      let is : found_none ≡ f = found_is found_none f (rw fixed at e) in
      rw (fixed, ← is) refl
  | inr idle ↦ absurd (let no : outcome kind.Idle sized last ≡ Some f = rw idle at e in cc)
]
settles_step r refs Row (Def.Array (suc n) u) κ ps sized last byte f known x h k e v draft =
    rw (h.0, draft, ← k.byte_is u.0 h.1) (chosen_array f.class byte (suc n) u.0)
settles_step r refs Row (Def.Primitive p) κ ps sized last byte f known x h k e v draft =
    rw h (chosen_by f.class x)
settles_step r refs Row (Def.Compact u) κ ps sized last byte f known x h k e v draft =
    rw (h.0, v, ← k.target_is u.0 h.1) refl
settles_step r refs Row (Def.BitSequence store order form) κ ps sized last byte f known x h k e v
    draft =
    rw h (chosen_by f.class x)

-- the step of a compact without a target stays what it was
pub bad_step : (r : List TypeInfo) (refs : List ℕ) (Row : ℕ → ℕ → List Arm → Type 0)
    (d : TypeDef) (ps : List ℕ) (known : Bool) (x : TypeStep) → HasKind d kind.Compact ps →
    ((u : ℕ) → ps ≡ u ∷ [] → target_of r u ≡ None) → IsDraft refs Row d x →
    so_far r class.NoValue known d x ≡ so_far r class.Sized known d x
bad_step r refs Row (Def.Composite fs) ps known x h none draft = refl
bad_step r refs Row (Def.Tuple ts) ps known x h none draft = refl
bad_step r refs Row (Def.Variant arms) ps known x h none draft = refl
bad_step r refs Row (Def.Sequence u) ps known x h none draft = refl
bad_step r refs Row (Def.Array zero u) ps known x h none draft = elim h [
  | inl fixed ↦ absurd cc
  | inr idle ↦ absurd cc
]
bad_step r refs Row (Def.Array (suc n) u) ps known x h none draft = absurd (let no = h.0 in cc)
bad_step r refs Row (Def.Primitive p) ps known x h none draft = refl
bad_step r refs Row (Def.Compact u) ps known x h none draft = rw (draft, none u.0 h.1) refl
bad_step r refs Row (Def.BitSequence store order form) ps known x h none draft = refl

-- ---- an element settles

-- the kind of a rule that tells is that of a sequence's element
pub tells_is : (κ : Kind) → tells κ ≡ true → κ ≡ kind.Sequence
tells_is kind.Idle e = absurd cc
tells_is kind.Parts e = absurd cc
tells_is kind.Wrap e = absurd cc
tells_is kind.Compact e = absurd cc
tells_is kind.Array e = absurd cc
tells_is kind.Sequence e = refl
tells_is (kind.Fixed f) e = absurd cc

-- a rule that tells nothing changes no step
pub told_none : (κ : Kind) (c : Class) (byte : Bool) → tells κ ≡ false → told_step κ c byte ≡ None
told_none kind.Idle c byte e = refl
told_none kind.Parts c byte e = refl
told_none kind.Wrap c byte e = refl
told_none kind.Compact c byte e = refl
told_none kind.Array c byte e = refl
told_none kind.Sequence c byte e = absurd cc
told_none (kind.Fixed f) c byte e = refl

-- a sequence's step by its element
chosen_element : (c : Class) (byte known : Bool) (t : ℕ) →
    chosen (element_step c byte) (cond known (sequence_step c byte t) (step.Sequence t))
    ≡ sequence_step c byte t
chosen_element class.NoValue true known t = refl
chosen_element class.NoValue false true t = refl
chosen_element class.NoValue false false t = refl
chosen_element class.Empty byte known t = refl
chosen_element class.Sized true known t = refl
chosen_element class.Sized false true t = refl
chosen_element class.Sized false false t = refl

-- the step of a sequence whose element has settled is the one so far, told of it
pub tells_step : (r : List TypeInfo) (refs : List ℕ) (Row : ℕ → ℕ → List Arm → Type 0) (d : TypeDef)
    (ps : List ℕ) (v : ℕ) (c now : Class) (byte known : Bool) (x : TypeStep) →
    HasKind d kind.Sequence ps → ((u : ℕ) → ps ≡ u ∷ [] → v ≡ u) → c ≡ class_of r v →
    byte ≡ is_byte (shape r v) → IsDraft refs Row d x →
    chosen (told_step kind.Sequence c byte) (so_far r now known d x) ≡ so_far r now true d x
tells_step r refs Row (Def.Composite fs) ps v c now byte known x h one e b draft =
    absurd (no_parts (length fs) h) where
      no_parts : (n : ℕ) → kind.Sequence ≡ kind_of_parts n → ⊥
      no_parts zero f = cc
      no_parts (suc zero) f = cc
      no_parts (suc (suc n)) f = cc
tells_step r refs Row (Def.Tuple ts) ps v c now byte known x h one e b draft =
    absurd (no_parts (length ts) h) where
      no_parts : (n : ℕ) → kind.Sequence ≡ kind_of_parts n → ⊥
      no_parts zero f = cc
      no_parts (suc zero) f = cc
      no_parts (suc (suc n)) f = cc
tells_step r refs Row (Def.Variant arms) ps v c now byte known x h one e b draft = elim h [
  | inl idle ↦ absurd cc
  | inr fixed ↦ absurd cc
]
tells_step r refs Row (Def.Sequence u) ps v c now byte known x h one e b draft = elim h [
  | inl fixed ↦ absurd cc
  | inr element ↦
      let same : v ≡ u.0 = one u.0 element.1 in
      let class_is : class_of r u.0 ≡ c = sym (e ∙ ap (class_of r) same) in
      let byte_is : is_byte (shape r u.0) ≡ byte =
      sym (b ∙ ap (λ (w : ℕ). is_byte (shape r w)) same) in
      rw (draft, class_is, byte_is) (chosen_element c byte known u.0)
]
tells_step r refs Row (Def.Array zero u) ps v c now byte known x h one e b draft = elim h [
  | inl fixed ↦ absurd cc
  | inr idle ↦ absurd cc
]
tells_step r refs Row (Def.Array (suc n) u) ps v c now byte known x h one e b draft =
    absurd (let no = h.0 in cc)
tells_step r refs Row (Def.Primitive p) ps v c now byte known x h one e b draft = absurd cc
tells_step r refs Row (Def.Compact u) ps v c now byte known x h one e b draft =
    absurd (let no = h.0 in cc)
tells_step r refs Row (Def.BitSequence store order form) ps v c now byte known x h one e b draft =
    absurd cc

-- ---- u8 by its step

-- a primitive is u8 by its step exactly where it is by its definition
byte_same : (p : Primitive) →
    is_byte_step (step.Primitive p) ≡ is_byte (Some (Def.Primitive p))
byte_same P.Bool = refl
byte_same _ = refl

-- a step that is chosen by a class is u8's where the two to choose from are alike
by_not_byte : (c : Class) (a b : TypeStep) → is_byte_step a ≡ false → is_byte_step b ≡ false →
    is_byte_step (by_class c a b) ≡ false
by_not_byte class.NoValue a b e f = e
by_not_byte class.Empty a b e f = refl
by_not_byte class.Sized a b e f = f

-- the step of a sequence is not u8's
sequence_not_byte : (c : Class) (byte : Bool) (t : ℕ) →
    is_byte_step (sequence_step c byte t) ≡ false
sequence_not_byte class.NoValue true t = refl
sequence_not_byte class.NoValue false t = refl
sequence_not_byte class.Empty byte t = refl
sequence_not_byte class.Sized true t = refl
sequence_not_byte class.Sized false t = refl

-- the step of an array is not u8's
array_not_byte : (byte : Bool) (n t : ℕ) → is_byte_step (array_step byte n t) ≡ false
array_not_byte true n t = refl
array_not_byte false n t = refl

-- the step of a type so far is u8's exactly where the definition is
pub byte_so_far : (r : List TypeInfo) (refs : List ℕ) (Row : ℕ → ℕ → List Arm → Type 0) (t : ℕ)
    (d : TypeDef) (known : Bool) (x : TypeStep) → shape r t ≡ Some d → IsDraft refs Row d x →
    is_byte_step (so_far r (class_of r t) known d x) ≡ is_byte (Some d)
byte_so_far r refs Row t (Def.Composite fs) known x e h =
    by_not_byte (class_of r t) x x (rw h.2 refl) (rw h.2 refl)
byte_so_far r refs Row t (Def.Tuple ts) known x e h =
    by_not_byte (class_of r t) x x (rw h.2 refl) (rw h.2 refl)
byte_so_far r refs Row t (Def.Variant arms) known x e h =
    by_not_byte (class_of r t) x x (rw h.2 refl) (rw h.2 refl)
byte_so_far r refs Row t (Def.Sequence u) true x e h =
    sequence_not_byte (class_of r u.0) (is_byte (shape r u.0)) u.0
byte_so_far r refs Row t (Def.Sequence u) false x e h = rw h refl
byte_so_far r refs Row t (Def.Array n u) known x e h =
    by_not_byte (class_of r t) x (array_step (is_byte (shape r u.0)) n u.0) (rw h refl)
    (array_not_byte (is_byte (shape r u.0)) n u.0)
byte_so_far r refs Row t (Def.Primitive p) known x e h =
    rw (class_stable r t (Def.Primitive p) e, h) (byte_same p)
byte_so_far r refs Row t (Def.Compact u) known x e h = go (has_value (class_of r t)) where
  go : (b : Bool) → is_byte_step (cond b (step.Compact (target_of r u.0)) x) ≡ false
  go true = refl
  go false = rw h refl
byte_so_far r refs Row t (Def.BitSequence store order form) known x e h =
    by_not_byte (class_of r t) x x (rw h refl) (rw h refl)

-- The step that is read is that of the type, and says its class and what a compact stands for.
use Rattle.std.proofs.Common.{◌≡◌, ℕ, zero, suc, ◌<◌, ◌≤◌, Bool, true, false, List, [], ◌∷◌, length}
use Rattle.std.proofs.Common.{Option, Some, None, refl, sym, subst, arith}
use Rattle.std.specs.Prelude.{slice_get}
use Rattle.std.proofs.lemmas.Option.{slice_get_within}
use Rattle.types_core.specs.declared.definition.Arm.{Arm}
use Rattle.types_core.specs.declared.definition.TypeDef.{TypeDef}
use Rattle.types_core.specs.declared.definition.TypeDef.TheVariants as Def
use Rattle.types_core.specs.declared.type_info.TypeInfo.{TypeInfo}
use Rattle.widths_core.specs.declared.class.Class.{Class}
use Rattle.widths_core.specs.declared.class.Class.TheVariants as class
use Rattle.widths_core.specs.declared.rows.Rows.{Rows}
use Rattle.widths_core.specs.declared.type_step.TypeStep.{TypeStep}
use Rattle.widths_core.specs.declared.type_step.TypeStep.TheVariants as step
use Rattle.graph_core.specs.Types.{shape}
use Rattle.widths_core.specs.Classes.{class_of}
use Rattle.widths_core.specs.Layouts.{is_byte}
use Rattle.widths_core.specs.Steps.{references_of, IsRow, IsStep, IsTable, IsStepAt, by_class}
use Rattle.widths_core.specs.Steps.{sequence_step, array_step, class_of_step}
use Rattle.widths_core.proofs.Stable.{class_stable}
use Rattle.widths_core.proofs.RuleRight.{shape-bound}

-- at a number that is no position stands no definition
pub shape_none : (r : List TypeInfo) (t : ℕ) → length r ≤ t → shape r t ≡ None
shape_none [] t le = refl
shape_none (x ∷ r) zero le = absurd (omega (arith, le))
shape_none (x ∷ r) (suc t) le = shape_none r t (omega (arith, le))

-- at each position stands a definition
pub shape_some : (r : List TypeInfo) (t : ℕ) → t < length r → (d : TypeDef) × (shape r t ≡ Some d)
shape_some [] t lt = absurd (omega (arith, lt))
shape_some (x ∷ r) zero lt = (x.shape, refl)
shape_some (x ∷ r) (suc t) lt = shape_some r t (omega (arith, lt))

-- a number at which no step is read is not below the number of steps
pub get_none : (xs : List TypeStep) (t : ℕ) → slice_get xs t ≡ None → length xs ≤ t
get_none [] t e = omega arith
get_none (x ∷ xs) zero e = absurd cc
get_none (x ∷ xs) (suc t) e = let le = get_none xs t e in omega (arith, le)

-- the step of a type remains so where nothing is asked of the rows
weaker : (r : List TypeInfo) (refs : List ℕ) (Row : ℕ → ℕ → List Arm → Type 0) (c : Class)
    (d : TypeDef) (s : TypeStep) → IsStep r refs Row c d s →
    IsStep r refs (λ from count arms. Unit {0}) c d s
weaker r refs Row c (Def.Composite fs) s h = h
weaker r refs Row c (Def.Tuple ts) s h = h
weaker r refs Row c (Def.Variant arms) s h = (h.0, h.1, h.2, tt)
weaker r refs Row c (Def.Sequence t) s h = h
weaker r refs Row c (Def.Array n t) s h = h
weaker r refs Row c (Def.Primitive p) s h = h
weaker r refs Row c (Def.Compact t) s h = h
weaker r refs Row c (Def.BitSequence store order form) s h = h

-- the definition of a step
pub definition_of : (r : List TypeInfo) (refs : List ℕ) (rows : Rows) (steps : List TypeStep)
    (t : ℕ)
    (s : TypeStep) → IsTable r refs rows steps → slice_get steps t ≡ Some s → (d : TypeDef)
    × (shape r t ≡ Some d) × IsStep r (references_of r) (IsRow (references_of r) rows)
    (class_of r t) d s
definition_of r refs rows steps t s h e =
    let lt = slice_get_within steps t s e in
    let d = shape_some r t (omega (arith, lt, h.count)) in
    (d.0, d.1, h.own t d.0 s d.1 e)

-- what the table has at a number is the step of the type there, or none where there is none
pub step_at : (r : List TypeInfo) (refs : List ℕ) (rows : Rows) (steps : List TypeStep) (t : ℕ) →
    IsTable r refs rows steps → IsStepAt r t (slice_get steps t)
step_at r refs rows steps t h = go (slice_get steps t) refl where
  go : (o : Option TypeStep) → slice_get steps t ≡ o → IsStepAt r t o
  go None e =
      let le = get_none steps t e in
      rw (IsStepAt, shape_none r t (omega (arith, le, h.count))) refl
  go (Some s) e =
      let d = definition_of r refs rows steps t s h e in
      rw (IsStepAt, d.1) (
        s,
        refl,
        weaker r (references_of r) (IsRow (references_of r) rows) (class_of r t) d.0 s d.2,
      )

-- ---- the class and the target of a compact

-- a step that is chosen by a class reports this class, where the two to choose from report theirs
class_by : (c : Class) (none sized : TypeStep) → class_of_step none ≡ class.NoValue →
    class_of_step sized ≡ class.Sized → class_of_step (by_class c none sized) ≡ c
class_by class.NoValue none sized e f = e
class_by class.Empty none sized e f = refl
class_by class.Sized none sized e f = f

-- the step of a sequence that has values reports that it takes bytes
sized_sequence : (c : Class) (byte : Bool) (t : ℕ) →
    class_of_step (sequence_step c byte t) ≡ class.Sized
sized_sequence class.NoValue true t = refl
sized_sequence class.NoValue false t = refl
sized_sequence class.Empty byte t = refl
sized_sequence class.Sized true t = refl
sized_sequence class.Sized false t = refl

-- the step of an array that takes bytes reports so
sized_array : (byte : Bool) (n t : ℕ) → class_of_step (array_step byte n t) ≡ class.Sized
sized_array true n t = refl
sized_array false n t = refl

-- the step of a type reports the type's class
class_is : (r : List TypeInfo) (refs : List ℕ) (Row : ℕ → ℕ → List Arm → Type 0) (t : ℕ)
    (d : TypeDef) (s : TypeStep) → shape r t ≡ Some d → IsStep r refs Row (class_of r t) d s →
    class_of_step s ≡ class_of r t
class_is r refs Row t (Def.Composite fs) s e h =
    rw h.2 (class_by (class_of r t) step.NoValue (step.Parts h.0 h.1) refl refl)
class_is r refs Row t (Def.Tuple ts) s e h =
    rw h.2 (class_by (class_of r t) step.NoValue (step.Parts h.0 h.1) refl refl)
class_is r refs Row t (Def.Variant arms) s e h =
    rw h.2 (class_by (class_of r t) (step.NoArm h.0 h.1) (step.Arms h.0 h.1) refl refl)
class_is r refs Row t (Def.Sequence u) s e h =
    rw h (class_by (class_of r t) step.NoValue
    (sequence_step (class_of r u.0) (is_byte (shape r u.0)) u.0) refl
    (sized_sequence (class_of r u.0) (is_byte (shape r u.0)) u.0))
class_is r refs Row t (Def.Array n u) s e h =
    rw h (class_by (class_of r t) step.NoValue (array_step (is_byte (shape r u.0)) n u.0) refl
    (sized_array (is_byte (shape r u.0)) n u.0))
class_is r refs Row t (Def.Primitive p) s e h =
    rw h (class_by (class_of r t) step.NoValue (step.Primitive p) refl refl)
class_is r refs Row t (Def.Compact u) s e h = rw h (sym (class_stable r t (Def.Compact u) e))
class_is r refs Row t (Def.BitSequence store order form) s e h =
    rw h (class_by (class_of r t) step.NoValue (step.BitSequence form) refl refl)

-- where a step is read, there is such a type, and the step reports its class
pub class_read : (r : List TypeInfo) (t : ℕ) (o : Option TypeStep) (s : TypeStep) → IsStepAt r t o →
    o ≡ Some s → (t < length r) × (class_of_step s ≡ class_of r t)
class_read r t o s h f = go (shape r t) refl where
  go : (x : Option TypeDef) → shape r t ≡ x → (t < length r) × (class_of_step s ≡ class_of r t)
  go None e = let none = rw (IsStepAt, e) at h in absurd cc
  go (Some d) e =
      let x = rw (IsStepAt, e) at h in
      let is = x.1 in
      let same : s ≡ x.0 = cc in (
        shape-bound r t d e,
        rw same
            (class_is r (references_of r) (λ from count arms. Unit {0}) t d x.0 e x.2),
      )

-- the step of a type stays its step where registry and step are replaced by equal ones
pub step_read : (r q : List TypeInfo) (t : ℕ) (o p : Option TypeStep) → q ≡ r → p ≡ o →
    IsStepAt r t o →
    IsStepAt q t p
step_read r q t o p e f h =
    subst (λ (x : List TypeInfo). IsStepAt x t p) (sym e)
    (subst (λ (y : Option TypeStep). IsStepAt r t y) (sym f) h)

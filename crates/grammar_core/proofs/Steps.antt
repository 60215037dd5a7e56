-- What comes next by the step of a type is what comes next by its class and its definition.
use Rattle.std.proofs.Common.{◌≡◌, ℕ, Bool, true, false, List, Option, Some, None, refl}
use Rattle.std.specs.Prelude.{length, if◌then◌else◌}
use Rattle.types_core.specs.declared.definition.TypeDef.{TypeDef}
use Rattle.types_core.specs.declared.definition.TypeDef.TheVariants as Def
use Rattle.types_core.specs.declared.type_info.TypeInfo.{TypeInfo}
use Rattle.widths_core.specs.declared.class.Class.TheVariants as class
use Rattle.widths_core.specs.declared.type_step.TypeStep.{TypeStep}
use Rattle.widths_core.specs.declared.type_step.TypeStep.TheVariants as step
use Rattle.graph_core.specs.Types.{shape}
use Rattle.widths_core.specs.Targets.{target_of}
use Rattle.widths_core.specs.Classes.{is_finite, is_empty, is_unit, class_from, class_of}
use Rattle.widths_core.specs.Steps.{references_of, IsStep, IsStepAt, array_step, by_class}
use Rattle.widths_core.specs.Steps.{sequence_step}
use Rattle.widths_core.proofs.Known.{empty_finite}
use Rattle.widths_core.proofs.Stable.{class_stable}
use Rattle.grammar_core.specs.declared.form.Form.TheVariants as form
use Rattle.grammar_core.specs.declared.form.StopReason.TheVariants as stop
use Rattle.grammar_core.specs.declared.form.Next.{Next}
use Rattle.grammar_core.specs.declared.form.Next.TheVariants as next
use Rattle.widths_core.specs.Layouts.{is_byte}
use Rattle.grammar_core.specs.Forms.{bits_form, array_form, sequence_form, compact_form, next_at}
use Rattle.grammar_core.specs.Forms.{next_of_step}
use Rattle.grammar_core.proofs.Classes.{shapeless}

-- what comes next by the two tests of a class, where f comes next at a type that takes bytes
abbrev by_tests : Bool → Bool → Next → Next
by_tests finite empty f =
    if finite then (if empty then next.Wants form.Empty else f) else next.Stop stop.NoFiniteValue

-- a step by class comes to what the tests of the class say
class_next : (finite empty : Bool) (none sized : TypeStep) (f : Next) →
    next_of_step none ≡ next.Stop stop.NoFiniteValue → next_of_step sized ≡ f →
    next_of_step (by_class (class_from finite empty) none sized) ≡ by_tests finite empty f
class_next false empty none sized f e h = e
class_next true true none sized f e h = refl
class_next true false none sized f e h = h

-- the elements of a sequence are left out where they take no bytes
sequence_next : (finite empty byte : Bool) (t : ℕ) → (empty ≡ true → finite ≡ true) →
    next_of_step (sequence_step (class_from finite empty) byte t) ≡ sequence_form empty byte
sequence_next true true byte t h = refl
sequence_next true false true t h = refl
sequence_next true false false t h = refl
sequence_next false false true t h = refl
sequence_next false false false t h = refl
sequence_next false true byte t h = let no = h refl in absurd cc

-- an array of u8 is a run of bytes
array_next : (byte : Bool) (n t : ℕ) → next_of_step (array_step byte n t) ≡ array_form n byte
array_next true n t = refl
array_next false n t = refl

-- a compact has the class that its target says
compact_tests : (finite empty unit : Bool) (f : Next) →
    class_from finite empty ≡ (if unit then class.Empty else class.Sized) →
    (if unit then next.Wants form.Empty else f) ≡ by_tests finite empty f
compact_tests true true true f e = refl
compact_tests true false false f e = refl
compact_tests true true false f e = absurd cc
compact_tests true false true f e = absurd cc
compact_tests false empty true f e = absurd cc
compact_tests false empty false f e = absurd cc

-- the step of a type says what comes next
step_next : (r : List TypeInfo) (t : ℕ) (d : TypeDef) (s : TypeStep) → shape r t ≡ Some d →
    IsStep r (references_of r) (λ from count arms. Unit {0}) (class_of r t) d s →
    next_of_step s ≡ next_at r t
step_next r t (Def.Composite fs) s e h =
    rw (h.2, e) (class_next (is_finite r t) (is_empty r t) step.NoValue (step.Parts h.0 h.1)
    (next.Wants form.Fields) refl refl)
step_next r t (Def.Tuple ts) s e h =
    rw (h.2, e) (class_next (is_finite r t) (is_empty r t) step.NoValue (step.Parts h.0 h.1)
    (next.Wants form.Fields) refl refl)
step_next r t (Def.Variant arms) s e h =
    rw (h.2, e) (class_next (is_finite r t) (is_empty r t) (step.NoArm h.0 h.1) (step.Arms h.0 h.1)
    (next.Wants form.Arm) refl refl)
step_next r t (Def.Sequence u) s e h =
    let byte = is_byte (shape r u.0) in
    let below = sequence_next (is_finite r u.0) (is_empty r u.0) byte u.0 (empty_finite r u.0) in
    rw (h, e) (class_next (is_finite r t) (is_empty r t) step.NoValue
    (sequence_step (class_of r u.0) byte u.0) (sequence_form (is_empty r u.0) byte) refl below)
step_next r t (Def.Array n u) s e h =
    let byte = is_byte (shape r u.0) in
    rw (h, e) (class_next (is_finite r t) (is_empty r t) step.NoValue (array_step byte n u.0)
    (array_form n byte) refl (array_next byte n u.0))
step_next r t (Def.Primitive p) s e h =
    rw (h, e) (class_next (is_finite r t) (is_empty r t) step.NoValue (step.Primitive p)
    (next.Wants (form.Primitive p)) refl refl)
step_next r t (Def.Compact u) s e h =
    rw (h, e) (compact_tests (is_finite r t) (is_empty r t) (is_unit (target_of r u.0))
    (compact_form (target_of r u.0)) (class_stable r t (Def.Compact u) e))
step_next r t (Def.BitSequence store order form) s e h =
    rw (h, e) (class_next (is_finite r t) (is_empty r t) step.NoValue (step.BitSequence form)
    (bits_form form) refl refl)

-- where there is a step, it says what comes next
pub some_next : (r : List TypeInfo) (t : ℕ) (o : Option TypeStep) (s : TypeStep) → IsStepAt r t o →
    o ≡ Some s → next_of_step s ≡ next_at r t
some_next r t o s h f = go (shape r t) refl where
  go : (x : Option TypeDef) → shape r t ≡ x → next_of_step s ≡ next_at r t
  go None e = let none = rw (IsStepAt, e) at h in absurd cc
  go (Some d) e =
      let x = rw (IsStepAt, e) at h in
      let is = x.1 in
      let same : s ≡ x.0 = cc in
      rw same (step_next r t d x.0 e x.2)

-- where there is no step, there is no value
pub none_next : (r : List TypeInfo) (t : ℕ) (o : Option TypeStep) → IsStepAt r t o → o ≡ None →
    next.Stop stop.NoFiniteValue ≡ next_at r t
none_next r t o h f = go (shape r t) refl where
  go : (x : Option TypeDef) → shape r t ≡ x → next.Stop stop.NoFiniteValue ≡ next_at r t
  go None e = rw (shapeless r (length r) t e) refl
  go (Some d) e =
      let x = rw (IsStepAt, e) at h in
      let is = x.1 in
      absurd cc

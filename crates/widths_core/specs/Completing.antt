-- How the step of a type is completed in place as the type and its parts settle.
use Rattle.std.specs.Prelude.{◌≡◌, ℕ, List, length, Bool, true, false, Option, Some, None}
use Rattle.std.specs.Prelude.{slice_get}
use Rattle.std.specs.Prelude.{slice_set, slice_index_or, if◌then◌else◌}
use Rattle.scale_core.specs.declared.compact.Target.{Target}
use Rattle.types_core.specs.declared.primitive.Primitive.TheVariants as P
use Rattle.widths_core.specs.declared.class.Class.{Class}
use Rattle.widths_core.specs.declared.class.Class.TheVariants as class
use Rattle.widths_core.specs.declared.counter.Kind.{Kind}
use Rattle.widths_core.specs.declared.counter.Kind.TheVariants as kind
use Rattle.widths_core.specs.declared.type_step.TypeStep.{TypeStep}
use Rattle.widths_core.specs.declared.type_step.TypeStep.TheVariants as step
use Rattle.widths_core.specs.ClassTables.{has_value, known_class}

-- the new step of a type that settles with this class, if it changes
abbrev pub empty_step : Class → Option TypeStep
empty_step class.NoValue = None
empty_step class.Empty = Some step.Empty
empty_step class.Sized = None

-- the new step of a sequence with elements of this class, if it changes; `byte` says whether they
-- are u8 itself
abbrev pub element_step : Class → Bool → Option TypeStep
element_step class.NoValue byte = if byte then Some step.Bytes else None
element_step class.Empty byte = Some step.Count
element_step class.Sized byte = if byte then Some step.Bytes else None

-- the step of an array of u8, if this is the step of an array
abbrev pub of_bytes : TypeStep → Option TypeStep
of_bytes (step.Array n t) = Some (step.ByteArray n)
of_bytes _ = None

-- whether this is the step of u8 itself
abbrev pub is_byte_step : TypeStep → Bool
is_byte_step (step.Primitive P.U8) = true
is_byte_step _ = false

-- the step of a type that turns out to have no value
abbrev pub without_value : TypeStep → TypeStep
without_value (step.Arms from count) = step.NoArm from count
without_value _ = step.NoValue

-- the new step of an array that settles with this class, if it changes
abbrev pub array_settled : Class → Bool → TypeStep → Option TypeStep
array_settled class.NoValue byte s = None
array_settled class.Empty byte s = Some step.Empty
array_settled class.Sized byte s = if byte then of_bytes s else None

-- the new step of an owner that settles with this class, if it changes; `last` is the target of a
-- compact over its last part, and `byte` says whether that part is u8 itself
abbrev pub settled_step : Kind → Class → Option Target → Bool → TypeStep → Option TypeStep
settled_step kind.Idle c last byte s = empty_step c
settled_step kind.Parts c last byte s = empty_step c
settled_step kind.Wrap c last byte s = empty_step c
settled_step kind.Compact c last byte s = Some (step.Compact last)
settled_step kind.Array c last byte s = array_settled c byte s
settled_step kind.Sequence c last byte s = empty_step c
settled_step (kind.Fixed f) c last byte s = empty_step c

-- the new step of an owner whose element has settled with this class, if it changes
abbrev pub told_step : Kind → Class → Bool → Option TypeStep
told_step kind.Sequence c byte = element_step c byte
told_step _ c byte = None

-- the steps with this one, if there is one, at place t
abbrev pub written : List TypeStep → ℕ → Option TypeStep → List TypeStep
written xs t None = xs
written xs t (Some s) = slice_set xs t s

abbrev pub step_at : List TypeStep → ℕ → TypeStep
step_at xs t = slice_index_or xs t step.NoValue

-- the final step of a type of this class
abbrev pub final_step : Class → TypeStep → TypeStep
final_step c s = if has_value c then s else without_value s

-- ys are the final steps of all types
pub record FinishesSteps (classes : List Class) (xs ys : List TypeStep) : Type 0 where
  pub count : length ys ≡ length xs
  pub at : (t : ℕ) (s : TypeStep) → slice_get xs t ≡ Some s →
      slice_get ys t ≡ Some (final_step (known_class classes t) s)

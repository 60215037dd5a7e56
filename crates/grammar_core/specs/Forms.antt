-- Which form a value of a type has, or why there is none: the first rule that applies (SCALE codec,
-- "Types"; the order of the reasons is this project's).
use Rattle.std.specs.Prelude.{ℕ, List, Bool, Option, Some, None, if◌then◌else◌}
use Rattle.scale_core.specs.declared.compact.Target.{Target}
use Rattle.types_core.specs.declared.bits.BitForm.{BitForm}
use Rattle.types_core.specs.declared.definition.TypeDef.{TypeDef}
use Rattle.types_core.specs.declared.definition.TypeDef.TheVariants as Def
use Rattle.types_core.specs.declared.type_info.TypeInfo.{TypeInfo}
use Rattle.graph_core.specs.Types.{shape}
use Rattle.widths_core.specs.Targets.{target_of}
use Rattle.widths_core.specs.Layouts.{is_byte}
use Rattle.widths_core.specs.Classes.{is_finite, is_empty, is_unit}
use Rattle.widths_core.specs.declared.type_step.TypeStep.{TypeStep}
use Rattle.widths_core.specs.declared.type_step.TypeStep.TheVariants as step
use Rattle.grammar_core.specs.declared.form.Form.TheVariants as form
use Rattle.grammar_core.specs.declared.form.StopReason.TheVariants as stop
use Rattle.grammar_core.specs.declared.form.Next.{Next}
use Rattle.grammar_core.specs.declared.form.Next.TheVariants as next

-- a sequence of elements that take no bytes is only its length, and a sequence of u8 is a run of
-- bytes
abbrev pub sequence_form : Bool → Bool → Next
sequence_form empty byte =
    next.Wants (if empty then form.Count else (if byte then form.Bytes else form.Sequence))

-- an array of u8 is a run of bytes
abbrev pub array_form : ℕ → Bool → Next
array_form n byte = next.Wants (if byte then form.ByteArray n else form.Array n)

abbrev pub compact_form : Option Target → Next
compact_form (Some m) = next.Wants (form.Compact m)
compact_form None = next.Stop stop.BadCompact

-- a bit sequence is read where it is allowed and its words are known
abbrev pub bits_form : Option BitForm → Next
bits_form (Some bits) = next.Wants (form.Bits bits)
bits_form None = next.Stop stop.BitSequence

-- the form of a type that takes bytes, by its definition; an unknown type has no value
abbrev pub form_of_shape : List TypeInfo → Option TypeDef → Next
form_of_shape r None = next.Stop stop.NoFiniteValue
form_of_shape r (Some (Def.Composite fs)) = next.Wants form.Fields
form_of_shape r (Some (Def.Variant arms)) = next.Wants form.Arm
form_of_shape r (Some (Def.Sequence t)) = sequence_form (is_empty r t.0) (is_byte (shape r t.0))
form_of_shape r (Some (Def.Array n t)) = array_form n (is_byte (shape r t.0))
form_of_shape r (Some (Def.Tuple ts)) = next.Wants form.Fields
form_of_shape r (Some (Def.Primitive p)) = next.Wants (form.Primitive p)
form_of_shape r (Some (Def.Compact t)) = compact_form (target_of r t.0)
form_of_shape r (Some (Def.BitSequence store order bits)) = bits_form bits

abbrev pub sized_form : List TypeInfo → ℕ → Next
sized_form r t = form_of_shape r (shape r t)

-- the form of a finite type: empty if it takes no bytes, and otherwise by its definition
abbrev pub form_of : List TypeInfo → ℕ → Next
form_of r t = if is_empty r t then next.Wants form.Empty else sized_form r t

-- what comes next for a value of type t, within the depth limit
abbrev pub next_at : List TypeInfo → ℕ → Next
next_at r t = if is_finite r t then form_of r t else next.Stop stop.NoFiniteValue

-- a compact whose target is the unit takes no bytes
abbrev pub compact_next : Option Target → Next
compact_next over = if is_unit over then next.Wants form.Empty else compact_form over

-- what comes next for a value of a type with this step, within the depth limit
abbrev pub next_of_step : TypeStep → Next
next_of_step (step.Compact over) = compact_next over
next_of_step (step.NoArm from count) = next.Stop stop.NoFiniteValue
next_of_step step.NoValue = next.Stop stop.NoFiniteValue
next_of_step step.Empty = next.Wants form.Empty
next_of_step (step.Primitive p) = next.Wants (form.Primitive p)
next_of_step (step.Parts from count) = next.Wants form.Fields
next_of_step (step.Arms from count) = next.Wants form.Arm
next_of_step (step.Array n t) = next.Wants (form.Array n)
next_of_step (step.ByteArray n) = next.Wants (form.ByteArray n)
next_of_step (step.Sequence t) = next.Wants form.Sequence
next_of_step step.Bytes = next.Wants form.Bytes
next_of_step step.Count = next.Wants form.Count
next_of_step (step.BitSequence bits) = bits_form bits

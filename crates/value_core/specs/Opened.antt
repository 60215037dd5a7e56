-- The parts that the next node opens, by the layout of its type.
use Rattle.std.specs.Prelude.{◌≡◌, ◌⊎◌, ℕ, List, Option, Some, None, option_map}
use Rattle.types_core.specs.declared.definition.Arm.{Arm}
use Rattle.types_core.specs.declared.definition.TypeDef.{TypeDef}
use Rattle.types_core.specs.declared.type_info.TypeInfo.{TypeInfo}
use Rattle.widths_core.specs.Arms.{arm_of}
use Rattle.widths_core.specs.Layouts.{layout}
use Rattle.widths_core.specs.Layouts as layout
use Rattle.graph_core.specs.Types.{shape, field_types}
use Rattle.grammar_core.specs.Parts.{Part, each, times}
use Rattle.grammar_core.specs.declared.form.Form.TheVariants as form
use Rattle.grammar_core.specs.declared.form.Next.TheVariants as next
use Rattle.value_core.specs.Walked.{Walked, next_of, next_type}

abbrev pub shape_at : List TypeInfo → Option ℕ → Option TypeDef
shape_at r (Some t) = shape r t
shape_at r None = None

-- the definition of the next type
abbrev pub next_shape : Walked → Option TypeDef
next_shape w = shape_at w.types (next_type w)

-- the part is a value of each field or member of the next type
pub record OpensFields (w : Walked) (part : Part) : Type 0 where
  pub ty : ℕ
  pub next : next_type w ≡ Some ty
  pub members : List ℕ
  pub laid : layout w.types ty ≡ layout.fields members
  pub part_is : part ≡ each members

-- the first arm with this index, if any: its position, and a value of each of its fields
pub record OpensArm (w : Walked) (index : ℕ) (found : Option (ℕ × Part)) : Type 0 where
  pub ty : ℕ
  pub next : next_type w ≡ Some ty
  pub arms : List Arm
  pub laid : layout w.types ty ≡ layout.arms arms
  pub found_is : found ≡ option_map (λ x. (x.0, each (field_types x.1.fields))) (arm_of arms index)

-- an array of this length or a sequence is next
abbrev pub IsListNext : Walked → ℕ → Type 0
IsListNext w n = (next_of w ≡ next.Wants (form.Array n)) ⊎ (next_of w ≡ next.Wants form.Sequence)

-- `count` elements of the next type, which is an array of this length or a sequence
pub record OpensElements (w : Walked) (count : ℕ) (part : Part) : Type 0 where
  pub ty : ℕ
  pub next : next_type w ≡ Some ty
  pub element : ℕ
  pub laid : (layout w.types ty ≡ layout.array count element)
      ⊎ (layout w.types ty ≡ layout.sequence element)
  pub part_is : part ≡ times count element

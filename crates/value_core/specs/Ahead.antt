-- What a walk knows about the type that is next.
use Rattle.std.specs.Prelude.{◌≡◌, ℕ, List, Some, None}
use Rattle.types_core.specs.declared.type_info.TypeInfo.{TypeInfo}
use Rattle.graph_core.specs.Types.{shape}
use Rattle.widths_core.specs.Classes.{class_of}
use Rattle.widths_core.specs.Steps.{IsStep, references_of}
use Rattle.widths_core.specs.declared.type_step.TypeStep.{TypeStep}
use Rattle.widths_core.specs.declared.type_step.TypeStep.TheVariants as step
use Rattle.node_core.specs.Remaining.{copies_of, members_of}
use Rattle.node_core.specs.declared.remaining.Remaining.{Remaining}

-- s is the step of type t, which is `NoValue` if the type is unknown
abbrev pub IsStepOf : List TypeInfo → ℕ → TypeStep → Type 0
IsStepOf r t s = elim (shape r t) [
  | Some d ↦ IsStep r (references_of r) (λ from count arms. Unit {0}) (class_of r t) d s
  | None ↦
      s ≡ step.NoValue
]

-- the parts of a composite or a tuple with this step
abbrev pub members_in : TypeStep → Remaining
members_in (step.Parts from count) = members_of from count
members_in _ = copies_of 0 0

-- `count` elements of an array or a sequence with this step
abbrev pub elements_in : TypeStep → ℕ → Remaining
elements_in (step.Array n t) count = copies_of count t
elements_in (step.Sequence t) count = copies_of count t
elements_in _ count = copies_of 0 0

-- What holds of the counters and tables after some references were propagated.
use Rattle.std.specs.Prelude.{◌≡◌, ℕ, ◌+◌, ◌<◌, List, [], ◌∷◌, length, Bool, true, false, Some}
use Rattle.std.specs.Prelude.{None, slice_get}
use Rattle.std.specs.Prelude.{◌&&◌, ◌==◌, slice_index, slice_index_or, if◌then◌else◌}
use Rattle.std.specs.List.{list_any}
use Rattle.types_core.specs.declared.definition.TypeDef.{TypeDef}
use Rattle.types_core.specs.declared.definition.TypeDef.TheVariants as Def
use Rattle.types_core.specs.declared.type_info.TypeInfo.{TypeInfo}
use Rattle.graph_core.specs.Types.{shape}
use Rattle.widths_core.specs.declared.class.Class.{Class}
use Rattle.widths_core.specs.declared.counter.Kind.{Kind}
use Rattle.widths_core.specs.declared.counter.Kind.TheVariants as kind
use Rattle.widths_core.specs.declared.type_step.TypeStep.{TypeStep}
use Rattle.widths_core.specs.declared.type_step.TypeStep.TheVariants as step
use Rattle.widths_core.specs.Targets.{target_of}
use Rattle.widths_core.specs.Classes.{class_of}
use Rattle.widths_core.specs.ClassTables.{known_class, known_target, has_value}
use Rattle.graph_core.specs.Counts.{times}
use Rattle.widths_core.specs.Rules.{Rule, rule, rules, all_parts, numbers_from}
use Rattle.widths_core.specs.Layouts.{is_byte}
use Rattle.widths_core.specs.Progress.{Progress, counter_at, is_sized}
use Rattle.widths_core.specs.Rows.{IsPaired}
use Rattle.widths_core.specs.Steps.{references_of, IsDraft, IsRow, by_class, array_step}
use Rattle.widths_core.specs.Steps.{sequence_step}

abbrev pub nothing : Rule
nothing = rule 0 kind.Idle []

-- rule k of a registry
abbrev pub rule_at : List TypeInfo → ℕ → Rule
rule_at r k = slice_index_or (rules r) k nothing

-- the type that reference e of a registry refers to
abbrev pub to_at : List TypeInfo → ℕ → ℕ
to_at r e = slice_index (all_parts (rules r)) e

-- the number of the rule that has reference e among its parts
abbrev pub rule_number : List TypeInfo → ℕ → ℕ
rule_number r e = slice_index (numbers_from 0 (rules r)) e

-- how many of the references from e on, with these rule numbers, belong to rule k and were not
-- propagated
abbrev pub waiting : ℕ → List ℕ → ℕ → List ℕ → ℕ
waiting e [] k propagated = 0
waiting e (x ∷ xs) k propagated =
    (if (x == k) && (times e propagated == 0) then 1 else 0) + waiting (e + 1) xs k propagated

-- how many types have not settled
abbrev pub unsettled : List Class → ℕ
unsettled [] = 0
unsettled (c ∷ cs) = (if has_value c then 0 else 1) + unsettled cs

-- whether type t has settled
abbrev pub has_settled : Progress → ℕ → Bool
has_settled s t = has_value (known_class s.classes t)

-- whether a counter of this kind settles its owner
abbrev pub settles : Kind → Bool
settles kind.Idle = false
settles kind.Parts = true
settles kind.Wrap = true
settles kind.Compact = true
settles kind.Array = true
settles kind.Sequence = false
settles (kind.Fixed f) = true

-- whether a counter of this kind updates its owner's step when the element settles
abbrev pub tells : Kind → Bool
tells kind.Sequence = true
tells _ = false

-- whether one of these references updated the step of type t when its element settled
abbrev pub told : List TypeInfo → List ℕ → ℕ → Bool
told r propagated t = list_any (λ e. ((rule_at r (rule_number r e)).owner == t)
    && tells (rule_at r (rule_number r e)).kind) propagated

-- the current step of a type of this shape, by its class so far and by whether its element has
-- updated the step; at first it was x
abbrev pub so_far : List TypeInfo → Class → Bool → TypeDef → TypeStep → TypeStep
so_far r c known (Def.Composite fs) x = by_class c x x
so_far r c known (Def.Variant arms) x = by_class c x x
so_far r c known (Def.Sequence u) x =
    if known then sequence_step (class_of r u.0) (is_byte (shape r u.0)) u.0 else x
so_far r c known (Def.Array n u) x = by_class c x (array_step (is_byte (shape r u.0)) n u.0)
so_far r c known (Def.Tuple ts) x = by_class c x x
so_far r c known (Def.Primitive p) x = by_class c x x
so_far r c known (Def.Compact u) x = if has_value c then step.Compact (target_of r u.0) else x
so_far r c known (Def.BitSequence store order form) x = by_class c x x

-- the step of type t, whose definition is d, follows from what has settled so far
abbrev pub IsStepSoFar : List TypeInfo → List ℕ → Progress → ℕ → TypeDef → Type 0
IsStepSoFar r propagated s t d = (x : TypeStep)
    × IsDraft (references_of r) (IsRow (references_of r) s.rows) d x
    × (slice_get s.steps t
    ≡ Some (so_far r (known_class s.classes t) (told r propagated t) d x))

-- the counters count the references that were not propagated, and what was found for the settled
-- types is right
pub record IsConsistent (r : List TypeInfo) (propagated : List ℕ) (s : Progress) : Type 0 where
  pub classes : length s.classes ≡ length r
  pub targets : length s.targets ≡ length r
  pub counters : length s.counters ≡ length (rules r)
  pub owner : (k : ℕ) → (counter_at s k).owner ≡ (rule_at r k).owner
  pub kind : (k : ℕ) → (counter_at s k).kind ≡ (rule_at r k).kind
  pub left : (k : ℕ) → (counter_at s k).left ≡ waiting 0 (numbers_from 0 (rules r)) k propagated
  pub sized : (k : ℕ) → (counter_at s k).sized
      ≡ list_any (λ e. (rule_number r e == k) && is_sized (class_of r (to_at r e))) propagated
  pub known : (e : ℕ) → 0 < times e propagated → e < length (all_parts (rules r))
  pub part_settled : (e : ℕ) → 0 < times e propagated → has_settled s (to_at r e) ≡ true
  pub right : (t : ℕ) → has_settled s t ≡ true → (known_class s.classes t ≡ class_of r t)
      × (known_target s.targets t ≡ target_of r t)
  pub unset : (t : ℕ) → has_settled s t ≡ false → known_target s.targets t ≡ None
  pub queue : (t : ℕ) → times t s.settled ≡ (if has_settled s t then 1 else 0)
  pub room : unsettled s.classes + length s.settled ≡ length r
  pub paired : IsPaired s.rows
  pub steps : length s.steps ≡ length r
  pub step : (t : ℕ) (d : TypeDef) → shape r t ≡ Some d → IsStepSoFar r propagated s t d

-- the owner of a counter has settled if all parts of the counter have
pub record IsClosed (r : List TypeInfo) (s : Progress) : Type 0 where
  pub at : (k : ℕ) → settles (rule_at r k).kind ≡ true → (counter_at s k).left ≡ 0 →
      has_settled s (rule_at r k).owner ≡ true

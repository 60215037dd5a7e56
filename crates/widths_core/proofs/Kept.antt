-- Parts, rows and steps stay what they are while references and arms come after them.
use Rattle.std.proofs.Common.{ℕ, ◌≤◌, List, ◌++◌, length, take, drop, Option, Some, None, refl}
use Rattle.std.proofs.Common.{ap, ◌∙◌, arith}
use Rattle.std.proofs.lemmas.List.{length-append, length-drop, drop-append-le, take-append-le}
use Rattle.types_core.specs.declared.definition.Arm.{Arm}
use Rattle.types_core.specs.declared.definition.TypeDef.{TypeDef}
use Rattle.types_core.specs.declared.definition.TypeDef.TheVariants as Def
use Rattle.widths_core.specs.declared.rows.Rows.{Rows}
use Rattle.widths_core.specs.declared.type_step.ArmStep.{ArmStep}
use Rattle.widths_core.specs.declared.type_step.TypeStep.{TypeStep}
use Rattle.graph_core.specs.Types.{ids, field_types}
use Rattle.widths_core.specs.Arms.{arm_of}
use Rattle.widths_core.specs.Rows.{Keeps, arm_at_place, index_in}
use Rattle.widths_core.specs.Steps.{AreParts, IsArm, IsRow, IsDraft}

-- ---- parts

-- a piece of the references stays that piece where more come after them
pub parts_kept : (xs ys : List ℕ) (from count : ℕ) (ts : List ℕ) → AreParts xs from count ts →
    AreParts (xs ++ ys) from count ts
parts_kept xs ys from count ts h =
    let left : from ≤ length xs = omega (arith, h.within) in
    let len : count ≤ length (drop from xs) = omega (arith, h.within, length-drop from xs) in
    record {
      within = omega (arith, h.within, length-append xs ys);
      are = ap (λ (zs : List ℕ). take count zs) (drop-append-le from xs ys left)
          ∙ take-append-le count (drop from xs) ys len ∙ h.are;
    }

-- ---- arms

-- the step of an arm stays right where more references come after
pub arm_kept : (xs ys : List ℕ) (s : Option ArmStep) (x : Option (ℕ × Arm)) → IsArm xs s x →
    IsArm (xs ++ ys) s x
arm_kept xs ys None None h = tt
arm_kept xs ys (Some s) (Some x) h =
    (h.0, parts_kept xs ys s.from s.count (field_types x.1.fields) h.1)
arm_kept xs ys None (Some x) h = absurd h
arm_kept xs ys (Some s) None h = absurd h

-- rows to which nothing happened keep what was there
pub keeps_all : (a : Rows) → Keeps a a
keeps_all a = record { count = omega arith; indexes = λ k lt. refl; arms = λ k lt. refl }

-- a row stays that of its arms where references come after and the rows keep what was there
pub row_kept : (xs ys : List ℕ) (a b : Rows) (from count : ℕ) (arms : List Arm) → Keeps a b →
    IsRow xs a from count arms → IsRow (xs ++ ys) b from count arms
row_kept xs ys a b from count arms k h = record {
  within = omega (arith, h.within, k.count);
  rises = λ i j ge lt end. rw (
    k.indexes i (omega (arith, lt, end, h.within)),
    k.indexes j (omega (arith, end, h.within)),
  ) (h.rises i j ge lt end);
  arm = λ i ge lt. rw (
    k.indexes i (omega (arith, lt, h.within)),
    k.arms i (omega (arith, lt, h.within)),
  )
      (arm_kept xs ys (Some (arm_at_place a i)) (arm_of arms (index_in a i)) (h.arm i ge lt));
  none = λ x lacks. h.none x
      (λ i ge lt is. lacks i ge lt (k.indexes i (omega (arith, lt, h.within)) ∙ is));
}

-- ---- steps

-- a step that is not complete stays that of its type where references come after and the rows keep
-- what was there
pub draft_kept : (xs ys : List ℕ) (a b : Rows) (d : TypeDef) (s : TypeStep) → Keeps a b →
    IsDraft xs (IsRow xs a) d s → IsDraft (xs ++ ys) (IsRow (xs ++ ys) b) d s
draft_kept xs ys a b (Def.Composite fs) s k h =
    (h.0, h.1, h.2, parts_kept xs ys h.0 h.1 (field_types fs) h.3)
draft_kept xs ys a b (Def.Tuple ts) s k h = (h.0, h.1, h.2, parts_kept xs ys h.0 h.1 (ids ts) h.3)
draft_kept xs ys a b (Def.Variant arms) s k h =
    (h.0, h.1, h.2, row_kept xs ys a b h.0 h.1 arms k h.3)
draft_kept xs ys a b (Def.Sequence t) s k h = h
draft_kept xs ys a b (Def.Array n t) s k h = h
draft_kept xs ys a b (Def.Primitive p) s k h = h
draft_kept xs ys a b (Def.Compact t) s k h = h
draft_kept xs ys a b (Def.BitSequence store order form) s k h = h

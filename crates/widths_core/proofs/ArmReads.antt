-- The row that is read is that of the variant, and the arm that is found there is that of the
-- index.
use Rattle.std.proofs.Common.{◌≡◌, ℕ, suc, ◌+◌, Bool, true, false, cond, List, [], ◌∷◌, Option}
use Rattle.std.proofs.Common.{Some, None, refl, sym, ap, ◌∙◌, arith}
use Rattle.std.specs.Prelude.{◌==◌, slice_get}
use Rattle.types_core.specs.declared.definition.Arm.{Arm}
use Rattle.types_core.specs.declared.definition.TypeDef.{TypeDef}
use Rattle.types_core.specs.declared.definition.TypeDef.TheVariants as Def
use Rattle.types_core.specs.declared.type_info.TypeInfo.{TypeInfo}
use Rattle.widths_core.specs.declared.class.Class.{Class}
use Rattle.widths_core.specs.declared.class.Class.TheVariants as class
use Rattle.widths_core.specs.declared.rows.Rows.{Rows}
use Rattle.widths_core.specs.declared.type_step.ArmStep.{ArmStep}
use Rattle.widths_core.specs.declared.type_step.Parts.{Parts}
use Rattle.widths_core.specs.declared.type_step.TypeStep.{TypeStep}
use Rattle.widths_core.specs.declared.type_step.TypeStep.TheVariants as step
use Rattle.graph_core.specs.Types.{shape}
use Rattle.widths_core.specs.Arms.{arm_of, arm_from, arm_of_shape, arm_at}
use Rattle.widths_core.specs.Classes.{class_of}
use Rattle.widths_core.specs.Layouts.{is_byte}
use Rattle.widths_core.specs.Rows.{IsPlace}
use Rattle.widths_core.specs.Steps.{references_of, IsArm, IsRow, IsStep, IsTable, by_class}
use Rattle.widths_core.specs.Steps.{sequence_step, array_step, row_of_step}
use Rattle.widths_core.proofs.Settled.{is_empty_class, is_empty-arms}
use Rattle.widths_core.proofs.Stable.{class_stable}
use Rattle.widths_core.proofs.StepReads.{definition_of}
use Rattle.widths_core.proofs.Wide.{some_is}

-- ---- the row of a step

-- a step that is chosen by a class reports no row where that of a type with bytes reports none
row_by : (c : Class) (sized : TypeStep) → row_of_step sized ≡ None →
    row_of_step (by_class c step.NoValue sized) ≡ None
row_by class.NoValue sized e = refl
row_by class.Empty sized e = refl
row_by class.Sized sized e = e

-- the step of a sequence reports no row of arms
sequence_no_row : (c : Class) (byte : Bool) (t : ℕ) → row_of_step (sequence_step c byte t) ≡ None
sequence_no_row class.NoValue true t = refl
sequence_no_row class.NoValue false t = refl
sequence_no_row class.Empty byte t = refl
sequence_no_row class.Sized true t = refl
sequence_no_row class.Sized false t = refl

-- the step of an array reports no row of arms
array_no_row : (byte : Bool) (n t : ℕ) → row_of_step (array_step byte n t) ≡ None
array_no_row true n t = refl
array_no_row false n t = refl

-- the step of a variant reports its row, with a value or without, where its class is not Empty
variant_row : (c : Class) (from count : ℕ) → is_empty_class c ≡ false →
    row_of_step (by_class c (step.NoArm from count) (step.Arms from count))
    ≡ Some (record { from = from; count = count })
variant_row class.NoValue from count e = refl
variant_row class.Empty from count e = absurd cc
variant_row class.Sized from count e = refl

-- a variant takes bytes or has no value
variant_class : (r : List TypeInfo) (t : ℕ) (arms : List Arm) →
    shape r t ≡ Some (Def.Variant arms) → is_empty_class (class_of r t) ≡ false
variant_class r t arms e = ap is_empty_class (class_stable r t (Def.Variant arms) e)
    ∙ is_empty-arms (class_of r) arms

-- the step of a definition that is no variant has no row
rowless : (r : List TypeInfo) (refs : List ℕ) (Row : ℕ → ℕ → List Arm → Type 0) (c : Class)
    (d : TypeDef) (s : TypeStep) → ((arms : List Arm) → d ≡ Def.Variant arms → ⊥) →
    IsStep r refs Row c d s → row_of_step s ≡ None
rowless r refs Row c (Def.Composite fs) s other h = rw h.2 (row_by c (step.Parts h.0 h.1) refl)
rowless r refs Row c (Def.Tuple ts) s other h = rw h.2 (row_by c (step.Parts h.0 h.1) refl)
rowless r refs Row c (Def.Variant arms) s other h = absurd (other arms refl)
rowless r refs Row c (Def.Sequence u) s other h =
    rw h (row_by c (sequence_step (class_of r u.0) (is_byte (shape r u.0)) u.0)
    (sequence_no_row (class_of r u.0) (is_byte (shape r u.0)) u.0))
rowless r refs Row c (Def.Array n u) s other h =
    rw h (row_by c (array_step (is_byte (shape r u.0)) n u.0)
    (array_no_row (is_byte (shape r u.0)) n u.0))
rowless r refs Row c (Def.Primitive p) s other h = rw h (row_by c (step.Primitive p) refl)
rowless r refs Row c (Def.Compact u) s other h = rw h refl
rowless r refs Row c (Def.BitSequence store order form) s other h =
    rw h (row_by c (step.BitSequence form) refl)

-- a type whose step reports a row is a variant, and the row is that of its arms
row_of : (r : List TypeInfo) (refs : List ℕ) (rows : Rows) (t : ℕ) (d : TypeDef) (s : TypeStep)
    (p : Parts) → shape r t ≡ Some d → IsStep r refs (IsRow refs rows) (class_of r t) d s →
    row_of_step s ≡ Some p → (arms : List Arm) × (d ≡ Def.Variant arms)
    × IsRow refs rows p.from p.count arms
row_of r refs rows t (Def.Composite fs) s p e h f = let no =
    sym (rowless r refs (IsRow refs rows) (class_of r t) (Def.Composite fs) s (λ arms q. absurd cc)
    h) ∙ f in absurd cc
row_of r refs rows t (Def.Tuple ts) s p e h f = let no =
    sym (rowless r refs (IsRow refs rows) (class_of r t) (Def.Tuple ts) s (λ arms q. absurd cc) h)
    ∙ f in absurd cc
row_of r refs rows t (Def.Variant arms) s p e h f =
    let all : Some (record { from = h.0; count = h.1 }) ≡ Some p =
    sym (variant_row (class_of r t) h.0 h.1 (variant_class r t arms e))
    ∙ ap row_of_step (sym h.2) ∙ f in
    let same : record { from = h.0; count = h.1 } ≡ p = cc in
    let from : h.0 ≡ p.from = ap (λ (q : Parts). q.from) same in
    let count : h.1 ≡ p.count = ap (λ (q : Parts). q.count) same in
    (arms, refl, rw (← from, ← count) h.3)
row_of r refs rows t (Def.Sequence u) s p e h f = let no =
    sym (rowless r refs (IsRow refs rows) (class_of r t) (Def.Sequence u) s (λ arms q. absurd cc) h)
    ∙ f in absurd cc
row_of r refs rows t (Def.Array n u) s p e h f = let no =
    sym (rowless r refs (IsRow refs rows) (class_of r t) (Def.Array n u) s (λ arms q. absurd cc) h)
    ∙ f in absurd cc
row_of r refs rows t (Def.Primitive q) s p e h f = let no =
    sym (rowless r refs (IsRow refs rows) (class_of r t) (Def.Primitive q) s (λ arms x. absurd cc)
    h) ∙ f in absurd cc
row_of r refs rows t (Def.Compact u) s p e h f = let no =
    sym (rowless r refs (IsRow refs rows) (class_of r t) (Def.Compact u) s (λ arms q. absurd cc) h)
    ∙ f in absurd cc
row_of r refs rows t (Def.BitSequence store order form) s p e h f = let no =
    sym (rowless r refs (IsRow refs rows) (class_of r t) (Def.BitSequence store order form) s
    (λ arms q. absurd cc) h) ∙ f in absurd cc

-- a type whose step reports no row has no arm, whatever the index
armless : (r : List TypeInfo) (refs : List ℕ) (rows : Rows) (t i : ℕ) (d : TypeDef) (s : TypeStep) →
    shape r t ≡ Some d → IsStep r refs (IsRow refs rows) (class_of r t) d s → row_of_step s ≡ None →
    arm_of_shape (Some d) i ≡ None
armless r refs rows t i (Def.Composite fs) s e h f = refl
armless r refs rows t i (Def.Tuple ts) s e h f = refl
armless r refs rows t i (Def.Variant arms) s e h f = let no =
    sym (variant_row (class_of r t) h.0 h.1 (variant_class r t arms e)) ∙ ap row_of_step (sym h.2)
    ∙ f in absurd cc
armless r refs rows t i (Def.Sequence u) s e h f = refl
armless r refs rows t i (Def.Array n u) s e h f = refl
armless r refs rows t i (Def.Primitive p) s e h f = refl
armless r refs rows t i (Def.Compact u) s e h f = refl
armless r refs rows t i (Def.BitSequence store order form) s e h f = refl

-- the row of a variant
pub row_at : (r : List TypeInfo) (refs : List ℕ) (rows : Rows) (steps : List TypeStep) (t : ℕ)
    (s : TypeStep) (p : Parts) → IsTable r refs rows steps → slice_get steps t ≡ Some s →
    row_of_step s ≡ Some p → (arms : List Arm) × (shape r t ≡ Some (Def.Variant arms))
    × IsRow (references_of r) rows p.from p.count arms
row_at r refs rows steps t s p h e f =
    let d = definition_of r refs rows steps t s h e in
    let row = row_of r (references_of r) rows t d.0 s p d.1 d.2 f in
    (row.0, d.1 ∙ ap (λ (x : TypeDef). Some x) row.1, row.2)

-- where the step that is read reports no row, the type has no arm, whatever the index
pub arm_none : (r : List TypeInfo) (refs : List ℕ) (rows : Rows) (steps : List TypeStep) (t i : ℕ)
    (s : TypeStep) → IsTable r refs rows steps → slice_get steps t ≡ Some s → row_of_step s ≡ None →
    arm_at r t i ≡ None
arm_none r refs rows steps t i s h e f =
    let d = definition_of r refs rows steps t s h e in
    rw d.1 (armless r (references_of r) rows t i d.0 s d.1 d.2 f)

-- ---- the arm

-- what is found in a row is the arm
pub arm_found : (refs : List ℕ) (rows : Rows) (from count index : ℕ) (arms : List Arm)
    (found : Option ArmStep) → IsRow refs rows from count arms →
    IsPlace rows from count index found → IsArm refs found (arm_of arms index)
arm_found refs rows from count index arms None row lacks = rw (row.none index lacks) tt
arm_found refs rows from count index arms (Some s) row is =
    let at = is.1 in
    rw (is.2) (rw at.is at (row.arm is.0 at.above at.below))

-- the arm is at its position
position_of : (k : ℕ) (arms : List Arm) (i q : ℕ) (a : Arm) → arm_from k arms i ≡ Some (q, a) →
    (n : ℕ) × (q ≡ k + n) × (slice_get arms n ≡ Some a)
position_of k [] i q a e = absurd cc
position_of k (x ∷ arms) i q a e = go (x.index == i) e (position_of (k + 1) arms i q a) where
  go : (b : Bool) → cond b (Some (k, x)) (arm_from (k + 1) arms i) ≡ Some (q, a) →
      (arm_from (k + 1) arms i ≡ Some (q, a) → (n : ℕ) × (q ≡ k + 1 + n)
      × (slice_get arms n ≡ Some a)) → (n : ℕ) × (q ≡ k + n) × (slice_get (x ∷ arms) n ≡ Some a)
  go true f more =
      let same = some_is (k, x) (q, a) f in
      (0, omega (arith, ap (λ (p : ℕ × Arm). p.0) same), ap (λ (p : ℕ × Arm). Some p.1) same)
  go false f more = let s = more f in (suc s.0, omega (arith, s.1), s.2)

-- the arm that is found for an index stands among the arms at the position that is reported
pub arm_position : (arms : List Arm) (i q : ℕ) (a : Arm) → arm_of arms i ≡ Some (q, a) →
    slice_get arms q ≡ Some a
arm_position arms i q a e = let s = position_of 0 arms i q a e in let at : q ≡ s.0 =
    omega (arith, s.1) in rw at s.2

-- where the step of an arm is right, there is such an arm, at the position that the step reports
arm_known : (refs : List ℕ) (s : ArmStep) (x : Option (ℕ × Arm)) → IsArm refs (Some s) x → (a : Arm)
    × (x ≡ Some (s.position, a))
arm_known refs s None h = absurd h
arm_known refs s (Some p) h = (p.1, ap (λ (q : ℕ). Some (q, p.1)) (sym h.0))

-- the step of an arm reports the position at which this arm stands among the arms of its variant
pub arm_read : (r : List TypeInfo) (refs : List ℕ) (t i : ℕ) (s : ArmStep) (arms : List Arm) →
    shape r t ≡ Some (Def.Variant arms) → IsArm refs (Some s) (arm_at r t i) → (a : Arm)
    × (arm_at r t i ≡ Some (s.position, a)) × (slice_get arms s.position ≡ Some a)
arm_read r refs t i s arms e h =
    let a = arm_known refs s (arm_at r t i) h in
    let of_shape : arm_of arms i ≡ Some (s.position, a.0) =
    ap (λ (o : Option TypeDef). arm_of_shape o i) (sym e) ∙ a.1 in
    (a.0, a.1, arm_position arms i s.position a.0 of_shape)

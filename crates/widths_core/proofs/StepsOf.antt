-- When nothing more settles, the steps are the table of the registry.
use Rattle.std.proofs.Common.{◌≡◌, ℕ, zero, suc, ◌+◌, ◌<◌, ◌≤◌, Bool, true, false, cond, List, []}
use Rattle.std.proofs.Common.{◌∷◌}
use Rattle.std.proofs.Common.{length, get_or, set, Option, Some, None, refl, sym, ap, ◌∙◌, arith}
use Rattle.std.proofs.Common.{inl, inr}
use Rattle.std.specs.Prelude.{◌==◌, ◌&&◌, ◌||◌, slice_get}
use Rattle.std.specs.List.{AllByRecursion, list_all, list_any}
use Rattle.std.proofs.lemmas.Bool.{eq-eqb, cases_lt, cases_eq}
use Rattle.std.proofs.lemmas.Option.{slice_get_within}
use Rattle.types_core.specs.declared.definition.Arm.{Arm}
use Rattle.types_core.specs.declared.definition.TypeDef.{TypeDef}
use Rattle.types_core.specs.declared.definition.TypeDef.TheVariants as Def
use Rattle.types_core.specs.declared.type_info.TypeInfo.{TypeInfo}
use Rattle.widths_core.specs.declared.class.Class.{Class}
use Rattle.widths_core.specs.declared.class.Class.TheVariants as class
use Rattle.widths_core.specs.declared.counter.Kind.TheVariants as kind
use Rattle.widths_core.specs.declared.type_step.TypeStep.{TypeStep}
use Rattle.widths_core.specs.declared.type_step.TypeStep.TheVariants as step
use Rattle.graph_core.specs.declared.graph.Graph.{Graph}
use Rattle.graph_core.specs.Counts.{times}
use Rattle.graph_core.specs.Types.{shape}
use Rattle.widths_core.specs.Targets.{target_of}
use Rattle.widths_core.specs.Classes.{class_of}
use Rattle.widths_core.specs.ClassTables.{has_value, known_class}
use Rattle.widths_core.specs.Completing.{final_step, without_value, FinishesSteps}
use Rattle.widths_core.specs.Consistent.{rule_at, rule_number, to_at, has_settled, so_far, tells}
use Rattle.widths_core.specs.Consistent.{nothing, told}
use Rattle.widths_core.specs.Layouts.{is_byte}
use Rattle.widths_core.specs.Progress.{Progress}
use Rattle.widths_core.specs.Propagation.{PropagatesAll, AreCompactsSettled}
use Rattle.widths_core.specs.Rules.{Rule, rules, all_parts, rules_of}
use Rattle.widths_core.specs.Steps.{references_of, IsRow, IsDraft, IsStep, IsTable, by_class}
use Rattle.widths_core.specs.Steps.{array_step}
use Rattle.widths_core.proofs.Complete.{all_from, classes_reported, propagated_if, rules_at}
use Rattle.widths_core.proofs.Settles.{no_value, compact-value}
use Rattle.widths_core.proofs.Stable.{class_stable}
use Rattle.widths_core.proofs.Waiting.{parts_all, parts_each, times-other}
use Rattle.widths_core.proofs.StepsSoFar.{set_same}

-- ---- the types that have not settled

-- a step that is put at a place leaves the others
pub finish_other : (xs : List TypeStep) (i t : ℕ) (s : TypeStep) → (t ≡ i → ⊥) →
    slice_get (set xs i s) t ≡ slice_get xs t
finish_other [] i t s ne = refl
finish_other (x ∷ xs) zero zero s ne = absurd (ne refl)
finish_other (x ∷ xs) zero (suc t) s ne = refl
finish_other (x ∷ xs) (suc i) zero s ne = refl
finish_other (x ∷ xs) (suc i) (suc t) s ne = finish_other xs i t s (λ e. ne (ap suc e))

-- a place within the table has a step, the one that reading with a default gives
pub get_at : (xs : List TypeStep) (t : ℕ) (d : TypeStep) → t < length xs →
    slice_get xs t ≡ Some (get_or xs t d)
get_at [] t d lt = absurd (omega (arith, lt))
get_at (x ∷ xs) zero d lt = refl
get_at (x ∷ xs) (suc t) d lt = get_at xs t d (omega (arith, lt))

-- the first i types are finished
pub record FinishesTo (classes : List Class) (xs ys : List TypeStep) (i : ℕ) : Type 0 where
  pub count : length ys ≡ length xs
  pub done : (t : ℕ) (s : TypeStep) → t < i → slice_get xs t ≡ Some s →
      slice_get ys t ≡ Some (final_step (known_class classes t) s)
  pub left : (t : ℕ) → i ≤ t → slice_get ys t ≡ slice_get xs t

-- one more type has settled, and its step stays
pub finishes_kept : (classes : List Class) (xs ys : List TypeStep) (i : ℕ) →
    FinishesTo classes xs ys i → has_value (known_class classes i) ≡ true →
    FinishesTo classes xs ys (i + 1)
finishes_kept classes xs ys i h v = record {
  count = h.count;
  done = λ t s lt e. elim (cases_lt t i) [
    | inl below ↦ h.done t s below e
    | inr ge ↦ let same : t ≡ i = omega (arith, lt, ge) in
        rw (same, v) (rw same at (h.left t ge ∙ e))
  ];
  left = λ t le. h.left t (omega (arith, le));
}

-- one more type has not settled, and its step says so
pub finishes_changed : (classes : List Class) (xs ys zs : List TypeStep) (i : ℕ) (s : TypeStep) →
    FinishesTo classes xs ys i → has_value (known_class classes i) ≡ false →
    slice_get ys i ≡ Some s → zs ≡ set ys i (without_value s) → length zs ≡ length ys →
    FinishesTo classes xs zs (i + 1)
finishes_changed classes xs ys zs i s h v at is len = record {
  count = len ∙ h.count;
  done = λ t y lt e. elim (cases_lt t i) [
    | inl below ↦ rw is (finish_other ys i t (without_value s) (λ same. absurd (omega (
      arith,
      same,
      below,
    ))) ∙ h.done t y below e)
    | inr ge ↦
        let same : t ≡ i = omega (arith, lt, ge) in
        let there : Some s ≡ Some y = sym at ∙ ap (λ (u : ℕ). slice_get ys u) (sym same)
        ∙ h.left t ge ∙ e in
        let one : s ≡ y = cc in
        rw (is, same, v, ← one) (set_same ys i (without_value s) s at)
  ];
  left = λ t le. rw is (finish_other ys i t (without_value s)
      (λ same. absurd (omega (arith, same, le))) ∙ h.left t (omega (arith, le)));
}

-- all types are finished
pub finishes_all : (classes : List Class) (xs ys : List TypeStep) (i : ℕ) → length xs ≤ i →
    FinishesTo classes xs ys i → FinishesSteps classes xs ys
finishes_all classes xs ys i le h = record {
  count = h.count;
  at = λ t s e. h.done t s (let lt = slice_get_within xs t s e in omega (arith, lt, le)) e;
}

-- ---- elements

-- u8 takes bytes
byte_sized : (r : List TypeInfo) (u : ℕ) (o : Option TypeDef) → shape r u ≡ o → is_byte o ≡ true →
    class_of r u ≡ class.Sized
byte_sized r u None e f = absurd cc
byte_sized r u (Some (Def.Primitive p)) e f = class_stable r u (Def.Primitive p) e
byte_sized r u (Some (Def.Composite fs)) e f = absurd cc
byte_sized r u (Some (Def.Variant arms)) e f = absurd cc
byte_sized r u (Some (Def.Sequence t)) e f = absurd cc
byte_sized r u (Some (Def.Array n t)) e f = absurd cc
byte_sized r u (Some (Def.Tuple ts)) e f = absurd cc
byte_sized r u (Some (Def.Compact t)) e f = absurd cc
byte_sized r u (Some (Def.BitSequence s x form)) e f = absurd cc

-- a type without a value is not u8
not_byte : (r : List TypeInfo) (u : ℕ) → class_of r u ≡ class.NoValue →
    is_byte (shape r u) ≡ false
not_byte r u e = go (is_byte (shape r u)) refl where
  go : (b : Bool) → is_byte (shape r u) ≡ b → is_byte (shape r u) ≡ false
  go false f = f
  go true f = let no = sym e ∙ byte_sized r u (shape r u) refl f in absurd cc

-- the rule of a sequence's element, where it has settled, told the step of it
pub record TellsOwner (r : List TypeInfo) (log : List ℕ) (f : ℕ → Bool) (x : Rule) : Type 0 where
  pub at : x.kind ≡ kind.Sequence → list_all f x.parts ≡ true → (u : ℕ) → x.parts ≡ u ∷ [] →
      told r log x.owner ≡ true

-- a reference that was looked at is in the log
any_logged : (test : ℕ → Bool) (log : List ℕ) (e : ℕ) → 0 < times e log → test e ≡ true →
    list_any test log ≡ true
any_logged test [] e more h = absurd (omega (arith, more))
any_logged test (x ∷ log) e more h = elim (cases_eq x e) [
  | inl same ↦ rw (same, h) refl
  | inr other ↦ go (test x)
      (any_logged test log e (omega (arith, more, times-other e x log other)) h)
] where
  go : (b : Bool) → list_any test log ≡ true → (b || list_any test log) ≡ true
  go true q = refl
  go false q = q

-- in the end each sequence whose element has settled was told of it
tells_owner : (r : List TypeInfo) (a b : Graph) (s n : Progress) (done : ℕ) →
    PropagatesAll r a b s n done → (k : ℕ) → k < length (rules r) →
    TellsOwner r b.looks.listed.entries (has_settled n) (rule_at r k)
tells_owner r a b s n done h k lt =
    record {
      at = λ e all u one. go e all u one (told r b.looks.listed.entries (rule_at r k).owner)
          refl;
    } where
      log : List ℕ
      log = b.looks.listed.entries

      test : ℕ → Bool
      test j = ((rule_at r (rule_number r j)).owner == (rule_at r k).owner)
          && tells (rule_at r (rule_number r j)).kind

      one_is : (x : Bool) (m : ℕ) → m ≡ cond x 1 0 → x ≡ true → 0 < m
      one_is true m e f = omega (arith, e)
      one_is false m e f = absurd cc

      yes : (rule_at r k).kind ≡ kind.Sequence →
          list_all (has_settled n) (rule_at r k).parts ≡ true →
          (j : ℕ) → j < length (all_parts (rules r)) → rule_number r j ≡ k →
          list_any test b.looks.listed.entries ≡ true
      yes e all j small is =
          let at : rule_number r j ≡ 0 + k = is ∙ omega arith in
          let settled : has_settled n (to_at r j) ≡ true =
          parts_all (has_settled n) 0 (rules r) j k small at all in
          let more = one_is (has_settled n (to_at r j)) (times j b.looks.listed.entries)
          (propagated_if r a b s n done j h small) settled in
          let owner : ((rule_at r (rule_number r j)).owner == (rule_at r k).owner) ≡ true =
          eq-eqb (rule_at r (rule_number r j)).owner (rule_at r k).owner
          (ap (λ (i : ℕ). (rule_at r i).owner) is) in
          let kind_is : (rule_at r (rule_number r j)).kind ≡ kind.Sequence =
          ap (λ (i : ℕ). (rule_at r i).kind) is ∙ e in
          any_logged test b.looks.listed.entries j more (rw (owner, kind_is) refl)

      go : (rule_at r k).kind ≡ kind.Sequence →
          list_all (has_settled n) (rule_at r k).parts ≡ true →
          (u : ℕ) → (rule_at r k).parts ≡ u ∷ [] → (x : Bool) →
          told r b.looks.listed.entries (rule_at r k).owner ≡ x →
          told r b.looks.listed.entries (rule_at r k).owner ≡ true
      go e all u one true f = f
      go e all u one false f = absurd (let none : list_all (λ p. false) (rule_at r k).parts ≡ true =
          parts_each (λ p. false) 0 (rules r) k
          (λ j small is. let no = sym f ∙ yes e all j small (is ∙ omega arith) in absurd cc) in
          let no : list_all (λ p. false) (u ∷ []) ≡ true = rw one at none in cc)

-- where an element has settled, its sequence was told of it
told_settled : (r : List TypeInfo) (a b : Graph) (s n : Progress) (done t : ℕ) (d : TypeDef) →
    PropagatesAll r a b s n done → shape r t ≡ Some d → AllByRecursion
    (TellsOwner r b.looks.listed.entries (has_settled n)) (rules_of t d)
told_settled r a b s n done t d h e =
    let at : 0 + t ≡ t = omega arith in
    rw at at (rules_at (TellsOwner r b.looks.listed.entries (has_settled n)) r 0 t d
    (all_from (TellsOwner r b.looks.listed.entries (has_settled n)) (rules r) nothing
    (tells_owner r a b s n done h)) e)

-- ---- steps in the end

-- a step by the class alone, in the end
finished_by : (c : Class) (x y : TypeStep) → without_value x ≡ y → final_step c (by_class c x x)
    ≡ by_class c y x
finished_by class.NoValue x y e = e
finished_by class.Empty x y e = refl
finished_by class.Sized x y e = refl

-- an array's step in the end
finished_array : (c : Class) (byte : Bool) (n t : ℕ) →
    final_step c (by_class c (step.Array n t) (array_step byte n t))
    ≡ by_class c step.NoValue (array_step byte n t)
finished_array class.NoValue byte n t = refl
finished_array class.Empty byte n t = refl
finished_array class.Sized byte n t = refl

-- the step in the end is the type's
step_finished : (r : List TypeInfo) (refs : List ℕ) (Row : ℕ → ℕ → List Arm → Type 0) (t : ℕ)
    (d : TypeDef) (known : Bool) (x : TypeStep) → shape r t ≡ Some d → IsDraft refs Row d x →
    ((u : ℕ) → d ≡ Def.Sequence (record { 0 = u }) → known ≡ false →
    class_of r u ≡ class.NoValue) →
    IsStep r refs Row (class_of r t) d
    (final_step (class_of r t) (so_far r (class_of r t) known d x))
step_finished r refs Row t (Def.Composite fs) known x e h un =
    (h.0, h.1, rw h.2 (finished_by (class_of r t) (step.Parts h.0 h.1) step.NoValue refl), h.3)
step_finished r refs Row t (Def.Tuple ts) known x e h un =
    (h.0, h.1, rw h.2 (finished_by (class_of r t) (step.Parts h.0 h.1) step.NoValue refl), h.3)
step_finished r refs Row t (Def.Variant arms) known x e h un = (
  h.0,
  h.1,
  rw h.2 (finished_by (class_of r t) (step.Arms h.0 h.1) (step.NoArm h.0 h.1) refl),
  h.3,
)
step_finished r refs Row t (Def.Sequence u) true x e h un =
    rw (class_stable r t (Def.Sequence u) e) refl
step_finished r refs Row t (Def.Sequence u) false x e h un =
    let none : class_of r u.0 ≡ class.NoValue = un u.0 refl refl in
    rw (class_stable r t (Def.Sequence u) e, h, not_byte r u.0 none, none) refl
step_finished r refs Row t (Def.Array n u) known x e h un =
    rw h (finished_array (class_of r t) (is_byte (shape r u.0)) n u.0)
step_finished r refs Row t (Def.Primitive p) known x e h un =
    rw h (finished_by (class_of r t) (step.Primitive p) step.NoValue refl)
step_finished r refs Row t (Def.Compact u) known x e h un =
    let v : has_value (class_of r t) ≡ true =
    ap has_value (class_stable r t (Def.Compact u) e) ∙ compact-value (target_of r u.0) in
    rw v refl
step_finished r refs Row t (Def.BitSequence store order form) known x e h un =
    rw h (finished_by (class_of r t) (step.BitSequence form) step.NoValue refl)

-- when nothing more settles and the steps of the types without a value say so, the steps are the
-- table of the registry
pub table_all : (r : List TypeInfo) (a b : Graph) (s n : Progress) (done : ℕ) (ys : List TypeStep)
    (refs : List ℕ) → PropagatesAll r a b s n done → AreCompactsSettled r n →
    FinishesSteps n.classes n.steps ys → refs ≡ references_of r → IsTable r refs n.rows ys
table_all r a b s n done ys refs h c f all = record {
  all = all;
  paired = h.propagated.steady.consistent.paired;
  count = f.count ∙ h.propagated.steady.consistent.steps;
  own = λ t d y e at. own t d y e at;
} where
  own : (t : ℕ) (d : TypeDef) (y : TypeStep) → shape r t ≡ Some d → slice_get ys t ≡ Some y →
      IsStep r (references_of r) (IsRow (references_of r) n.rows) (class_of r t) d y
  own t d y e at =
      let st = h.propagated.steady.consistent in
      let k = st.step t d e in
      let known = told r b.looks.listed.entries t in
      let reported = (classes_reported r a b s n done h c).0.1 in
      let class_is : known_class n.classes t ≡ class_of r t = reported t in
      let there : slice_get n.steps t ≡ Some (so_far r (class_of r t) known d k.0) =
      rw class_is at k.2 in
      let now = rw class_is at (f.at t (so_far r (class_of r t) known d k.0) there) in
      let same : Some (final_step (class_of r t) (so_far r (class_of r t) known d k.0)) ≡ Some y =
      sym now ∙ at in
      let is : final_step (class_of r t) (so_far r (class_of r t) known d k.0) ≡ y = cc in
      rw (← is) (step_finished r (references_of r) (IsRow (references_of r) n.rows) t d known k.0 e
      k.1 unsettled)
    where
      unsettled : (u : ℕ) → d ≡ Def.Sequence (record { 0 = u }) →
          told r b.looks.listed.entries t ≡ false → class_of r u ≡ class.NoValue
      unsettled u sequence fails =
          sym ((classes_reported r a b s n done h c).0.1 u)
          ∙ no_value (known_class n.classes u) (go (has_settled n u) refl) where
            go : (x : Bool) → has_settled n u ≡ x → has_settled n u ≡ false
            go false q = q
            go true q =
                let e' : shape r t ≡ Some (Def.Sequence (record { 0 = u })) =
                rw sequence at e in
                let tells' = told_settled r a b s n done t (Def.Sequence (record { 0 = u })) h e' in
                let yes : told r b.looks.listed.entries t ≡ true =
                tells'.1.0.at refl (rw q refl) u refl in
                absurd (let x = sym fails ∙ yes in cc)

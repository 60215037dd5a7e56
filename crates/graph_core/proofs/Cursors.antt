-- What is left of the open definition as its references are read and its arms begun.
use Rattle.std.proofs.Common.{◌≡◌, ℕ, zero, suc, ◌+◌, ◌<◌, ◌^◌, List, [], ◌∷◌, ◌++◌, length}
use Rattle.std.proofs.Common.{drop}
use Rattle.std.proofs.Common.{Option, Some, None, refl, sym, ap, ◌∙◌, arith}
use Rattle.std.specs.Prelude.{slice_get, option_map}
use Rattle.std.specs.List.{AllByRecursion}
use Rattle.std.proofs.lemmas.List.{append-nil}
use Rattle.std.proofs.lemmas.Option.{slice_get_within}
use Rattle.types_core.specs.Fits.{FitsRegistry, FitsType, FitsDefinition}
use Rattle.types_core.specs.declared.definition.Arm.{Arm}
use Rattle.types_core.specs.declared.definition.TypeDef.{TypeDef}
use Rattle.types_core.specs.declared.definition.TypeDef.TheVariants as Def
use Rattle.types_core.specs.declared.type_info.TypeInfo.{TypeInfo}
use Rattle.graph_core.specs.declared.graph.Graph.{Graph}
use Rattle.graph_core.specs.Types.{field_types}
use Rattle.graph_core.specs.Cursors.{last_of, arms_of, current}
use Rattle.graph_core.specs.Cursors.{parts_after, arms_after, parts_left, arms_left}
use Rattle.graph_core.specs.Cursors.{arm_after, next_arm}
use Rattle.graph_core.specs.Cursors.{arm_references, arm_outline}
use Rattle.graph_core.specs.Graphs.{refs, KeepsLists, IsArmNext, BeginsArm}
use Rattle.graph_core.proofs.Linked.{on_none}

-- ---- places of a list

-- what is left from a place on is what stands there and what is left from the next place on
pub drop_at : {X : Type 0} (xs : List X) (i : ℕ) (x : X) → slice_get xs i ≡ Some x →
    drop i xs ≡ x ∷ drop (i + 1) xs
drop_at {X = X} xs i x e = let step : i + 1 ≡ suc i = omega arith in rw step (go xs i e) where
  go : (ys : List X) (j : ℕ) → slice_get ys j ≡ Some x → drop j ys ≡ x ∷ drop (suc j) ys
  go [] j f = absurd cc
  go (y ∷ ys) zero f = let is : y ≡ x = cc in rw is refl
  go (y ∷ ys) (suc j) f = go ys j f

-- where nothing stands at a place, nothing is left from there on
pub drop_none : {X : Type 0} (xs : List X) (i : ℕ) → slice_get xs i ≡ None → drop i xs ≡ []
drop_none [] zero f = refl
drop_none [] (suc j) f = refl
drop_none (y ∷ ys) zero f = absurd cc
drop_none (y ∷ ys) (suc j) f = drop_none ys j f

-- ---- what is left of an open definition

-- ---- one reference

-- ---- one arm

-- where no arm is left, none is begun
pub arm_none : (a : Graph) (o : Option (ℕ × ℕ)) → o ≡ None → o ≡ arm_outline (next_arm a) →
    parts_left a ≡ [] → IsArmNext a a o
arm_none a (Some x) e is ended = absurd cc
arm_none a None e is ended = (
  none (current a) (lacks (next_arm a) is),
  none (current a) (lacks (next_arm a) is),
  ended,
  on_none a,
)
  where
    lacks : (x : Option Arm) → None ≡ arm_outline x → x ≡ None
    lacks None f = refl
    lacks (Some y) f = absurd cc

    none : (d : Option TypeDef) → arm_after d a.cursor.arms ≡ None →
        arms_after d a.cursor.arms ≡ []
    none None f = refl
    none (Some d) f = drop_none (arms_of d) a.cursor.arms f

-- an arm that is next is the first of those that are left, and its fields are open when it is begun
begun : (o : Option TypeDef) (k : ℕ) (x : Arm) → arm_after o k ≡ Some x →
    (arms_after o k ≡ x ∷ arms_after o (k + 1)) × (parts_after o (k + 1) 0 ≡ field_types x.fields)
begun None k x e = absurd cc
begun (Some (Def.Variant arms)) k x e =
    let step : k + 1 ≡ suc k = omega arith in
    (drop_at arms k x e, rw (step, e) refl)
begun (Some (Def.Composite fs)) k x e = absurd (lacks k x e) where
  lacks : (j : ℕ) (y : Arm) → slice_get [] j ≡ Some y → ⊥
  lacks zero y f = cc
  lacks (suc j) y f = cc
begun (Some (Def.Sequence t)) k x e = absurd (lacks k x e) where
  lacks : (j : ℕ) (y : Arm) → slice_get [] j ≡ Some y → ⊥
  lacks zero y f = cc
  lacks (suc j) y f = cc
begun (Some (Def.Array n t)) k x e = absurd (lacks k x e) where
  lacks : (j : ℕ) (y : Arm) → slice_get [] j ≡ Some y → ⊥
  lacks zero y f = cc
  lacks (suc j) y f = cc
begun (Some (Def.Tuple ts)) k x e = absurd (lacks k x e) where
  lacks : (j : ℕ) (y : Arm) → slice_get [] j ≡ Some y → ⊥
  lacks zero y f = cc
  lacks (suc j) y f = cc
begun (Some (Def.Primitive p)) k x e = absurd (lacks k x e) where
  lacks : (j : ℕ) (y : Arm) → slice_get [] j ≡ Some y → ⊥
  lacks zero y f = cc
  lacks (suc j) y f = cc
begun (Some (Def.Compact t)) k x e = absurd (lacks k x e) where
  lacks : (j : ℕ) (y : Arm) → slice_get [] j ≡ Some y → ⊥
  lacks zero y f = cc
  lacks (suc j) y f = cc
begun (Some (Def.BitSequence s o form)) k x e = absurd (lacks k x e) where
  lacks : (j : ℕ) (y : Arm) → slice_get [] j ≡ Some y → ⊥
  lacks zero y f = cc
  lacks (suc j) y f = cc

-- the next arm is begun where the place moves on to it and nothing is read
pub arm_begun : (a b : Graph) (index count : ℕ) →
    Some (index, count) ≡ arm_outline (next_arm a) → parts_left a ≡ [] →
    b.registry ≡ a.registry → b.cursor ≡ record {
      types = a.cursor.types;
      arms = a.cursor.arms + 1;
      parts = 0;
    } → refs b ≡ refs a → b.looks.opened.entries ≡ a.looks.opened.entries →
    b.looks.listed.entries ≡ a.looks.listed.entries → KeepsLists a b →
    BeginsArm a b index count
arm_begun a b index count is ended types cursor read opened listed lists =
    go (next_arm a) refl is where
      same : {p q : ℕ × ℕ} → Some p ≡ Some q → p ≡ q
      same e = cc

      go : (o : Option Arm) → next_arm a ≡ o → Some (index, count) ≡ arm_outline o →
          BeginsArm a b index count
      go None e f = absurd cc
      go (Some x) e f =
          let s = begun (current a) a.cursor.arms x e in
          let arms : arms_left a ≡ x ∷ arms_left b = rw (cursor, types) s.0 in
          let parts : parts_left b ≡ field_types x.fields = rw (cursor, types) s.1 in
          let both : (index, count) ≡ (x.index, length x.fields) = same f in
          let index_is : index ≡ x.index = ap (λ (p : ℕ × ℕ). p.0) both in
          let count_is : count ≡ length x.fields = ap (λ (p : ℕ × ℕ). p.1) both in
          record {
            arm = x;
            arms = arms;
            index_is = index_is;
            count_is = count_is;
            parts = parts;
            on = record {
              types = types;
              place = rw cursor refl;
              left = ap (λ (xs : List ℕ). xs ++ arm_references (arms_left a)) ended
                  ∙ ap arm_references arms
                  ∙ ap (λ (xs : List ℕ). xs ++ arm_references (arms_left b)) (sym parts);
              read = read ∙ sym (append-nil (refs a));
              opened = opened;
              listed = listed;
            };
            lists = lists;
          }

-- what holds of all in a list holds of what stands at a place
all_get : {X : Type 0} (P : X → Type 0) (xs : List X) (i : ℕ) (x : X) → AllByRecursion P xs →
    slice_get xs i ≡ Some x → P x
all_get P [] i x h e = absurd cc
all_get P (y ∷ ys) zero x h e = let is : y ≡ x = cc in rw (← is) h.0
all_get P (y ∷ ys) (suc i) x h e = all_get P ys i x h.1 e

-- an arm that is next is one of fewer than 2^32
pub arm_bound : (g : Graph) (index count : ℕ) → FitsRegistry g.registry →
    Some (index, count) ≡ arm_outline (next_arm g) → g.cursor.arms < 2 ^ 32
arm_bound g index count fits is = go g.cursor.types (next_arm g) refl is where
  of_arms : (d : TypeDef) (x : Arm) → FitsDefinition d →
      slice_get (arms_of d) g.cursor.arms ≡ Some x → g.cursor.arms < 2 ^ 32
  of_arms (Def.Variant as') x h e =
      let lt = slice_get_within as' g.cursor.arms x e in omega (arith, lt, h.0)
  of_arms d x h e = absurd (let lt = slice_get_within [] g.cursor.arms x e in omega (arith, lt))

  last : (k : ℕ) (o : Option TypeInfo) → last_of g.registry k ≡ o → (x : Arm) →
      arm_after (option_map (λ i. i.shape) o) g.cursor.arms ≡ Some x → g.cursor.arms < 2 ^ 32
  last zero None e x f = absurd cc
  last zero (Some i) e x f = absurd cc
  last (suc k) None e x f = absurd cc
  last (suc k) (Some i) e x f =
      of_arms i.shape x (all_get FitsType g.registry k i fits.1 e).2 f

  go : (k : ℕ) (o : Option Arm) → next_arm g ≡ o → Some (index, count) ≡ arm_outline o →
      g.cursor.arms < 2 ^ 32
  go k None e f = absurd cc
  go k (Some x) e f = last g.cursor.types (last_of g.registry g.cursor.types) refl x e

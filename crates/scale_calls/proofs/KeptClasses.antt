-- The types of a registry keep their classes if other types follow them.
use Rattle.std.proofs.Common.{◌≡◌, ℕ, zero, suc, ◌<◌, Bool, true, false, cond, List, [], ◌∷◌, ◌++◌}
use Rattle.std.proofs.Common.{length, flat_map, Option, Some, None, refl, sym, ap, ◌∙◌, arith}
use Rattle.std.specs.Prelude.{◌==◌}
use Rattle.std.specs.List.{list_all, list_any}
use Rattle.scale_core.specs.declared.compact.Target.{Target}
use Rattle.types_core.specs.Kinds.{kind_of}
use Rattle.types_core.specs.declared.kind.PrimitiveKind.{PrimitiveKind}
use Rattle.types_core.specs.declared.kind.PrimitiveKind.TheVariants as K
use Rattle.types_core.specs.declared.definition.Arm.{Arm}
use Rattle.types_core.specs.declared.definition.TypeDef.{TypeDef}
use Rattle.types_core.specs.declared.definition.TypeDef.TheVariants as Def
use Rattle.types_core.specs.declared.type_info.TypeInfo.{TypeInfo}
use Rattle.graph_core.specs.References.{references, AreKnown, AreChecked, IsChecked, first_fault}
use Rattle.graph_core.specs.Types.{ids, field_types}
use Rattle.graph_core.proofs.FirstFault.{fault_is_first}
use Rattle.graph_core.proofs.Stopped.{all_front}
use Rattle.widths_core.specs.Arms.{live_arms}
use Rattle.widths_core.specs.Classes.{holds_at, finite_step, empty_step, is_unit, finite_within}
use Rattle.widths_core.specs.Classes.{empty_within, is_finite, is_empty}
use Rattle.widths_core.specs.Targets.{through, leads, leads_members, leads_kind, leads_shape}
use Rattle.widths_core.specs.Targets.{HasTarget, here, there, target_of}
use Rattle.widths_core.proofs.Ranks.{ranks_settle}
use Rattle.widths_core.proofs.TargetsFound.{targets_are_found}
use Rattle.scale_calls.specs.Named.{KeepsClasses}

-- ---- tests that agree

-- two tests have one result if each follows from the other
same_test : (a b : Bool) → (a ≡ true → b ≡ true) → (b ≡ true → a ≡ true) → a ≡ b
same_test true b f g = sym (f refl)
same_test false true f g = let no = g refl in absurd cc
same_test false false f g = refl

-- two results are one if each has every target that the other has
same_target : (a b : Option Target) → ((m : Target) → a ≡ Some m → b ≡ Some m) →
    ((m : Target) → b ≡ Some m → a ≡ Some m) → a ≡ b
same_target (Some m) b f g = sym (f m refl)
same_target None (Some m) f g = let no = g m refl in absurd cc
same_target None None f g = refl

-- two tests agree on every number below n
record AgreeBelow (n : ℕ) (f g : ℕ → Bool) : Type 0 where
  at : (t : ℕ) → t < n → f t ≡ g t

-- tests that agree below n agree on a list of numbers below n
all_agree : (n : ℕ) (f g : ℕ → Bool) → AgreeBelow n f g → (ts : List ℕ) → AreKnown n ts →
    list_all f ts ≡ list_all g ts
all_agree n f g h [] known = refl
all_agree n f g h (t ∷ ts) known = rw (h.at t known.0, all_agree n f g h ts known.1) refl

-- whether the test holds of the types of all fields of some arm
abbrev some_arm : (ℕ → Bool) → List Arm → Bool
some_arm f arms = list_any (λ a. list_all f (field_types a.fields)) arms

-- tests that agree below n agree on the live arms, if all arms refer to types below n
arms_agree : (n : ℕ) (f g : ℕ → Bool) → AgreeBelow n f g → (seen : List ℕ) (arms : List Arm) →
    AreKnown n (flat_map (λ a. field_types a.fields) arms) →
    some_arm f (live_arms seen arms) ≡ some_arm g (live_arms seen arms)
arms_agree n f g h seen [] known = refl
arms_agree n f g h seen (a ∷ arms) known =
    let parts = all_front (λ t. t < n) (field_types a.fields)
    (flat_map (λ x. field_types x.fields) arms) known in
    one (list_any (λ i. i == a.index) seen) (all_agree n f g h (field_types a.fields) parts.0)
    (λ s. arms_agree n f g h s arms parts.1) where
      one : (shadowed : Bool) →
          list_all f (field_types a.fields) ≡ list_all g (field_types a.fields) →
          ((s : List ℕ) → some_arm f (live_arms s arms) ≡ some_arm g (live_arms s arms)) →
          some_arm f (cond shadowed (live_arms seen arms) (a ∷ live_arms (a.index ∷ seen) arms))
          ≡ some_arm g (cond shadowed (live_arms seen arms) (a ∷ live_arms (a.index ∷ seen) arms))
      one true own more = more seen
      one false own more = rw (own, more (a.index ∷ seen)) refl

-- ---- one round

-- tests that agree below n agree on whether a definition that refers to types below n has a value
finite_agrees : (n : ℕ) (f g : ℕ → Bool) → AgreeBelow n f g → (d : TypeDef) →
    AreKnown n (references d) → finite_step f d ≡ finite_step g d
finite_agrees n f g h (Def.Composite fs) known = all_agree n f g h (field_types fs) known
finite_agrees n f g h (Def.Variant arms) known = arms_agree n f g h [] arms known
finite_agrees n f g h (Def.Sequence t) known = refl
finite_agrees n f g h (Def.Array zero t) known = refl
finite_agrees n f g h (Def.Array (suc k) t) known = h.at t.0 known.0
finite_agrees n f g h (Def.Tuple ts) known = all_agree n f g h (ids ts) known
finite_agrees n f g h (Def.Primitive p) known = refl
finite_agrees n f g h (Def.Compact t) known = refl
finite_agrees n f g h (Def.BitSequence store order form) known = refl

-- they agree on whether it takes no bytes, if the types below n have the same targets
empty_agrees : (n : ℕ) (r s : List TypeInfo) (f g : ℕ → Bool) →
    ((t : ℕ) → t < n → target_of r t ≡ target_of s t) → AgreeBelow n f g → (d : TypeDef) →
    AreKnown n (references d) → empty_step r f d ≡ empty_step s g d
empty_agrees n r s f g same h (Def.Composite fs) known = all_agree n f g h (field_types fs) known
empty_agrees n r s f g same h (Def.Variant arms) known = refl
empty_agrees n r s f g same h (Def.Sequence t) known = refl
empty_agrees n r s f g same h (Def.Array zero t) known = refl
empty_agrees n r s f g same h (Def.Array (suc k) t) known = h.at t.0 known.0
empty_agrees n r s f g same h (Def.Tuple ts) known = all_agree n f g h (ids ts) known
empty_agrees n r s f g same h (Def.Primitive p) known = refl
empty_agrees n r s f g same h (Def.Compact t) known = ap is_unit (same t.0 known.0)
empty_agrees n r s f g same h (Def.BitSequence store order form) known = refl

-- tests that agree on definitions that refer to types below n agree on the first types, whether
-- others follow these or not
holds_kept : (n : ℕ) (own more : List TypeInfo) (p q : TypeDef → Bool) →
    ((d : TypeDef) → AreKnown n (references d) → p d ≡ q d) → AreChecked n own → (t : ℕ) →
    t < length own → holds_at (own ++ more) p t ≡ holds_at own q t
holds_kept n [] more p q same checked t lt = absurd (omega arith)
holds_kept n (x ∷ own) more p q same checked zero lt = same x.shape checked.0
holds_kept n (x ∷ own) more p q same checked (suc t) lt =
    holds_kept n own more p q same checked.1 t (omega arith)

-- ---- targets

-- the first types lead to the same if others follow them
leads_kept : (own more : List TypeInfo) (t : ℕ) → t < length own →
    leads (own ++ more) t ≡ leads own t
leads_kept [] more t lt = absurd (omega arith)
leads_kept (x ∷ own) more zero lt = refl
leads_kept (x ∷ own) more (suc t) lt = leads_kept own more t (omega arith)

-- members below n lead through no type from n on
members_below : (n : ℕ) (ts : List ℕ) → AreKnown n ts → (u : ℕ) → leads_members ts ≡ through u →
    u < n
members_below n [] known u e = absurd cc
members_below n (t ∷ []) known u e = let same : t ≡ u = cc in rw (← same) known.0
members_below n (t ∷ v ∷ ts) known u e = absurd cc

-- a primitive leads through no type
kind_ends : (k : PrimitiveKind) (u : ℕ) → leads_kind k ≡ through u → ⊥
kind_ends K.Bool u e = cc
kind_ends K.Char u e = cc
kind_ends K.Str u e = cc
kind_ends (K.Unsigned w) u e = cc
kind_ends (K.Signed w) u e = cc
kind_ends (K.Wide s) u e = cc

-- a definition that refers to types below n leads through no type from n on
shape_below : (n : ℕ) (d : TypeDef) → AreKnown n (references d) → (u : ℕ) →
    leads_shape d ≡ through u → u < n
shape_below n (Def.Composite fs) known u e = members_below n (field_types fs) known u e
shape_below n (Def.Tuple ts) known u e = members_below n (ids ts) known u e
shape_below n (Def.Primitive p) known u e = absurd (kind_ends (kind_of p) u e)
shape_below n (Def.Variant arms) known u e = absurd cc
shape_below n (Def.Sequence t) known u e = absurd cc
shape_below n (Def.Array k t) known u e = absurd cc
shape_below n (Def.Compact t) known u e = absurd cc
shape_below n (Def.BitSequence store order form) known u e = absurd cc

-- types that refer to types below n lead through no type from n on
leads_below : (n : ℕ) (r : List TypeInfo) → AreChecked n r → (t u : ℕ) → leads r t ≡ through u →
    u < n
leads_below n [] checked t u e = absurd cc
leads_below n (x ∷ r) checked zero u e = shape_below n x.shape checked.0 u e
leads_below n (x ∷ r) checked (suc t) u e = leads_below n r checked.1 t u e

-- what stays the same of the first types, whose references all are positions, if others follow them
module _ (own more : List TypeInfo) (checked : IsChecked own) where
  -- a target among all types is one among the first
  target_back : (t : ℕ) (m : Target) → HasTarget (own ++ more) t m → t < length own →
      HasTarget own t m
  target_back t m (here e) lt = here (sym (leads_kept own more t lt) ∙ e)
  target_back t m (there {u = u} e h) lt =
      let via : leads own t ≡ through u = sym (leads_kept own more t lt) ∙ e in
      there via (target_back u m h (leads_below (length own) own checked t u via))

  -- a target among the first types is one among all
  target_forth : (t : ℕ) (m : Target) → HasTarget own t m → t < length own →
      HasTarget (own ++ more) t m
  target_forth t m (here e) lt = here (leads_kept own more t lt ∙ e)
  target_forth t m (there {u = u} e h) lt =
      there (leads_kept own more t lt ∙ e)
      (target_forth u m h (leads_below (length own) own checked t u e))

  -- the first types keep their targets
  targets_kept : (t : ℕ) → t < length own → target_of (own ++ more) t ≡ target_of own t
  targets_kept t lt = same_target (target_of (own ++ more) t) (target_of own t)
      (λ m e. (targets_are_found own t m).0
      (target_back t m ((targets_are_found (own ++ more) t m).1 e) lt))
      (λ m e. (targets_are_found (own ++ more) t m).0
      (target_forth t m ((targets_are_found own t m).1 e) lt))

  -- ---- all rounds

  -- each number of levels shows a value of the same first types
  finite_rounds : (k : ℕ) →
      AgreeBelow (length own) (finite_within (own ++ more) k) (finite_within own k)
  unfolding finite_within
  finite_rounds zero = record { at = λ t lt. refl }
  finite_rounds (suc k) =
      record {
        at = holds_kept (length own) own more (finite_step (finite_within (own ++ more) k))
            (finite_step (finite_within own k))
            (finite_agrees (length own) (finite_within (own ++ more) k) (finite_within own k)
            (finite_rounds k)) checked;
      }

  -- the same first types have values
  finite_kept : (t : ℕ) → t < length own → is_finite (own ++ more) t ≡ is_finite own t
  finite_kept t lt = same_test (is_finite (own ++ more) t) (is_finite own t)
      (λ e. (ranks_settle own t (length (own ++ more))).0
      (sym ((finite_rounds (length (own ++ more))).at t lt) ∙ e))
      (λ e. (ranks_settle (own ++ more) t (length own)).0
      ((finite_rounds (length own)).at t lt ∙ e))

  -- each number of levels shows that the same first types take no bytes
  empty_rounds : (k : ℕ) →
      AgreeBelow (length own) (empty_within (own ++ more) k) (empty_within own k)
  unfolding empty_within
  empty_rounds zero = record { at = λ t lt. refl }
  empty_rounds (suc k) =
      record {
        at = holds_kept (length own) own more
            (empty_step (own ++ more) (empty_within (own ++ more) k))
            (empty_step own (empty_within own k))
            (empty_agrees (length own) (own ++ more) own (empty_within (own ++ more) k)
            (empty_within own k) targets_kept (empty_rounds k)) checked;
      }

  -- the same first types take no bytes
  empty_kept : (t : ℕ) → t < length own → is_empty (own ++ more) t ≡ is_empty own t
  empty_kept t lt = same_test (is_empty (own ++ more) t) (is_empty own t)
      (λ e. (ranks_settle own t (length (own ++ more))).1
      (sym ((empty_rounds (length (own ++ more))).at t lt) ∙ e))
      (λ e. (ranks_settle (own ++ more) t (length own)).1
      ((empty_rounds (length own)).at t lt ∙ e))

-- types whose references all are positions keep their classes if others follow them
pub classes_kept : (own more : List TypeInfo) → first_fault own ≡ None →
    KeepsClasses own (own ++ more)
classes_kept own more known t lt =
    let checked = (fault_is_first own).0 known in
    rw (finite_kept own more checked t lt, empty_kept own more checked t lt) refl

-- Each rule of a registry is right: where the parts have values, the owner is what the rule finds.
use Rattle.std.proofs.Common.{◌≡◌, ℕ, zero, suc, ◌+◌, ◌<◌, Bool, true, false, cond, List, [], ◌∷◌}
use Rattle.std.proofs.Common.{length, get_or, Some, None, refl, sym, ap, ◌∙◌, arith}
use Rattle.std.specs.Prelude.{◌==◌}
use Rattle.std.specs.List.{AllByRecursion, list_all, list_any}
use Rattle.types_core.specs.Kinds.{kind_of}
use Rattle.types_core.specs.declared.definition.Field.{Field}
use Rattle.types_core.specs.declared.type_id.TypeId.{TypeId}
use Rattle.types_core.specs.declared.definition.Arm.{Arm}
use Rattle.types_core.specs.declared.definition.TypeDef.{TypeDef}
use Rattle.types_core.specs.declared.definition.TypeDef.TheVariants as Def
use Rattle.types_core.specs.declared.kind.PrimitiveKind.{PrimitiveKind}
use Rattle.types_core.specs.declared.kind.PrimitiveKind.TheVariants as K
use Rattle.types_core.specs.declared.type_info.TypeInfo.{TypeInfo}
use Rattle.widths_core.specs.declared.class.Class.{Class}
use Rattle.widths_core.specs.declared.class.Class.TheVariants as class
use Rattle.widths_core.specs.declared.counter.Kind.{Kind}
use Rattle.widths_core.specs.declared.counter.Kind.TheVariants as kind
use Rattle.graph_core.specs.Types.{shape, ids, field_types}
use Rattle.graph_core.proofs.Stopped.{all_joined}
use Rattle.widths_core.specs.Arms.{live_arms}
use Rattle.widths_core.specs.Targets.{leads_kind, leads_members, leads_shape, target_from}
use Rattle.widths_core.specs.Targets.{target_of}
use Rattle.widths_core.specs.Classes.{class_of}
use Rattle.widths_core.specs.ClassTables.{joined, class_of_parts, has_value, class_of_arms}
use Rattle.widths_core.specs.ClassTables.{class_of_compact, class_step}
use Rattle.widths_core.specs.Rules.{Rule, rule, rules, rules_of, rules_from, arm_rules}
use Rattle.widths_core.specs.Rules.{kind_of_parts, found_sized}
use Rattle.widths_core.specs.Consistent.{nothing, rule_at}
use Rattle.widths_core.proofs.Ranks.{or_left, or_right}
use Rattle.widths_core.proofs.Settled.{has_value-parts}
use Rattle.widths_core.proofs.Stable.{class_stable, target_stable}

abbrev pub IsRightBy : List TypeInfo → ℕ → List ℕ → Kind → Type 0
IsRightBy r t ps kind.Idle = Unit {0}
IsRightBy r t ps kind.Parts = (class_of r t ≡ class_of_parts (class_of r) ps)
    × (target_of r t ≡ None)
IsRightBy r t ps kind.Array = (class_of r t ≡ class_of_parts (class_of r) ps)
    × (target_of r t ≡ None)
IsRightBy r t ps kind.Sequence = Unit {0}
IsRightBy r t ps kind.Wrap = (u : ℕ) × (ps ≡ u ∷ []) × (class_of r t ≡ class_of r u)
    × (target_of r t ≡ target_of r u)
IsRightBy r t ps kind.Compact = (u : ℕ) × (ps ≡ u ∷ [])
    × (class_of r t ≡ class_of_compact (target_of r u)) × (target_of r t ≡ None)
IsRightBy r t ps (kind.Fixed f) = (has_value f.class ≡ true)
    × (list_all (λ p. has_value (class_of r p)) ps ≡ true → class_of r t ≡ f.class)
    × (target_of r t ≡ f.target)

pub record IsRightRule (r : List TypeInfo) (x : Rule) : Type 0 where
  pub owner : x.owner < length r
  pub right : IsRightBy r x.owner x.parts x.kind

-- a part without bytes changes nothing of a class that it is joined to
pub joined-empty : (c : Class) → joined c class.Empty ≡ c
joined-empty class.NoValue = refl
joined-empty class.Empty = refl
joined-empty class.Sized = refl

-- the rule of these parts is right where class and target of the type follow from theirs
parts_right : (r : List TypeInfo) (t : ℕ) (ps : List ℕ) →
    class_of r t ≡ class_of_parts (class_of r) ps →
    target_of r t ≡ target_from (target_of r) (leads_members ps) →
    IsRightBy r t ps (kind_of_parts (length ps))
parts_right r t [] c m = (refl, (λ h. c), m)
parts_right r t (u ∷ []) c m = (u, refl, c ∙ joined-empty (class_of r u), m)
parts_right r t (u ∷ v ∷ ps) c m = (c, m)

abbrev arm_test : List TypeInfo → Arm → Bool
arm_test r a = has_value (class_of_parts (class_of r) (field_types a.fields))

-- the rules of arms are right where any live arm with a value gives the variant the class Sized
arms_right : (r : List TypeInfo) (t : ℕ) → t < length r → target_of r t ≡ None →
    (arms : List Arm) (seen : List ℕ) →
    (list_any (arm_test r) (live_arms seen arms) ≡ true → class_of r t ≡ class.Sized) →
    AllByRecursion (IsRightRule r) (arm_rules t seen arms)
arms_right r t lt m [] seen h = tt
arms_right r t lt m (a ∷ arms) seen h =
    go (list_any (λ i. i == a.index) seen) refl h (arms_right r t lt m arms) where
      go : (c : Bool) → list_any (λ i. i == a.index) seen ≡ c →
          (list_any (arm_test r)
          (cond c (live_arms seen arms) (a ∷ live_arms (a.index ∷ seen) arms))
          ≡ true → class_of r t ≡ class.Sized) →
          ((s : List ℕ) → (list_any (arm_test r) (live_arms s arms) ≡ true →
          class_of r t ≡ class.Sized) → AllByRecursion (IsRightRule r) (arm_rules t s arms)) →
          AllByRecursion (IsRightRule r)
          (cond c (rule t kind.Idle (field_types a.fields) ∷ arm_rules t seen arms)
          (rule t (kind.Fixed found_sized) (field_types a.fields)
          ∷ arm_rules t (a.index ∷ seen) arms))
      go true e k more = (record { owner = lt; right = tt }, more seen k)
      go false e k more = (
        record {
          owner = lt;
          right = (
            refl,
            (λ all. k (or_left (arm_test r a) _
                (has_value-parts (class_of r) (field_types a.fields) ∙ all))),
            m,
          );
        },
        more (a.index ∷ seen) (λ f. k (or_right (arm_test r a) _ f)),
      )

-- a variant one of whose live arms has a value has the class Sized
arms_class : (r : List TypeInfo) (t : ℕ) (arms : List Arm) →
    class_of r t ≡ class_of_arms (class_of r) arms →
    list_any (arm_test r) (live_arms [] arms) ≡ true → class_of r t ≡ class.Sized
arms_class r t arms e f = e ∙ rw f refl

-- the target of a primitive is the same whatever targets other types have
same_target : (r : List TypeInfo) (k : PrimitiveKind) →
    target_from (target_of r) (leads_kind k) ≡ target_from (λ u. None) (leads_kind k)
same_target r K.Bool = refl
same_target r _ = refl

-- there are as many fields as types of fields
pub length-fields : (fs : List Field) → length fs ≡ length (field_types fs)
length-fields [] = refl
length-fields (f ∷ fs) = ap suc (length-fields fs)

-- there are as many members as type ids of members
pub length-ids : (ts : List TypeId) → length ts ≡ length (ids ts)
length-ids [] = refl
length-ids (t ∷ ts) = ap suc (length-ids ts)

-- the rules of a type are right where its class and target follow from those of its parts
rules_right : (r : List TypeInfo) (t : ℕ) (d : TypeDef) → t < length r →
    class_of r t ≡ class_step (target_of r) (class_of r) d →
    target_of r t ≡ target_from (target_of r) (leads_shape d) →
    AllByRecursion (IsRightRule r) (rules_of t d)
rules_right r t (Def.Composite fs) lt c m = (
  record { owner = lt; right = rw (length-fields fs) (parts_right r t (field_types fs) c m) },
  tt,
)
rules_right r t (Def.Variant arms) lt c m = arms_right r t lt m arms [] (arms_class r t arms c)
rules_right r t (Def.Sequence u) lt c m =
    (record { owner = lt; right = (refl, (λ h. c), m) }, (record { owner = lt; right = tt }, tt))
rules_right r t (Def.Array zero u) lt c m =
    (record { owner = lt; right = (refl, (λ h. c), m) }, (record { owner = lt; right = tt }, tt))
rules_right r t (Def.Array (suc n) u) lt c m =
    (record { owner = lt; right = (c ∙ sym (joined-empty (class_of r u.0)), m) }, tt)
rules_right r t (Def.Tuple ts) lt c m =
    (record { owner = lt; right = rw (length-ids ts) (parts_right r t (ids ts) c m) }, tt)
rules_right r t (Def.Primitive p) lt c m =
    (record { owner = lt; right = (refl, (λ h. c), m ∙ same_target r (kind_of p)) }, tt)
rules_right r t (Def.Compact u) lt c m = (record { owner = lt; right = (u.0, refl, c, m) }, tt)
rules_right r t (Def.BitSequence store order form) lt c m =
    (record { owner = lt; right = (refl, (λ h. c), m) }, tt)

-- ---- all rules

-- what holds of all in a list holds at each of its places
pub all_at : {X : Type 0} (P : X → Type 0) (xs : List X) (k : ℕ) (d : X) → AllByRecursion P xs →
    k < length xs → P (get_or xs k d)
all_at P [] k d h lt = absurd (omega arith)
all_at P (x ∷ xs) zero d h lt = h.0
all_at P (x ∷ xs) (suc k) d h lt = all_at P xs k d h.1 (omega (arith, lt))

-- a position at which a definition stands is below the number of types
pub shape-bound : (r : List TypeInfo) (t : ℕ) (d : TypeDef) → shape r t ≡ Some d → t < length r
shape-bound [] t d e = absurd cc
shape-bound (x ∷ r) zero d e = omega arith
shape-bound (x ∷ r) (suc t) d e = omega (arith, shape-bound r t d e)

-- the rules of types that stand in a registry from a position on are right
rules_from_right : (r : List TypeInfo) (s : List TypeInfo) (t : ℕ) →
    ((j : ℕ) (d : TypeDef) → shape s j ≡ Some d → shape r (t + j) ≡ Some d) →
    AllByRecursion (IsRightRule r) (rules_from t s)
rules_from_right r [] t h = tt
rules_from_right r (x ∷ s) t h =
    let here : shape r t ≡ Some x.shape = ap (shape r) (omega arith) ∙ h 0 x.shape refl in
    all_joined (IsRightRule r) (rules_of t x.shape) (rules_from (t + 1) s)
    (rules_right r t x.shape (shape-bound r t x.shape here) (class_stable r t x.shape here)
    (target_stable r t x.shape here))
    (rules_from_right r s (t + 1) (λ j d e. ap (shape r) (omega arith) ∙ h (suc j) d e))

-- each rule of a registry is right
pub rule_right : (r : List TypeInfo) (k : ℕ) → k < length (rules r) → IsRightRule r (rule_at r k)
rule_right r k lt = all_at (IsRightRule r) (rules r) k nothing
    (rules_from_right r r 0 (λ j d e. ap (shape r) (omega arith) ∙ e)) lt

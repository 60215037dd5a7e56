-- What a step says of a class: whether there is a value, and whether one takes no bytes.
use Rattle.std.proofs.Common.{◌≡◌, ℕ, zero, suc, Bool, true, false, cond, List, [], ◌∷◌, Option}
use Rattle.std.proofs.Common.{refl, ap, ◌∙◌}
use Rattle.std.specs.Prelude.{◌&&◌}
use Rattle.std.specs.List.{list_all, list_any}
use Rattle.scale_core.specs.declared.compact.Target.{Target}
use Rattle.types_core.specs.declared.definition.Arm.{Arm}
use Rattle.types_core.specs.declared.definition.TypeDef.{TypeDef}
use Rattle.types_core.specs.declared.definition.TypeDef.TheVariants as Def
use Rattle.types_core.specs.declared.type_info.TypeInfo.{TypeInfo}
use Rattle.widths_core.specs.declared.class.Class.{Class}
use Rattle.widths_core.specs.declared.class.Class.TheVariants as class
use Rattle.graph_core.specs.Types.{ids, field_types}
use Rattle.widths_core.specs.Arms.{live_arms}
use Rattle.widths_core.specs.Targets.{target_of}
use Rattle.widths_core.specs.Classes.{is_unit, finite_step, empty_step, class_from}
use Rattle.widths_core.specs.ClassTables.{joined, class_of_parts, has_value, class_of_arms}
use Rattle.widths_core.specs.ClassTables.{class_step}

abbrev pub is_empty_class : Class → Bool
is_empty_class class.NoValue = false
is_empty_class class.Empty = true
is_empty_class class.Sized = false

-- two parts together have a value exactly where both have one
has_value-joined : (a b : Class) → has_value (joined a b) ≡ (has_value a && has_value b)
has_value-joined class.NoValue b = refl
has_value-joined class.Empty b = refl
has_value-joined class.Sized class.NoValue = refl
has_value-joined class.Sized class.Empty = refl
has_value-joined class.Sized class.Sized = refl

-- two parts together have the class Empty exactly where both have it
is_empty-joined : (a b : Class) →
    is_empty_class (joined a b) ≡ (is_empty_class a && is_empty_class b)
is_empty-joined class.NoValue b = refl
is_empty-joined class.Empty b = refl
is_empty-joined class.Sized class.NoValue = refl
is_empty-joined class.Sized class.Empty = refl
is_empty-joined class.Sized class.Sized = refl

-- parts together have a value exactly where each of them has one
pub has_value-parts : (f : ℕ → Class) (ts : List ℕ) →
    has_value (class_of_parts f ts) ≡ list_all (λ t. has_value (f t)) ts
has_value-parts f [] = refl
has_value-parts f (t ∷ ts) = has_value-joined (f t) (class_of_parts f ts)
    ∙ ap (λ (b : Bool). has_value (f t) && b) (has_value-parts f ts)

-- parts together have the class Empty exactly where each of them has it
is_empty-parts : (f : ℕ → Class) (ts : List ℕ) →
    is_empty_class (class_of_parts f ts) ≡ list_all (λ t. is_empty_class (f t)) ts
is_empty-parts f [] = refl
is_empty-parts f (t ∷ ts) = is_empty-joined (f t) (class_of_parts f ts)
    ∙ ap (λ (b : Bool). is_empty_class (f t) && b) (is_empty-parts f ts)

-- the fields of some arm together have a value exactly where in some arm each field has one
any_parts : (f : ℕ → Class) (arms : List Arm) →
    list_any (λ a. has_value (class_of_parts f (field_types a.fields))) arms
    ≡ list_any (λ a. list_all (λ t. has_value (f t)) (field_types a.fields)) arms
any_parts f [] = refl
any_parts f (a ∷ arms) = rw (has_value-parts f (field_types a.fields), any_parts f arms) refl

-- a variant has a value exactly where each field of some live arm has one
has_value-arms : (f : ℕ → Class) (arms : List Arm) →
    has_value (class_of_arms f arms)
    ≡ list_any (λ a. list_all (λ t. has_value (f t)) (field_types a.fields)) (live_arms [] arms)
has_value-arms f arms = go
    (list_any (λ a. has_value (class_of_parts f (field_types a.fields))) (live_arms [] arms))
    ∙ any_parts f (live_arms [] arms) where
      go : (b : Bool) → has_value (cond b class.Sized class.NoValue) ≡ b
      go true = refl
      go false = refl

-- a variant never has the class Empty, since its index is a byte
pub is_empty-arms : (f : ℕ → Class) (arms : List Arm) →
    is_empty_class (class_of_arms f arms) ≡ false
is_empty-arms f arms = go
    (list_any (λ a. has_value (class_of_parts f (field_types a.fields))) (live_arms [] arms)) where
      go : (b : Bool) → is_empty_class (cond b class.Sized class.NoValue) ≡ false
      go true = refl
      go false = refl

-- of a class that is Empty or Sized by a test: it has a value, and is Empty where the test holds
compact_class : (b : Bool) → (has_value (cond b class.Empty class.Sized) ≡ true)
    × (is_empty_class (cond b class.Empty class.Sized) ≡ b)
compact_class true = (refl, refl)
compact_class false = (refl, refl)

-- a definition's class by its parts has a value where the definition has one by them
pub has_value-step : (targets : ℕ → Option Target) (f : ℕ → Class) (d : TypeDef) →
    has_value (class_step targets f d) ≡ finite_step (λ t. has_value (f t)) d
has_value-step targets f (Def.Composite fs) = has_value-parts f (field_types fs)
has_value-step targets f (Def.Variant arms) = has_value-arms f arms
has_value-step targets f (Def.Sequence t) = refl
has_value-step targets f (Def.Array zero t) = refl
has_value-step targets f (Def.Array (suc n) t) = refl
has_value-step targets f (Def.Tuple ts) = has_value-parts f (ids ts)
has_value-step targets f (Def.Primitive p) = refl
has_value-step targets f (Def.Compact t) = (compact_class (is_unit (targets t.0))).0
has_value-step targets f (Def.BitSequence store order form) = refl

-- a definition's class by its parts is Empty where the definition takes no bytes by them
pub is_empty-step : (r : List TypeInfo) (f : ℕ → Class) (d : TypeDef) →
    is_empty_class (class_step (target_of r) f d) ≡ empty_step r (λ t. is_empty_class (f t)) d
is_empty-step r f (Def.Composite fs) = is_empty-parts f (field_types fs)
is_empty-step r f (Def.Variant arms) = is_empty-arms f arms
is_empty-step r f (Def.Sequence t) = refl
is_empty-step r f (Def.Array zero t) = refl
is_empty-step r f (Def.Array (suc n) t) = refl
is_empty-step r f (Def.Tuple ts) = is_empty-parts f (ids ts)
is_empty-step r f (Def.Primitive p) = refl
is_empty-step r f (Def.Compact t) = (compact_class (is_unit (target_of r t.0))).1
is_empty-step r f (Def.BitSequence store order form) = refl

-- a class is known by whether it has a value and whether it is Empty
pub class_is : (c : Class) → c ≡ class_from (has_value c) (is_empty_class c)
class_is class.NoValue = refl
class_is class.Empty = refl
class_is class.Sized = refl

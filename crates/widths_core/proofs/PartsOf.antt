-- The parts of rules are the references of the definitions.
use Rattle.std.proofs.Common.{◌≡◌, ℕ, zero, suc, ◌+◌, ◌<◌, Bool, true, false, cond, List, [], ◌∷◌}
use Rattle.std.proofs.Common.{◌++◌, flat_map, refl, ap, ◌∙◌}
use Rattle.std.specs.Prelude.{◌==◌}
use Rattle.std.specs.List.{list_any}
use Rattle.std.proofs.lemmas.List.{append-nil}
use Rattle.std.proofs.lemmas.Grind.{flat_map-append}
use Rattle.types_core.specs.declared.definition.Arm.{Arm}
use Rattle.types_core.specs.declared.definition.TypeDef.{TypeDef}
use Rattle.types_core.specs.declared.definition.TypeDef.TheVariants as Def
use Rattle.types_core.specs.declared.type_info.TypeInfo.{TypeInfo}
use Rattle.widths_core.specs.declared.counter.Kind.TheVariants as kind
use Rattle.graph_core.specs.Types.{ids, field_types}
use Rattle.graph_core.specs.References.{references, AreKnown, AreChecked}
use Rattle.graph_core.proofs.Stopped.{all_front}
use Rattle.widths_core.specs.Rules.{Rule, rule, rules, rules_of, rules_from, arm_rules, found_sized}
use Rattle.widths_core.specs.Rules.{all_parts}

-- the parts of the rules of arms are the types of all fields, those of shadowed arms too
pub parts_of_arms : (t : ℕ) (seen : List ℕ) (arms : List Arm) →
    all_parts (arm_rules t seen arms) ≡ flat_map (λ a. field_types a.fields) arms
parts_of_arms t seen [] = refl
parts_of_arms t seen (a ∷ arms) =
    go (list_any (λ i. i == a.index) seen) (λ s. parts_of_arms t s arms) where
      go : (b : Bool) → ((s : List ℕ) →
          all_parts (arm_rules t s arms) ≡ flat_map (λ x. field_types x.fields) arms) →
          all_parts (cond b (rule t kind.Idle (field_types a.fields) ∷ arm_rules t seen arms)
          (rule t (kind.Fixed found_sized) (field_types a.fields)
          ∷ arm_rules t (a.index ∷ seen) arms))
          ≡ field_types a.fields ++ flat_map (λ x. field_types x.fields) arms
      go true more = ap (λ (xs : List ℕ). field_types a.fields ++ xs) (more seen)
      go false more = ap (λ (xs : List ℕ). field_types a.fields ++ xs) (more (a.index ∷ seen))

-- the parts of the rules of a type are the references of its definition
pub parts_of : (t : ℕ) (d : TypeDef) → all_parts (rules_of t d) ≡ references d
parts_of t (Def.Composite fs) = append-nil (field_types fs)
parts_of t (Def.Variant arms) = parts_of_arms t [] arms
parts_of t (Def.Sequence u) = refl
parts_of t (Def.Array zero u) = refl
parts_of t (Def.Array (suc n) u) = refl
parts_of t (Def.Tuple ts) = append-nil (ids ts)
parts_of t (Def.Primitive p) = refl
parts_of t (Def.Compact u) = refl
parts_of t (Def.BitSequence store order form) = refl

-- the parts of the rules of types are the references of their definitions, in the same order
pub parts_from : (t : ℕ) (r : List TypeInfo) →
    all_parts (rules_from t r) ≡ flat_map (λ i. references i.shape) r
parts_from t [] = refl
parts_from t (x ∷ r) = flat_map-append (λ (y : Rule). y.parts) (rules_of t x.shape)
    (rules_from (t + 1) r) ∙ ap (λ (xs : List ℕ). xs ++ all_parts (rules_from (t + 1) r))
    (parts_of t x.shape) ∙ ap (λ (xs : List ℕ). references x.shape ++ xs) (parts_from (t + 1) r)

-- the parts of all rules of a registry are its references, in the same order
pub all_references : (r : List TypeInfo) →
    all_parts (rules r) ≡ flat_map (λ i. references i.shape) r
all_references r = parts_from 0 r

-- where all references of types are positions, the types are checked
pub checked_by : (n : ℕ) (r : List TypeInfo) → AreKnown n (flat_map (λ i. references i.shape) r) →
    AreChecked n r
checked_by n [] h = tt
checked_by n (x ∷ r) h = let parts =
    all_front (λ t. t < n) (references x.shape) (flat_map (λ i. references i.shape) r) h in
    (parts.0, checked_by n r parts.1)

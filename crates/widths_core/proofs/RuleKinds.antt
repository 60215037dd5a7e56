-- Which rules a definition has, by their kinds and parts.
use Rattle.std.proofs.Common.{◌≡◌, ℕ, zero, suc, ◌+◌, ◌<◌, Bool, true, false, cond, List, [], ◌∷◌}
use Rattle.std.proofs.Common.{length, Some, refl, ap, ◌∙◌, ◌⊎◌, inl, inr, arith}
use Rattle.std.specs.Prelude.{◌==◌}
use Rattle.std.specs.List.{AllByRecursion, list_any}
use Rattle.types_core.specs.declared.definition.Arm.{Arm}
use Rattle.types_core.specs.declared.definition.TypeDef.{TypeDef}
use Rattle.types_core.specs.declared.definition.TypeDef.TheVariants as Def
use Rattle.types_core.specs.declared.type_info.TypeInfo.{TypeInfo}
use Rattle.widths_core.specs.declared.counter.Kind.{Kind}
use Rattle.widths_core.specs.declared.counter.Kind.TheVariants as kind
use Rattle.graph_core.specs.Types.{shape, field_types}
use Rattle.graph_core.proofs.Stopped.{all_joined}
use Rattle.widths_core.specs.Rules.{Rule, rule, rules, rules_of, rules_from, arm_rules}
use Rattle.widths_core.specs.Rules.{kind_of_parts, found_sized, found_none, found_of_primitive}
use Rattle.widths_core.specs.Consistent.{nothing, rule_at}
use Rattle.widths_core.proofs.RuleRight.{all_at}

-- a rule of a definition has this kind and these parts
abbrev pub HasKind : TypeDef → Kind → List ℕ → Type 0
HasKind (Def.Composite fs) k ps = k ≡ kind_of_parts (length fs)
HasKind (Def.Variant arms) k ps = (k ≡ kind.Idle) ⊎ (k ≡ kind.Fixed found_sized)
HasKind (Def.Sequence u) k ps =
    (k ≡ kind.Fixed found_sized) ⊎ ((k ≡ kind.Sequence) × (ps ≡ u.0 ∷ []))
HasKind (Def.Array zero u) k ps = (k ≡ kind.Fixed found_none) ⊎ (k ≡ kind.Idle)
HasKind (Def.Array (suc n) u) k ps = (k ≡ kind.Array) × (ps ≡ u.0 ∷ [])
HasKind (Def.Tuple ts) k ps = k ≡ kind_of_parts (length ts)
HasKind (Def.Primitive p) k ps = k ≡ kind.Fixed (found_of_primitive p)
HasKind (Def.Compact u) k ps = (k ≡ kind.Compact) × (ps ≡ u.0 ∷ [])
HasKind (Def.BitSequence store order form) k ps = k ≡ kind.Fixed found_sized

-- a rule is one of its owner's definition
pub record IsRuleOf (r : List TypeInfo) (x : Rule) : Type 0 where
  pub definition : TypeDef
  pub at : shape r x.owner ≡ Some definition
  pub kind : HasKind definition x.kind x.parts

-- the rules of arms settle the variant as a type that takes bytes, or settle nothing
arms_kind : (r : List TypeInfo) (t : ℕ) (all : List Arm) → shape r t ≡ Some (Def.Variant all) →
    (arms : List Arm) (seen : List ℕ) → AllByRecursion (IsRuleOf r) (arm_rules t seen arms)
arms_kind r t all e [] seen = tt
arms_kind r t all e (a ∷ arms) seen =
    go (list_any (λ i. i == a.index) seen) (arms_kind r t all e arms) where
      go : (c : Bool) → ((s : List ℕ) → AllByRecursion (IsRuleOf r) (arm_rules t s arms)) →
          AllByRecursion (IsRuleOf r)
          (cond c (rule t kind.Idle (field_types a.fields) ∷ arm_rules t seen arms)
          (rule t (kind.Fixed found_sized) (field_types a.fields)
          ∷ arm_rules t (a.index ∷ seen) arms))
      go true more =
          (record { definition = Def.Variant all; at = e; kind = inl refl }, more seen)
      go false more =
          (record { definition = Def.Variant all; at = e; kind = inr refl }, more (a.index ∷ seen))

-- the rules of a definition are its own
rules_kind : (r : List TypeInfo) (t : ℕ) (d : TypeDef) → shape r t ≡ Some d →
    AllByRecursion (IsRuleOf r) (rules_of t d)
rules_kind r t (Def.Composite fs) e =
    (record { definition = Def.Composite fs; at = e; kind = refl }, tt)
rules_kind r t (Def.Variant arms) e = arms_kind r t arms e arms []
rules_kind r t (Def.Sequence u) e = (
  record { definition = Def.Sequence u; at = e; kind = inl refl },
  (record { definition = Def.Sequence u; at = e; kind = inr (refl, refl) }, tt),
)
rules_kind r t (Def.Array zero u) e = (
  record { definition = Def.Array zero u; at = e; kind = inl refl },
  (record { definition = Def.Array zero u; at = e; kind = inr refl }, tt),
)
rules_kind r t (Def.Array (suc n) u) e =
    (record { definition = Def.Array (suc n) u; at = e; kind = (refl, refl) }, tt)
rules_kind r t (Def.Tuple ts) e = (record { definition = Def.Tuple ts; at = e; kind = refl }, tt)
rules_kind r t (Def.Primitive p) e =
    (record { definition = Def.Primitive p; at = e; kind = refl }, tt)
rules_kind r t (Def.Compact u) e =
    (record { definition = Def.Compact u; at = e; kind = (refl, refl) }, tt)
rules_kind r t (Def.BitSequence store order form) e =
    (record { definition = Def.BitSequence store order form; at = e; kind = refl }, tt)

-- the same of types that stand in a registry from a position on
rules_from_kind : (r : List TypeInfo) (s : List TypeInfo) (t : ℕ) →
    ((j : ℕ) (d : TypeDef) → shape s j ≡ Some d → shape r (t + j) ≡ Some d) →
    AllByRecursion (IsRuleOf r) (rules_from t s)
rules_from_kind r [] t h = tt
rules_from_kind r (x ∷ s) t h =
    let here : shape r t ≡ Some x.shape = ap (shape r) (omega arith) ∙ h 0 x.shape refl in
    all_joined (IsRuleOf r) (rules_of t x.shape) (rules_from (t + 1) s)
    (rules_kind r t x.shape here)
    (rules_from_kind r s (t + 1) (λ j d e. ap (shape r) (omega arith) ∙ h (suc j) d e))

-- each rule of a registry is one of its owner's definition
pub rule_kind : (r : List TypeInfo) (k : ℕ) → k < length (rules r) → IsRuleOf r (rule_at r k)
rule_kind r k lt = all_at (IsRuleOf r) (rules r) k nothing
    (rules_from_kind r r 0 (λ j d e. ap (shape r) (omega arith) ∙ e)) lt

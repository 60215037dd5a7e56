-- What settles a type: rules over the types of its parts, in the order of the references in its
-- definition.
use Rattle.std.specs.Prelude.{ℕ, zero, suc, ◌+◌, List, [], ◌∷◌, ◌++◌, length, map, flat_map, Bool}
use Rattle.std.specs.Prelude.{true, false, Option, Some, None, ◌==◌, if◌then◌else◌}
use Rattle.std.specs.List.{list_any}
use Rattle.scale_core.specs.declared.compact.Target.{Target}
use Rattle.scale_core.specs.declared.compact.Target.TheVariants as target
use Rattle.types_core.specs.declared.definition.Arm.{Arm}
use Rattle.types_core.specs.declared.definition.TypeDef.{TypeDef}
use Rattle.types_core.specs.declared.definition.TypeDef.TheVariants as Def
use Rattle.types_core.specs.declared.primitive.Primitive.{Primitive}
use Rattle.types_core.specs.declared.type_info.TypeInfo.{TypeInfo}
use Rattle.widths_core.specs.declared.class.Class.{Class}
use Rattle.widths_core.specs.declared.class.Class.TheVariants as class
use Rattle.widths_core.specs.declared.counter.Found.{Found}
use Rattle.widths_core.specs.declared.counter.Kind.{Kind}
use Rattle.widths_core.specs.declared.counter.Kind.TheVariants as kind
use Rattle.widths_core.specs.declared.counter.Counter.{Counter}
use Rattle.graph_core.specs.Types.{ids, field_types}
use Rattle.widths_core.specs.Targets.{leads_primitive, target_from}
use Rattle.widths_core.specs.ClassTables.{class_of_compact}

-- the class of a type whose parts all have values, by whether one of them takes bytes
abbrev pub class_by : Bool → Class
class_by true = class.Sized
class_by false = class.Empty

-- what is found for the owner, by whether a part takes bytes and by the target of a compact over
-- the last part
abbrev pub outcome : Kind → Bool → Option Target → Option Found
outcome kind.Idle sized last = None
outcome kind.Parts sized last = Some (record { class = class_by sized; target = None })
outcome kind.Wrap sized last = Some (record { class = class_by sized; target = last })
outcome kind.Array sized last = Some (record { class = class_by sized; target = None })
outcome kind.Sequence sized last = None
outcome kind.Compact sized last = Some (record { class = class_of_compact last; target = None })
outcome (kind.Fixed found) sized last = Some found

-- once these parts have settled, their owner settles according to the kind
pub record Rule : Type 0 where
  pub owner : ℕ
  pub kind : Kind
  pub parts : List ℕ

abbrev pub found_sized : Found
found_sized = record { class = class.Sized; target = None }

abbrev pub found_unit : Found
found_unit = record { class = class.Empty; target = Some target.Unit }

abbrev pub found_none : Found
found_none = record { class = class.Empty; target = None }

abbrev pub found_of_primitive : Primitive → Found
found_of_primitive p = record {
  class = class.Sized;
  target =
      target_from (λ u. None) (leads_primitive p);
}

abbrev pub rule : ℕ → Kind → List ℕ → Rule
rule t k ps = record { owner = t; kind = k; parts = ps }

-- the kind of a composite or a tuple with so many parts
abbrev pub kind_of_parts : ℕ → Kind
kind_of_parts zero = kind.Fixed found_unit
kind_of_parts (suc zero) = kind.Wrap
kind_of_parts (suc (suc n)) = kind.Parts

-- an arm settles its variant, unless its index is among `seen`
abbrev pub arm_rules : ℕ → List ℕ → List Arm → List Rule
arm_rules t seen [] = []
arm_rules t seen (a ∷ arms) =
    if list_any (λ i. i == a.index) seen then rule t kind.Idle (field_types a.fields) ∷ arm_rules t
    seen arms else rule t (kind.Fixed found_sized) (field_types a.fields) ∷ arm_rules t
    (a.index ∷ seen) arms

-- an array of at least one element settles when its element type does
abbrev pub array_rules : ℕ → ℕ → List ℕ → List Rule
array_rules t zero ps = rule t (kind.Fixed found_none) [] ∷ rule t kind.Idle ps ∷ []
array_rules t (suc n) ps = rule t kind.Array ps ∷ []

abbrev pub rules_of : ℕ → TypeDef → List Rule
rules_of t (Def.Composite fs) = rule t (kind_of_parts (length fs)) (field_types fs) ∷ []
rules_of t (Def.Variant arms) = arm_rules t [] arms
rules_of t (Def.Sequence u) =
    rule t (kind.Fixed found_sized) [] ∷ rule t kind.Sequence (u.0 ∷ []) ∷ []
rules_of t (Def.Array n u) = array_rules t n (u.0 ∷ [])
rules_of t (Def.Tuple ts) = rule t (kind_of_parts (length ts)) (ids ts) ∷ []
rules_of t (Def.Primitive p) = rule t (kind.Fixed (found_of_primitive p)) [] ∷ []
rules_of t (Def.Compact u) = rule t kind.Compact (u.0 ∷ []) ∷ []
rules_of t (Def.BitSequence store order form) = rule t (kind.Fixed found_sized) [] ∷ []

-- the rules of types from position t on
abbrev pub rules_from : ℕ → List TypeInfo → List Rule
rules_from t [] = []
rules_from t (x ∷ r) = rules_of t x.shape ++ rules_from (t + 1) r

abbrev pub rules : List TypeInfo → List Rule
rules r = rules_from 0 r

-- the counter of a rule before any of its parts has settled
abbrev pub counter_of : Rule → Counter
counter_of x = record { owner = x.owner; kind = x.kind; left = length x.parts; sized = false }

abbrev pub all_parts : List Rule → List ℕ
all_parts xs = flat_map (λ x. x.parts) xs

-- for each part of these rules, the number of its rule, counted from s on
abbrev pub numbers_from : ℕ → List Rule → List ℕ
numbers_from s [] = []
numbers_from s (x ∷ xs) = map (λ _. s) x.parts ++ numbers_from (s + 1) xs

-- Which references have to be positions, and the first that is not one.
use Rattle.std.specs.Prelude.{◌≡◌, ℕ, ◌+◌, ◌<◌, ◌≤◌, List, [], ◌∷◌, ◌++◌, length, flat_map, Option}
use Rattle.std.specs.Prelude.{Some, None, nat_lt, if◌then◌else◌}
use Rattle.std.specs.List.{AllByRecursion}
use Rattle.types_core.specs.declared.definition.TypeDef.{TypeDef}
use Rattle.types_core.specs.declared.definition.TypeDef.TheVariants as Def
use Rattle.types_core.specs.declared.type_info.TypeInfo.{TypeInfo}
use Rattle.graph_core.specs.Types.{ids, field_types}

-- the references that have to be positions, in the order of the definition's bytes: they include
-- those of shadowed arms and of arrays of length 0, but not those of bit sequences
abbrev pub references : TypeDef → List ℕ
references (Def.Composite fs) = field_types fs
references (Def.Variant arms) = flat_map (λ a. field_types a.fields) arms
references (Def.Sequence t) = t.0 ∷ []
references (Def.Array len t) = t.0 ∷ []
references (Def.Tuple ts) = ids ts
references (Def.Primitive p) = []
references (Def.Compact t) = t.0 ∷ []
references (Def.BitSequence store order form) = []

-- all of these are positions among n types
abbrev pub AreKnown : ℕ → List ℕ → Type 0
AreKnown n ts = AllByRecursion (λ t. t < n) ts

-- every reference of these types is a position among n types
abbrev pub AreChecked : ℕ → List TypeInfo → Type 0
AreChecked n r = AllByRecursion (λ i. AreKnown n (references i.shape)) r

-- every reference is a position
abbrev pub IsChecked : List TypeInfo → Type 0
IsChecked r = AreChecked (length r) r

-- u is not a position, the type at position i refers to it, and all references before that one are
-- positions
abbrev pub IsFirstUnknown : List TypeInfo → ℕ → ℕ → Type 0
IsFirstUnknown r i u = (before : List TypeInfo) × (x : TypeInfo) × (after : List TypeInfo)
    × (front back : List ℕ) × (r ≡ before ++ x ∷ after) × (i ≡ length before)
    × (references x.shape ≡ front ++ u ∷ back) × AreChecked (length r) before
    × AreKnown (length r) front × (length r ≤ u)

-- the first of these ids that is not a position among n types
abbrev pub first_unknown : ℕ → List ℕ → Option ℕ
first_unknown n [] = None
first_unknown n (t ∷ ts) = if nat_lt t n then first_unknown n ts else Some t

-- the unknown reference of the type at position i if it has one, and otherwise `others`
abbrev pub fault_or : ℕ → Option ℕ → Option (ℕ × ℕ) → Option (ℕ × ℕ)
fault_or i (Some u) others = Some (i, u)
fault_or i None others = others

-- the first reference that is not a position, with the position of its type, among the types from
-- position i on
abbrev pub unknown_from : ℕ → ℕ → List TypeInfo → Option (ℕ × ℕ)
unknown_from n i [] = None
unknown_from n i (t ∷ ts) =
    fault_or i (first_unknown n (references t.shape)) (unknown_from n (i + 1) ts)

-- the first reference that is not a position, with the position of its type
abbrev pub first_fault : List TypeInfo → Option (ℕ × ℕ)
first_fault r = unknown_from (length r) 0 r

-- there is no fault exactly if every reference is a position; otherwise the fault is the first that
-- is not one
abbrev pub FaultIsFirst : Type 0
FaultIsFirst = (r : List TypeInfo) → (first_fault r ≡ None → IsChecked r)
    × (IsChecked r → first_fault r ≡ None)
    × ((i u : ℕ) → (first_fault r ≡ Some (i, u) → IsFirstUnknown r i u)
    × (IsFirstUnknown r i u → first_fault r ≡ Some (i, u)))

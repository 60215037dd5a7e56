-- What loops over arms and types keep.
use Rattle.std.proofs.Common.{◌≡◌, ℕ, zero, suc, ◌+◌, ◌<◌, ◌^◌, max, List, [], ◌∷◌}
use Rattle.std.proofs.Common.{◌++◌, length, map, get_or, drop, flat_map, Option, Some, None, refl}
use Rattle.std.proofs.Common.{sym, ap, ◌∙◌, arith}
use Rattle.std.specs.List.{AllByRecursion}
use Rattle.std.proofs.lemmas.List.{at_drop_more, length-append, length-map}
use Rattle.types_core.specs.Fits.{FitsArm, FitsList}
use Rattle.types_core.specs.declared.definition.Arm.{Arm}
use Rattle.types_core.specs.declared.definition.Field.{Field}
use Rattle.types_core.specs.declared.definition.TypeDef.{TypeDef}
use Rattle.types_core.specs.declared.type_info.TypeInfo.{TypeInfo}
use Rattle.graph_core.specs.Types.{shape, field_types}
use Rattle.graph_core.specs.References.{references, first_unknown, fault_or, unknown_from}
use Rattle.graph_core.specs.Widths.{greatest}

-- ---- lengths of fields

-- an arm at a position fits, if all do
arm_fits : (arms : List Arm) (i : ℕ) (a : Arm) → AllByRecursion FitsArm arms → i < length arms →
    a ≡ get_or arms i a → FitsArm a
arm_fits [] i a h lt e = absurd (omega (arith, lt))
arm_fits (x ∷ arms) zero a h lt e = rw e h.0
arm_fits (x ∷ arms) (suc i) a h lt e = arm_fits arms i a h.1 (omega (arith, lt)) e

-- the fields of an arm at a position are fewer than 2^32, if all arms fit
pub fields_fit : (arms : List Arm) (i : ℕ) (a : Arm) → FitsList FitsArm arms → i < length arms →
    a ≡ get_or arms i a → length a.fields < 2 ^ 32
fields_fit arms i a h lt e = (arm_fits arms i a h.1 lt e).1.0

-- the fields counted and those of the arms left stay the total as an arm is counted
pub count_passed : (n total i : ℕ) (arms : List Arm) (a : Arm) → i < length arms →
    a ≡ get_or arms i a → n + length (flat_map (λ x. field_types x.fields) (drop i arms)) ≡ total →
    n + length a.fields + length (flat_map (λ x. field_types x.fields) (drop (i + 1) arms)) ≡ total
count_passed n total i arms a lt at h =
    let rest = flat_map (λ (x : Arm). field_types x.fields) (drop (i + 1) arms) in
    let one : length (flat_map (λ (x : Arm). field_types x.fields) (drop i arms))
    ≡ length (flat_map (λ (x : Arm). field_types x.fields)
    (get_or arms i a ∷ drop (i + 1) arms)) =
    at_drop_more (λ (xs : List Arm). length (flat_map (λ (x : Arm). field_types x.fields) xs))
    arms i a lt in
    let two : length (flat_map (λ (x : Arm). field_types x.fields)
    (get_or arms i a ∷ drop (i + 1) arms)) ≡ length (field_types a.fields ++ rest) =
    ap (λ (b : Arm). length (field_types b.fields ++ rest)) (sym at) in
    omega (
      arith,
      h,
      one,
      two,
      length-append (field_types a.fields) rest,
      length-map a.fields (λ (f : Field). f.ty.0),
    )

-- the widest so far and those of the arms left stay the widest as an arm is passed
pub width_passed : (w total i : ℕ) (arms : List Arm) (a : Arm) → i < length arms →
    a ≡ get_or arms i a → max w (greatest (map (λ x. length x.fields) (drop i arms))) ≡ total →
    max (max w (length a.fields)) (greatest (map (λ x. length x.fields) (drop (i + 1) arms)))
    ≡ total
width_passed w total i arms a lt at h =
    let rest = greatest (map (λ (x : Arm). length x.fields) (drop (i + 1) arms)) in
    let one : greatest (map (λ (x : Arm). length x.fields) (drop i arms))
    ≡ greatest (map (λ (x : Arm). length x.fields) (get_or arms i a ∷ drop (i + 1) arms)) =
    at_drop_more (λ (xs : List Arm). greatest (map (λ (x : Arm). length x.fields) xs)) arms i a
    lt in
    let two : greatest (map (λ (x : Arm). length x.fields) (get_or arms i a ∷ drop (i + 1) arms))
    ≡ max (length a.fields) rest = ap (λ (b : Arm). max (length b.fields) rest) (sym at) in
    let so_far : max w (max (length a.fields) rest) ≡ total = rw (one ∙ two) at h in
    omega (arith, so_far)

-- ---- unknown references

-- types from a position on have the fault of the type there, or else of those after it
from_shape : (n k i : ℕ) (r : List TypeInfo) (d : TypeDef) → shape r i ≡ Some d →
    unknown_from n k (drop i r) ≡ fault_or k (first_unknown n (references d))
    (unknown_from n (k + 1) (drop (suc i) r))
from_shape n k i [] d e = absurd cc
from_shape n k zero (x ∷ r) d e = let is : x.shape ≡ d = cc in rw is refl
from_shape n k (suc i) (x ∷ r) d e = from_shape n k i r d e

-- an unknown reference that a type has is the first fault from there on
pub type_has : (n i : ℕ) (r : List TypeInfo) (d : TypeDef) (u : ℕ) (total : Option (ℕ × ℕ)) →
    shape r i ≡ Some d → Some u ≡ first_unknown n (references d) →
    unknown_from n i (drop i r) ≡ total → Some (i, u) ≡ total
type_has n i r d u total e is h =
    ap (λ (o : Option ℕ). fault_or i o (unknown_from n (i + 1) (drop (suc i) r))) is
    ∙ sym (from_shape n i i r d e) ∙ h

-- a type without an unknown reference leaves the first fault to the types after it
pub type_lacks : (n i : ℕ) (r : List TypeInfo) (d : TypeDef) (total : Option (ℕ × ℕ)) →
    shape r i ≡ Some d → None ≡ first_unknown n (references d) →
    unknown_from n i (drop i r) ≡ total → unknown_from n (i + 1) (drop (i + 1) r) ≡ total
type_lacks n i r d total e is h =
    let step : i + 1 ≡ suc i = omega arith in
    let next : unknown_from n (i + 1) (drop (suc i) r) ≡ total =
    ap (λ (o : Option ℕ). fault_or i o (unknown_from n (i + 1) (drop (suc i) r))) is
    ∙ sym (from_shape n i i r d e) ∙ h in
    ap (λ (j : ℕ). unknown_from n (i + 1) (drop j r)) step ∙ next

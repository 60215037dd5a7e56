-- The first unknown reference of an arm's fields and of those of the arms after it.
use Rattle.std.proofs.Common.{◌≡◌, ℕ, suc, ◌+◌, ◌<◌, Bool, true, false, List, [], ◌∷◌, ◌++◌, refl}
use Rattle.std.proofs.Common.{ap, sym, ◌∙◌, length, drop, get_or, add-one, drop-cons}
use Rattle.std.specs.Prelude.{Option, Some, None, if◌then◌else◌, nat_lt, flat_map}
use Rattle.types_core.specs.declared.definition.Arm.{Arm}
use Rattle.graph_core.specs.References.{first_unknown}
use Rattle.graph_core.specs.Types.{field_types}

-- of two lists it is that of the first one, if there is one there
pub first_in_front : (n : ℕ) (xs ys : List ℕ) (u : ℕ) → first_unknown n xs ≡ Some u →
    first_unknown n (xs ++ ys) ≡ Some u
first_in_front n [] ys u e = absurd cc
first_in_front n (x ∷ xs) ys u e =
    go (nat_lt x n) (first_unknown n xs) (first_unknown n (xs ++ ys))
    (λ h. first_in_front n xs ys u h) e where
      go : (b : Bool) (o more : Option ℕ) → (o ≡ Some u → more ≡ Some u) →
          (if b then o else Some x) ≡ Some u → (if b then more else Some x) ≡ Some u
      go true o more ih h = ih h
      go false o more ih h = h

-- and otherwise that of the second one
pub first_behind : (n : ℕ) (xs ys : List ℕ) → first_unknown n xs ≡ None →
    first_unknown n (xs ++ ys) ≡ first_unknown n ys
first_behind n [] ys e = refl
first_behind n (x ∷ xs) ys e =
    go (nat_lt x n) (first_unknown n xs) (first_unknown n (xs ++ ys)) (first_unknown n ys)
    (λ h. first_behind n xs ys h) e where
      go : (b : Bool) (o more others : Option ℕ) → (o ≡ None → more ≡ others) →
          (if b then o else Some x) ≡ None → (if b then more else Some x) ≡ others
      go true o more others ih h = ih h
      go false o more others ih h = absurd cc

-- the types of the fields of these arms
abbrev pub all_fields : List Arm → List ℕ
all_fields arms = flat_map (λ a. field_types a.fields) arms

-- those of the arms from position i on begin with those of the arm there
fields_at : (arms : List Arm) (i : ℕ) (a : Arm) → i < length arms → a ≡ get_or arms i a →
    all_fields (drop i arms) ≡ field_types a.fields ++ all_fields (drop (suc i) arms)
fields_at arms i a inside is =
    ap all_fields (drop-cons arms i a inside ∙ ap (λ x. x ∷ drop (suc i) arms) (sym is))

-- the first one is in this arm
pub in_this_arm : (n : ℕ) (arms : List Arm) (i : ℕ) (a : Arm) (u : ℕ) → i < length arms →
    a ≡ get_or arms i a → first_unknown n (field_types a.fields) ≡ Some u →
    first_unknown n (all_fields (drop i arms)) ≡ Some u
in_this_arm n arms i a u inside is e = ap (first_unknown n) (fields_at arms i a inside is)
    ∙ first_in_front n (field_types a.fields) (all_fields (drop (suc i) arms)) u e

-- the first one is in none of the arms so far, nor in this one
pub in_no_arm : (n : ℕ) (arms : List Arm) (i : ℕ) (a : Arm) → i < length arms →
    a ≡ get_or arms i a → first_unknown n (field_types a.fields) ≡ None →
    first_unknown n (all_fields (drop (i + 1) arms)) ≡ first_unknown n (all_fields (drop i arms))
in_no_arm n arms i a inside is e = ap (λ k. first_unknown n (all_fields (drop k arms))) (add-one i)
    ∙ sym (ap (first_unknown n) (fields_at arms i a inside is)
    ∙ first_behind n (field_types a.fields) (all_fields (drop (suc i) arms)) e)

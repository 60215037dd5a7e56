-- The first arm of an index among the arms that were passed.
use Rattle.std.proofs.Common.{◌≡◌, ℕ, zero, suc, ◌+◌, ◌<◌, Bool, true, false, cond, List, [], ◌∷◌}
use Rattle.std.proofs.Common.{length, get_or, take, Option, Some, None, refl, ap, ◌∙◌, arith}
use Rattle.std.specs.Prelude.{◌==◌, is_some}
use Rattle.std.proofs.lemmas.Bool.{eqb-true}
use Rattle.types_core.specs.declared.definition.Arm.{Arm}
use Rattle.widths_core.specs.Arms.{arm_of, arm_from}

abbrev or_new : Option (ℕ × Arm) → Option (ℕ × Arm) → Option (ℕ × Arm)
or_new None y = y
or_new (Some x) y = Some x

-- where there is no second choice, the first one decides alone
or_none : (x : Option (ℕ × Arm)) → or_new x None ≡ x
or_none None = refl
or_none (Some x) = refl

-- where the first choice is there, the second one does not matter
or_some : (x y : Option (ℕ × Arm)) → is_some x ≡ true → or_new x y ≡ x
or_some None y e = absurd cc
or_some (Some x) y e = refl

-- where the first choice is not there, the second one decides
or_first : (x y : Option (ℕ × Arm)) → is_some x ≡ false → or_new x y ≡ y
or_first None y e = refl
or_first (Some x) y e = absurd cc

-- with one arm more, the first of an index is the former one, or else the new arm if it has it
one_more : (k i j : ℕ) (arms : List Arm) (x : Arm) → i < length arms → x ≡ get_or arms i x →
    arm_from k (take (suc i) arms) j ≡ or_new (arm_from k (take i arms) j)
    (cond (x.index == j) (Some (k + i, x)) None)
one_more k i j [] x lt is = absurd (omega (arith, lt))
one_more k zero j (y ∷ arms) x lt is = let same : x ≡ y = is in let at : k + zero ≡ k =
    omega arith in rw (at, same) refl
one_more k (suc i) j (y ∷ arms) x lt is =
    let at : k + 1 + i ≡ k + suc i = omega arith in
    go (y.index == j) (one_more (k + 1) i j arms x (omega (arith, lt)) is
    ∙ ap (λ (n : ℕ). or_new (arm_from (k + 1) (take i arms) j)
    (cond (x.index == j) (Some (n, x)) None)) at) where
      go : (q : Bool) → arm_from (k + 1) (take (suc i) arms) j
          ≡ or_new (arm_from (k + 1) (take i arms) j)
          (cond (x.index == j) (Some (k + suc i, x)) None) →
          cond q (Some (k, y)) (arm_from (k + 1) (take (suc i) arms) j)
          ≡ or_new (cond q (Some (k, y)) (arm_from (k + 1) (take i arms) j))
          (cond (x.index == j) (Some (k + suc i, x)) None)
      go true more = refl
      go false more = more

-- with one arm more, the first of an index is the former one, or else the new one at its position
next : (i j : ℕ) (arms : List Arm) (x : Arm) → i < length arms → x ≡ get_or arms i x →
    arm_of (take (i + 1) arms) j ≡ or_new (arm_of (take i arms) j)
    (cond (x.index == j) (Some (i, x)) None)
next i j arms x lt is =
    let step : i + 1 ≡ suc i = omega arith in
    let at : 0 + i ≡ i = omega arith in
    rw step (one_more 0 i j arms x lt is
    ∙ ap (λ (n : ℕ). or_new (arm_of (take i arms) j) (cond (x.index == j) (Some (n, x)) None))
    at)

-- an arm whose index an earlier one has changes nothing of which arm is the first of an index
pub shadowed : (i j : ℕ) (arms : List Arm) (x : Arm) → i < length arms → x ≡ get_or arms i x →
    is_some (arm_of (take i arms) x.index) ≡ true →
    arm_of (take (i + 1) arms) j ≡ arm_of (take i arms) j
shadowed i j arms x lt is old = next i j arms x lt is ∙ go (x.index == j) refl where
  go : (q : Bool) → (x.index == j) ≡ q →
      or_new (arm_of (take i arms) j) (cond q (Some (i, x)) None) ≡ arm_of (take i arms) j
  go true e = let same : x.index ≡ j = eqb-true x.index j e in
      or_some (arm_of (take i arms) j) (Some (i, x)) (rw same at old)
  go false e = or_none (arm_of (take i arms) j)

-- an arm of a new index is the first of that one, and for all others nothing changes
pub counted : (i j : ℕ) (arms : List Arm) (x : Arm) → i < length arms → x ≡ get_or arms i x →
    is_some (arm_of (take i arms) x.index) ≡ false →
    arm_of (take (i + 1) arms) j ≡ cond (x.index == j) (Some (i, x)) (arm_of (take i arms) j)
counted i j arms x lt is new = next i j arms x lt is ∙ go (x.index == j) refl where
  go : (q : Bool) → (x.index == j) ≡ q →
      or_new (arm_of (take i arms) j) (cond q (Some (i, x)) None) ≡ cond q (Some (i, x))
      (arm_of (take i arms) j)
  go true e = let same : x.index ≡ j = eqb-true x.index j e in
      or_first (arm_of (take i arms) j) (Some (i, x)) (rw same at new)
  go false e = or_none (arm_of (take i arms) j)

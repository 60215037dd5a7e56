-- Unknown references of parts one after the other.
use Rattle.std.proofs.Common.{◌≡◌, ℕ, Bool, true, false, cond, List, [], ◌∷◌, ◌++◌}
use Rattle.std.proofs.Common.{Some, None, refl}
use Rattle.std.specs.Prelude.{nat_lt}
use Rattle.graph_core.specs.References.{first_unknown}

-- where the first references all are positions, the first unknown one is after them
pub first_unknown-append_none : (n : ℕ) (xs ys : List ℕ) → first_unknown n xs ≡ None →
    first_unknown n (xs ++ ys) ≡ first_unknown n ys
first_unknown-append_none n [] ys e = refl
first_unknown-append_none n (x ∷ xs) ys e =
    go (nat_lt x n) e (first_unknown-append_none n xs ys) where
      go : (known : Bool) → cond known (first_unknown n xs) (Some x) ≡ None →
          (first_unknown n xs ≡ None → first_unknown n (xs ++ ys) ≡ first_unknown n ys) →
          cond known (first_unknown n (xs ++ ys)) (Some x) ≡ first_unknown n ys
      go true e h = h e
      go false e h = absurd cc

-- an unknown reference among the first ones is the first of all
pub first_unknown-append_some : (n : ℕ) (xs ys : List ℕ) (u : ℕ) → first_unknown n xs ≡ Some u →
    first_unknown n (xs ++ ys) ≡ Some u
first_unknown-append_some n [] ys u e = absurd cc
first_unknown-append_some n (x ∷ xs) ys u e =
    go (nat_lt x n) e (first_unknown-append_some n xs ys u) where
      go : (known : Bool) → cond known (first_unknown n xs) (Some x) ≡ Some u →
          (first_unknown n xs ≡ Some u → first_unknown n (xs ++ ys) ≡ Some u) →
          cond known (first_unknown n (xs ++ ys)) (Some x) ≡ Some u
      go true e h = h e
      go false e h = e

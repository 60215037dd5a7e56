-- The children that an open node has.
use Rattle.std.proofs.Common.{◌≡◌, ℕ, zero, suc, ◌+◌, List, [], ◌∷◌, ◌++◌, Some, None, refl, sym}
use Rattle.std.proofs.Common.{ap, subst, arith}
use Rattle.std.proofs.lemmas.Option.{same_Some}
use Rattle.types_core.specs.declared.type_info.TypeInfo.{TypeInfo}
use Rattle.grammar_core.specs.Tree.{Trees, none, and, how_many}
use Rattle.grammar_core.specs.Grammar.{Val, Vals, Each}
use Rattle.grammar_core.specs.Parts.{Part, each, times, first_of, left_after, how_many_left}
use Rattle.grammar_core.specs.Cells.{child_type}
use Rattle.grammar_core.specs.Begun.{FirstValues}

-- where a type is next, it is the type of the next child
pub child_is : (p : Part) (u : ℕ) → first_of p ≡ Some u → child_type p ≡ u
child_is p u e = rw (e, child_type) refl

-- where a type is next, one part less is left after it
pub one_less : (p : Part) (u : ℕ) → first_of p ≡ Some u →
    suc (how_many_left (left_after p)) ≡ how_many_left p
one_less (each []) u e = absurd cc
one_less (each (t ∷ ts)) u e = refl
one_less (times zero t) u e = absurd cc
one_less (times (suc n) t) u e = refl

-- where none is next, no part is left
pub none_left : (p : Part) → first_of p ≡ None → how_many_left p ≡ 0
none_left (each []) e = refl
none_left (each (t ∷ ts)) e = absurd cc
none_left (times zero t) e = refl
none_left (times (suc n) t) e = absurd cc

-- the first values and the parts that are left are as many as all parts
pub first_count : (r : List TypeInfo) (p : Part) (vs : Trees) (b : List ℕ) (left : Part) →
    FirstValues r p vs b left → how_many vs + how_many_left left ≡ how_many_left p
first_count r p none b left h = omega (arith, ap how_many_left h.1)
first_count r p (and v vs) b left h =
    omega (arith, first_count r (left_after p) vs h.2 left h.6, one_less p h.0 h.3)

-- the first values by a list of types are values of its front
pub first_fields : (r : List TypeInfo) (ts : List ℕ) (vs : Trees) (b : List ℕ) (left : Part) →
    FirstValues r (each ts) vs b left → (front back : List ℕ) × (ts ≡ front ++ back)
    × (left ≡ each back) × Vals r front vs b
unfolding Val
first_fields r ts none b left h = ([], ts, refl, h.1, h.0)
first_fields r [] (and v vs) b left h = let no = h.3 in absurd cc
first_fields r (t ∷ ts) (and v vs) b left h =
    let s = first_fields r ts vs h.2 left h.6 in
    let one : Val r t v h.1 = subst (λ (u : ℕ). Val r u v h.1) (sym (same_Some t h.0 h.3)) h.5 in
    (t ∷ s.0, s.1, ap (λ (us : List ℕ). t ∷ us) s.2, s.3, (h.1, h.2, h.4, one, s.4))

-- the first of so many values of one type are values of it
pub first_elements : (r : List TypeInfo) (n u : ℕ) (vs : Trees) (b : List ℕ) (left : Part) →
    FirstValues r (times n u) vs b left → Each r u vs b
unfolding Val
first_elements r n u none b left h = h.0
first_elements r zero u (and v vs) b left h = let no = h.3 in absurd cc
first_elements r (suc n) u (and v vs) b left h =
    let one : Val r u v h.1 = subst (λ (t : ℕ). Val r t v h.1) (sym (same_Some u h.0 h.3)) h.5 in
    (h.1, h.2, h.4, one, first_elements r n u vs h.2 left h.6)

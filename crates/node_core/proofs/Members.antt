-- The references that are left of an open node, one after the other.
use Rattle.std.proofs.Common.{◌≡◌, ℕ, zero, suc, ◌+◌, ◌-◌, ◌<◌, ◌≤◌, List, [], length}
use Rattle.std.proofs.Common.{Option, Some, None, refl, ap, arith, inl, inr}
use Rattle.std.specs.Prelude.{slice_get, is_none, ◌==◌}
use Rattle.std.proofs.lemmas.Bool.{ne_eqb}
use Rattle.std.proofs.lemmas.Option.{slice_get-get_or, slice_get_cases, slice_get_past}
use Rattle.grammar_core.specs.Parts.{each, first_of, left_after}
use Rattle.node_core.specs.Remaining.{followed_by, left_by, members_before, parts_by, IsWithin}
use Rattle.node_core.specs.Remaining.{have_one_type}
use Rattle.node_core.specs.declared.remaining.Remaining.{Remaining}

-- none is left past the last reference
none_past : (refs : List ℕ) (end n : ℕ) → length refs ≤ end - n → members_before refs end n ≡ []
none_past refs end zero h = refl
none_past refs end (suc n) h =
    ap (λ (o : Option ℕ). followed_by o (members_before refs end n))
    (slice_get_past refs (end - suc n) h)

-- with one less to come the first is gone
one_less_member : (refs : List ℕ) (end n : ℕ) →
    each (members_before refs end n) ≡ left_after (each (members_before refs end (suc n)))
one_less_member refs end n = elim (slice_get_cases refs (end - suc n)).1 [
  | inl there ↦ rw there.2 refl
  | inr past ↦ rw (past.1, none_past refs end n (omega (arith, past.0))) refl
]

-- with the number of parts one less, what is left is what was left without the next one
pub one_less : (refs : List ℕ) (n element end : ℕ) →
    parts_by refs (n - 1) element end ≡ left_after (parts_by refs n element end)
one_less refs zero element zero = refl
one_less refs zero element (suc end) = refl
one_less refs (suc n) element zero =
    let down : suc n - 1 ≡ n = omega arith in
    rw down refl
one_less refs (suc n) element (suc end) =
    let down : suc n - 1 ≡ n = omega arith in
    rw down (one_less_member refs end n)

-- the first that is left is the reference at its place, where that is there
first_followed : (o : Option ℕ) (ts : List ℕ) → o ≡ first_of (each (followed_by o ts))
first_followed (Some t) ts = refl
first_followed None ts = refl

-- the type that is next, where members are left, is the reference as far from the last as many are
pub first_left : (refs : List ℕ) (n element end at : ℕ) → 1 ≤ n → 1 ≤ end → at ≡ end - 1 - n →
    slice_get refs at ≡ first_of (parts_by refs n element end)
first_left refs zero element end at h k e = absurd (omega (arith, h))
first_left refs (suc n) element zero at h k e = absurd (omega (arith, k))
first_left refs (suc n) element (suc end) at h k e =
    let same : at ≡ end - suc n = omega (arith, e) in
    rw same (first_followed (slice_get refs (end - suc n)) (members_before refs end n))

-- where the references are there, nothing is left exactly where none is counted
pub none_counted : (refs : List ℕ) (l : Remaining) → IsWithin refs l →
    (l.count == 0) ≡ is_none (first_of (left_by refs l))
none_counted refs l h = go l.count l.end h.counted h.there where
  go : (n end : ℕ) → (1 ≤ end → n < end) → end ≤ length refs + 1 →
      (n == 0) ≡ is_none (first_of (parts_by refs n l.element end))
  go zero zero f w = refl
  go zero (suc end) f w = refl
  go (suc n) zero f w = ne_eqb (suc n) 0 (λ e. absurd (omega (arith, e)))
  go (suc n) (suc end) f w =
      let less = f (omega arith) in
      rw (slice_get-get_or refs (end - suc n) 0 (omega (arith, less, w)))
      (ne_eqb (suc n) 0 (λ e. absurd (omega (arith, e))))

-- the parts are those of a list exactly where no reference is named as the last of theirs
pub one_type : (refs : List ℕ) (l : Remaining) → (l.end == 0) ≡ have_one_type (left_by refs l)
one_type refs l = go l.end where
  go : (end : ℕ) → (end == 0) ≡ have_one_type (parts_by refs l.count l.element end)
  go zero = refl
  go (suc end) = ne_eqb (suc end) 0 (λ e. absurd (omega (arith, e)))

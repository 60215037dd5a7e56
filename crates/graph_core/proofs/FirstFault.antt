-- The first reference to no position.
use Rattle.std.proofs.Common.{◌≡◌, ℕ, ◌+◌, ◌<◌, ◌≤◌, Bool, true, false, cond, List, [], ◌∷◌, ◌++◌}
use Rattle.std.proofs.Common.{length, Option, Some, None, refl, ap, ◌∙◌, arith}
use Rattle.std.specs.Prelude.{nat_lt}
use Rattle.std.proofs.lemmas.Bool.{ltb-true, ltb-false, lt-ltb, le-ltb}
use Rattle.types_core.specs.declared.type_info.TypeInfo.{TypeInfo}
use Rattle.graph_core.specs.References.{references, AreKnown, AreChecked, IsFirstUnknown}
use Rattle.graph_core.specs.References.{first_unknown, fault_or, unknown_from, first_fault}
use Rattle.graph_core.specs.References.{FaultIsFirst}

-- among references that all are positions none is unknown
pub known_none : (n : ℕ) (ts : List ℕ) → AreKnown n ts → first_unknown n ts ≡ None
known_none n [] h = refl
known_none n (t ∷ ts) h = rw (lt-ltb t n h.0) (known_none n ts h.1)

-- where no unknown reference is found, all are positions
pub none_known : (n : ℕ) (ts : List ℕ) → first_unknown n ts ≡ None → AreKnown n ts
none_known n [] e = tt
none_known n (t ∷ ts) e = go (nat_lt t n) refl e (none_known n ts) where
  go : (b : Bool) → nat_lt t n ≡ b → cond b (first_unknown n ts) (Some t) ≡ None →
      (first_unknown n ts ≡ None → AreKnown n ts) → (t < n) × AreKnown n ts
  go true f g h = (ltb-true t n f, h g)
  go false f g h = absurd cc

abbrev SplitsAtUnknown : ℕ → List ℕ → ℕ → Type 0
SplitsAtUnknown n ts u = (front back : List ℕ) × (ts ≡ front ++ u ∷ back)
    × AreKnown n front × (n ≤ u)

-- an unknown reference that is found is no position, and those before it are
some_split : (n : ℕ) (ts : List ℕ) (u : ℕ) → first_unknown n ts ≡ Some u → SplitsAtUnknown n ts u
some_split n [] u e = absurd cc
some_split n (t ∷ ts) u e = go (nat_lt t n) refl e (some_split n ts u) where
  go : (b : Bool) → nat_lt t n ≡ b → cond b (first_unknown n ts) (Some t) ≡ Some u →
      (first_unknown n ts ≡ Some u → SplitsAtUnknown n ts u) → SplitsAtUnknown n (t ∷ ts) u
  go true f g h = let s = h g in
      (t ∷ s.0, s.1, ap (λ (x : List ℕ). t ∷ x) s.2, (ltb-true t n f, s.3), s.4)
  go false f g h = let same : t ≡ u = cc in
      ([], ts, rw same refl, tt, omega (arith, ltb-false t n f, same))

-- a reference that is no position, with positions before it, is the one that is found
pub split_some : (n : ℕ) (front : List ℕ) (u : ℕ) (back : List ℕ) → AreKnown n front → n ≤ u →
    first_unknown n (front ++ u ∷ back) ≡ Some u
split_some n [] u back h le = rw (le-ltb u n le) refl
split_some n (t ∷ front) u back h le = rw (lt-ltb t n h.0) (split_some n front u back h.1 le)

-- types whose references all are positions have no fault
checked_none : (n j : ℕ) (r : List TypeInfo) → AreChecked n r → unknown_from n j r ≡ None
checked_none n j [] h = refl
checked_none n j (x ∷ r) h =
    rw (known_none n (references x.shape) h.0) (checked_none n (j + 1) r h.1)

-- where types have no fault, all their references are positions
none_checked : (n j : ℕ) (r : List TypeInfo) → unknown_from n j r ≡ None → AreChecked n r
none_checked n j [] e = tt
none_checked n j (x ∷ r) e =
    go (first_unknown n (references x.shape)) refl e (none_checked n (j + 1) r) where
      go : (o : Option ℕ) → first_unknown n (references x.shape) ≡ o →
          fault_or j o (unknown_from n (j + 1) r) ≡ None →
          (unknown_from n (j + 1) r ≡ None → AreChecked n r) → AreChecked n (x ∷ r)
      go (Some u) f g h = absurd cc
      go None f g h = (none_known n (references x.shape) f, h g)

abbrev FirstUnknownAt : ℕ → ℕ → List TypeInfo → ℕ → ℕ → Type 0
FirstUnknownAt n j r i u = (before : List TypeInfo) × (x : TypeInfo) × (after : List TypeInfo)
    × (front back : List ℕ) × (r ≡ before ++ x ∷ after) × (i ≡ j + length before)
    × (references x.shape ≡ front ++ u ∷ back) × AreChecked n before × AreKnown n front × (n ≤ u)

abbrev pub found : ℕ × ℕ → Option (ℕ × ℕ)
found p = Some p

-- two pairs that are found and equal are one
pub some_is : (p q : ℕ × ℕ) → found p ≡ found q → p ≡ q
some_is p q e = cc

-- a fault that is found is the first reference to no position, at its type
some_first : (n j : ℕ) (r : List TypeInfo) (i u : ℕ) → unknown_from n j r ≡ Some (i, u) →
    FirstUnknownAt n j r i u
some_first n j [] i u e = absurd cc
some_first n j (x ∷ r) i u e =
    go (first_unknown n (references x.shape)) refl e (some_first n (j + 1) r i u) where
      go : (o : Option ℕ) → first_unknown n (references x.shape) ≡ o →
          fault_or j o (unknown_from n (j + 1) r) ≡ Some (i, u) →
          (unknown_from n (j + 1) r ≡ Some (i, u) → FirstUnknownAt n (j + 1) r i u) →
          FirstUnknownAt n j (x ∷ r) i u
      go (Some v) f g h =
          let same = some_is (j, v) (i, u) g in
          let s = some_split n (references x.shape) u (f ∙ ap (λ (p : ℕ × ℕ). Some p.1) same) in
          ([], x, r, s.0, s.1, refl, omega (arith, ap (λ (p : ℕ × ℕ). p.0) same), s.2, tt, s.3, s.4)
      go None f g h =
          let s = h g in (
            x ∷ s.0,
            s.1,
            s.2,
            s.3,
            s.4,
            ap (λ (y : List TypeInfo). x ∷ y) s.5,
            omega (arith, s.6),
            s.7,
            (none_known n (references x.shape) f, s.8),
            s.9,
            s.10,
          )

-- the first reference to no position is the fault that is found
first_some : (n j : ℕ) (before : List TypeInfo) (x : TypeInfo) (after : List TypeInfo)
    (front back : List ℕ) (u : ℕ) → references x.shape ≡ front ++ u ∷ back → AreChecked n before →
    AreKnown n front → n ≤ u → unknown_from n j (before ++ x ∷ after) ≡ Some (j + length before, u)
first_some n j [] x after front back u e h k le =
    rw (e, split_some n front u back k le) (ap (λ (i : ℕ). found (i, u)) (omega arith))
first_some n j (y ∷ before) x after front back u e h k le =
    rw (known_none n (references y.shape) h.0)
    (first_some n (j + 1) before x after front back u e h.1 k le
    ∙ ap (λ (i : ℕ). found (i, u)) (omega arith))

-- there is a fault exactly where a reference is no position, and it is the first such one
pub fault_is_first : FaultIsFirst
fault_is_first r = (
  none_checked (length r) 0 r,
  checked_none (length r) 0 r,
  λ i u. (forth i u, back i u),
) where
  forth : (i u : ℕ) → first_fault r ≡ Some (i, u) → IsFirstUnknown r i u
  forth i u e = let s = some_first (length r) 0 r i u e in
      (s.0, s.1, s.2, s.3, s.4, s.5, omega (arith, s.6), s.7, s.8, s.9, s.10)

  back : (i u : ℕ) → IsFirstUnknown r i u → first_fault r ≡ Some (i, u)
  back i u s = ap (unknown_from (length r) 0) s.5
      ∙ first_some (length r) 0 s.0 s.1 s.2 s.3 s.4 u s.7 s.8 s.9 s.10
      ∙ ap (λ (k : ℕ). found (k, u)) (omega (arith, s.6))

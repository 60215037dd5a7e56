-- The first byte with an unused bit that is 1, in fronts and continuations of bytes.
use Rattle.std.proofs.Common.{◌≡◌, ℕ, zero, suc, ◌+◌, ◌<◌, ◌≤◌, Bool, true, false, cond, List, []}
use Rattle.std.proofs.Common.{◌∷◌, ◌++◌, length, take, Option, Some, None, refl, arith, ap, sym}
use Rattle.std.proofs.Common.{◌∙◌}
use Rattle.std.proofs.Common.{drop, get_or}
use Rattle.std.proofs.Math.Seq.{take-suc}
use Rattle.std.proofs.lemmas.Grind.{div_ceil_times}
use Rattle.std.proofs.lemmas.List.{length-take-le, take-append-drop}
use Rattle.std.specs.Prelude.{option_map, ◌*◌, ◌/◌, ◌%◌, min}
use Rattle.types_core.specs.Kinds.{width_bytes}
use Rattle.types_core.specs.declared.kind.IntegerWidth.{IntegerWidth}
use Rattle.types_core.specs.declared.kind.IntegerWidth.TheVariants as width
use Rattle.types_core.specs.Bits.{bits_bytes, first_unused, is_clean}
use Rattle.types_core.specs.declared.bits.BitForm.{BitForm}

-- it is one of the bytes
pub unused_within : (f : BitForm) (n place : ℕ) (xs : List ℕ) (i : ℕ) →
    first_unused f n place xs ≡ Some i → i < length xs
unused_within f n place [] i e = absurd cc
unused_within f n place (x ∷ xs) i e =
    go (is_clean f n place x) (first_unused f n (suc place) xs)
    (λ k is. unused_within f n (suc place) xs k is) e where
      go : (b : Bool) (o : Option ℕ) → ((k : ℕ) → o ≡ Some k → k < length xs) →
          cond b (option_map suc o) (Some 0) ≡ Some i → i < suc (length xs)
      go false o ih h = let at : 0 ≡ i = cc in omega (arith, at)
      go true None ih h = absurd cc
      go true (Some k) ih h = let at : suc k ≡ i = cc in omega (arith, at, ih k refl)

-- more bytes after it change nothing
pub unused_more : (f : BitForm) (n place : ℕ) (xs ys : List ℕ) (i : ℕ) →
    first_unused f n place xs ≡ Some i → first_unused f n place (xs ++ ys) ≡ Some i
unused_more f n place [] ys i e = absurd cc
unused_more f n place (x ∷ xs) ys i e =
    go (is_clean f n place x) (first_unused f n (suc place) xs)
    (λ k is. unused_more f n (suc place) xs ys k is) e where
      go : (b : Bool) (o : Option ℕ) →
          ((k : ℕ) → o ≡ Some k → first_unused f n (suc place) (xs ++ ys) ≡ Some k) →
          cond b (option_map suc o) (Some 0) ≡ Some i →
          cond b (option_map suc (first_unused f n (suc place) (xs ++ ys))) (Some 0) ≡ Some i
      go false o ih h = h
      go true None ih h = absurd cc
      go true (Some k) ih h = rw (ih k refl) h

-- after bytes without one, it is the first one of those that follow
pub unused_after : (f : BitForm) (n place : ℕ) (xs ys : List ℕ) →
    first_unused f n place xs ≡ None → first_unused f n place (xs ++ ys)
    ≡ option_map (λ i. length xs + i) (first_unused f n (place + length xs) ys)
unused_after f n place [] ys e = let at : place + 0 ≡ place = omega arith in
    rw at (same (first_unused f n place ys)) where
      same : (o : Option ℕ) → o ≡ option_map (λ i. 0 + i) o
      same None = refl
      same (Some i) = ap Some (omega arith)
unused_after f n place (x ∷ xs) ys e =
    go (is_clean f n place x) (first_unused f n (suc place) xs)
    (λ is. unused_after f n (suc place) xs ys is) e where
      moved : (o : Option ℕ) → option_map suc (option_map (λ i. length xs + i) o)
          ≡ option_map (λ i. suc (length xs) + i) o
      moved None = refl
      moved (Some i) = ap Some (omega arith)

      go : (b : Bool) (o : Option ℕ) → (o ≡ None → first_unused f n (suc place) (xs ++ ys)
          ≡ option_map (λ i. length xs + i) (first_unused f n (suc place + length xs) ys)) →
          cond b (option_map suc o) (Some 0) ≡ None →
          cond b (option_map suc (first_unused f n (suc place) (xs ++ ys))) (Some 0)
          ≡ option_map (λ i. suc (length xs) + i) (first_unused f n (place + suc (length xs)) ys)
      go false o ih h = absurd cc
      go true (Some k) ih h = absurd cc
      go true None ih h =
          let at : place + suc (length xs) ≡ suc place + length xs = omega arith in
          rw (ih refl, at) (moved (first_unused f n (suc place + length xs) ys))

-- no front that ends before it has one
pub unused_before : (f : BitForm) (n place : ℕ) (xs : List ℕ) (i j : ℕ) →
    first_unused f n place xs ≡ Some i → j ≤ i → first_unused f n place (take j xs) ≡ None
unused_before f n place xs i zero e le = refl
unused_before f n place [] i (suc j) e le = absurd cc
unused_before f n place (x ∷ xs) i (suc j) e le =
    go (is_clean f n place x) (first_unused f n (suc place) xs)
    (λ k is. unused_before f n (suc place) xs k j is) e where
      go : (b : Bool) (o : Option ℕ) → ((k : ℕ) → o ≡ Some k → j ≤ k →
          first_unused f n (suc place) (take j xs) ≡ None) →
          cond b (option_map suc o) (Some 0) ≡ Some i →
          cond b (option_map suc (first_unused f n (suc place) (take j xs))) (Some 0) ≡ None
      go false o ih h = let at : 0 ≡ i = cc in absurd (omega (arith, at, le))
      go true None ih h = absurd cc
      go true (Some k) ih h =
          let at : suc k ≡ i = cc in rw (ih k refl (omega (arith, at, le))) refl

-- the front that ends with it has it
pub unused_front : (f : BitForm) (n place : ℕ) (xs : List ℕ) (i : ℕ) →
    first_unused f n place xs ≡ Some i → first_unused f n place (take (suc i) xs) ≡ Some i
unused_front f n place [] i e = absurd cc
unused_front f n place (x ∷ xs) i e =
    go (is_clean f n place x) (first_unused f n (suc place) xs) i
    (λ k is. unused_front f n (suc place) xs k is) e where
      go : (b : Bool) (o : Option ℕ) (i : ℕ) →
          ((k : ℕ) → o ≡ Some k → first_unused f n (suc place) (take (suc k) xs) ≡ Some k) →
          cond b (option_map suc o) (Some 0) ≡ Some i →
          cond b (option_map suc (first_unused f n (suc place) (take i xs))) (Some 0) ≡ Some i
      go false o i ih h = h
      go true None i ih h = absurd cc
      go true (Some k) zero ih h = absurd cc
      go true (Some k) (suc i) ih h =
          let at : k ≡ i = cc in rw (ih i (ap Some at)) refl

-- a front of bytes without one has none
pub unused_none : (f : BitForm) (n place : ℕ) (xs ys : List ℕ) →
    first_unused f n place (xs ++ ys) ≡ None → first_unused f n place xs ≡ None
unused_none f n place xs ys e = go (first_unused f n place xs) refl where
  go : (o : Option ℕ) → first_unused f n place xs ≡ o → first_unused f n place xs ≡ None
  go None is = is
  go (Some i) is = let other = unused_more f n place xs ys i is in absurd cc

-- after j bytes without one, the next byte is clean, or it is the first one that isn't
pub unused_next : (f : BitForm) (n place : ℕ) (xs : List ℕ) (j : ℕ) → j < length xs →
    first_unused f n place (take j xs) ≡ None →
    first_unused f n place (take (j + 1) xs)
    ≡ cond (is_clean f n (place + j) (get_or xs j 0)) None (Some j)
unused_next f n place xs j lt none =
    let len : length (take j xs) ≡ j = length-take-le j xs (omega (arith, lt)) in
    let next : j + 1 ≡ suc j = omega arith in
    ap (first_unused f n place) (rw next (take-suc xs j 0 lt))
    ∙ unused_after f n place (take j xs) (get_or xs j 0 ∷ []) none
    ∙ rw len (go (is_clean f n (place + j) (get_or xs j 0))) where
      go : (b : Bool) → option_map (λ i. j + i) (cond b (option_map suc None) (Some 0))
          ≡ cond b None (Some j)
      go true = refl
      go false = ap Some (omega arith)

-- one among the first bytes is the first one of all
pub unused_first : (f : BitForm) (n place : ℕ) (xs : List ℕ) (i j : ℕ) →
    first_unused f n place (take j xs) ≡ Some i → first_unused f n place xs ≡ Some i
unused_first f n place xs i j e =
    ap (first_unused f n place) (sym (take-append-drop j xs))
    ∙ unused_more f n place (take j xs) (drop j xs) i e

-- the words of n bits have room for them, and less than 256 bits more
pub bits_cover : (f : BitForm) (n : ℕ) → (n ≤ 8 * bits_bytes f n) × (8 * bits_bytes f n < n + 256)
bits_cover f n = go f.store where
  go : (w : IntegerWidth) → let size = width_bytes w in
      let bytes = (n / (8 * size) + min 1 (n % (8 * size))) * size in
      (n ≤ 8 * bytes) × (8 * bytes < n + 256)
  go width.Bits8 =
      let t = div_ceil_times n 8 (omega arith) in (omega (arith, t.0), omega (arith, t.1))
  go width.Bits16 =
      let t = div_ceil_times n 16 (omega arith) in (omega (arith, t.0), omega (arith, t.1))
  go width.Bits32 =
      let t = div_ceil_times n 32 (omega arith) in (omega (arith, t.0), omega (arith, t.1))
  go width.Bits64 =
      let t = div_ceil_times n 64 (omega arith) in (omega (arith, t.0), omega (arith, t.1))
  go width.Bits128 =
      let t = div_ceil_times n 128 (omega arith) in (omega (arith, t.0), omega (arith, t.1))

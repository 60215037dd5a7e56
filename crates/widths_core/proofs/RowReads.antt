-- What is found in a row of arms.
use Rattle.std.proofs.Common.{◌≡◌, ℕ, ◌+◌, ◌-◌, ◌<◌, ◌≤◌, List, length, get_or, drop, Option}
use Rattle.std.proofs.Common.{Result, Ok, Err, refl, sym, ◌∙◌, arith, inl, inr}
use Rattle.std.specs.List.Sorted.{IsBinarySearchResult}
use Rattle.std.specs.Ordering.{nat_cmp}
use Rattle.std.specs.Prelude.{MatchOption}
use Rattle.std.specs.Result.{result_ok}
use Rattle.std.proofs.lemmas.Bool.{cases_lt, cases_eq}
use Rattle.std.proofs.lemmas.List.{length-drop, get_or-drop}
use Rattle.std.proofs.lemmas.List.Sorted.{searched}
use Rattle.widths_core.specs.Rows.{Rises, IsIn, Lacks, BelongsAt}

-- ---- a row that rises

-- in the part of a list from a place on, where it rises, a later number is not less
rises_on : (xs : List ℕ) (f : ℕ) → Rises xs f (length xs) → (i j : ℕ) → i ≤ j →
    j < length (drop f xs) → get_or (drop f xs) i 0 ≤ get_or (drop f xs) j 0
rises_on xs f h i j le lt =
    let len = length-drop f xs in
    rw (get_or-drop f xs i 0, get_or-drop f xs j 0) (elim (cases_eq i j) [
      | inl same ↦ rw same (omega arith)
      | inr other ↦ let less =
          h (f + i) (f + j) (omega arith) (omega (arith, le, other)) (omega (arith, lt, len)) in
          omega (arith, less)
    ])

-- where the binary search from a place on finds the number, it is in the list so far after that
pub row_searched : (xs : List ℕ) (f v : ℕ) (r : Result ℕ ℕ) → Rises xs f (length xs) →
    IsBinarySearchResult (λ y. nat_cmp y v) (drop f xs) r → (p : ℕ) → r ≡ Ok p →
    IsIn xs f (length xs) v (f + p)
row_searched xs f v (Ok q) h b p e =
    let s = searched (drop f xs) v (Ok q) b (rises_on xs f h) in
    let same : q ≡ p = cc in
    let lt = s.0 in
    record {
      above = omega arith;
      below = omega (arith, lt, length-drop f xs, same);
      is = rw (← same) (sym (get_or-drop f xs q 0) ∙ s.1);
    }
row_searched xs f v (Err q) h b p e = absurd cc

-- where the binary search from a place on finds nothing, it reports where the number belongs
pub row_missed : (xs : List ℕ) (f v : ℕ) (r : Result ℕ ℕ) → f ≤ length xs → Rises xs f (length xs) →
    IsBinarySearchResult (λ y. nat_cmp y v) (drop f xs) r → (p : ℕ) → r ≡ Err p →
    BelongsAt xs f v (f + p)
row_missed xs f v (Ok q) le h b p e = absurd cc
row_missed xs f v (Err q) le h b p e =
    let s = searched (drop f xs) v (Err q) b (rises_on xs f h) in
    let same : q ≡ p = cc in
    let within = s.0 in
    let len = length-drop f xs in
    record {
      above = omega arith;
      within = omega (arith, within, len, same, le);
      less = λ j ge lt. rw (read j ge) (s.1 (j - f) (omega (arith, ge, lt, same)));
      greater = λ j ge lt. rw (read j (omega (arith, ge)))
          (s.2 (j - f) (omega (arith, ge, same)) (omega (arith, ge, lt, len, same)));
    } where
      read : (j : ℕ) → f ≤ j → get_or xs j 0 ≡ get_or (drop f xs) (j - f) 0
      read j ge = let back : f + (j - f) ≡ j = omega (arith, ge) in
          sym (rw back at (get_or-drop f xs (j - f) 0))

-- a number that belongs between others is none of them
pub belongs_lacks : (xs : List ℕ) (f v p : ℕ) → BelongsAt xs f v p → Lacks xs f (length xs) v
belongs_lacks xs f v p h j ge lt is = elim (cases_lt j p) [
  | inl below ↦ let less = h.less j ge below in omega (arith, less, is)
  | inr above ↦ let greater = h.greater j above lt in omega (arith, greater, is)
]

-- ---- a row among others

-- ---- a whole row

-- in a rising list the binary search answers the number's place, or else the list lacks it
pub row_answer : (xs : List ℕ) (v : ℕ) (r : Result ℕ ℕ) (o : Option ℕ) → Rises xs 0 (length xs) →
    IsBinarySearchResult (λ y. nat_cmp y v) xs r → o ≡ result_ok r →
    MatchOption o (Lacks xs 0 (length xs) v) (λ i. IsIn xs 0 (length xs) v i)
row_answer xs v (Ok p) o h b e = let at : 0 + p ≡ p = omega arith in
    rw e (rw at at (row_searched xs 0 v (Ok p) h b p refl))
row_answer xs v (Err p) o h b e =
    rw e (belongs_lacks xs 0 v (0 + p) (row_missed xs 0 v (Err p) (omega arith) h b p refl))

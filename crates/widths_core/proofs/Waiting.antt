-- References that were not propagated, and the parts of rules.
use Rattle.std.proofs.Common.{◌≡◌, ◌≢◌, ℕ, zero, suc, ◌+◌, ◌-◌, ◌<◌, ◌≤◌, Bool, true, false, cond}
use Rattle.std.proofs.Common.{List, [], ◌∷◌, ◌++◌, length, map, get_or, refl, sym, ap, ◌∙◌, ◌⊎◌}
use Rattle.std.proofs.Common.{add-zero, arith, inl, inr}
use Rattle.std.specs.Prelude.{◌==◌, ◌&&◌}
use Rattle.std.specs.List.{list_all, list_any}
use Rattle.std.proofs.lemmas.Bool.{eq-eqb, cases_lt, cases_eq, ne_eqb}
use Rattle.std.proofs.lemmas.List.{length-append, length-map, get_or_append_left}
use Rattle.std.proofs.lemmas.List.{get_or-append_right, get_or-append-add}
use Rattle.graph_core.specs.Counts.{times}
use Rattle.widths_core.specs.Rules.{Rule, all_parts, numbers_from}
use Rattle.widths_core.specs.Consistent.{nothing, waiting}
use Rattle.widths_core.proofs.Ranks.{and_parts, or_left, or_right}

-- ---- how often

-- a number that comes to the front of a list is in it once more
pub times-same : (x : ℕ) (xs : List ℕ) → times x (x ∷ xs) ≡ 1 + times x xs
times-same x xs = rw (eq-eqb x x refl) refl

-- another number at the front changes nothing of how often one is in a list
pub times-other : (x y : ℕ) (xs : List ℕ) → y ≢ x → times x (y ∷ xs) ≡ times x xs
times-other x y xs ne = rw (ne_eqb y x ne) (omega arith)

-- a number is in two lists joined as often as in both together
pub times-append : (x : ℕ) (xs ys : List ℕ) → times x (xs ++ ys) ≡ times x xs + times x ys
times-append x [] ys = omega arith
times-append x (y ∷ xs) ys = omega (arith, times-append x xs ys)

-- ---- references that were not propagated

-- a test together with one that holds is that test alone
and_true : (b : Bool) → (b && true) ≡ b
and_true true = refl
and_true false = refl

-- a test together with one that fails fails
pub and_false : (b : Bool) → (b && false) ≡ false
and_false true = refl
and_false false = refl

-- a reference before those that are counted changes nothing of how many wait
waiting-past : (e i : ℕ) (xs : List ℕ) (k : ℕ) (propagated : List ℕ) → i < e →
    waiting e xs k (i ∷ propagated) ≡ waiting e xs k propagated
waiting-past e i [] k propagated lt = refl
waiting-past e i (x ∷ xs) k propagated lt =
    rw (
      times-other e i propagated (omega (arith, lt)),
      waiting-past (e + 1) i xs k propagated (omega (arith, lt)),
    ) refl

-- reference e + j is propagated
pub waiting-propagated : (j e : ℕ) (xs : List ℕ) (k : ℕ) (propagated : List ℕ) → j < length xs →
    times (e + j) propagated ≡ 0 →
    waiting e xs k propagated ≡ cond (get_or xs j 0 == k)
    1 0 + waiting e xs k ((e + j) ∷ propagated)
waiting-propagated j e [] k propagated lt none = absurd (omega arith)
waiting-propagated zero e (x ∷ xs) k propagated lt none =
    let at : e + zero ≡ e = omega arith in
    let none' : times e propagated ≡ 0 = rw at at none in
    let before : (times e propagated == 0) ≡ true = eq-eqb (times e propagated) 0 none' in
    let after : (times e (e ∷ propagated) == 0) ≡ false =
    ne_eqb (times e (e ∷ propagated)) 0 (omega (arith, times-same e propagated)) in
    let rest : waiting (e + 1) xs k (e ∷ propagated) ≡ waiting (e + 1) xs k propagated =
    waiting-past (e + 1) e xs k propagated (omega arith) in
    rw (at, before, after, and_true (x == k), and_false (x == k), rest) (omega arith)
waiting-propagated (suc j) e (x ∷ xs) k propagated lt none =
    let at : e + 1 + j ≡ e + suc j = omega arith in
    let more = rw at at (waiting-propagated j (e + 1) xs k propagated (omega (arith, lt))
    (rw at none)) in
    let here : times e ((e + suc j) ∷ propagated) ≡ times e propagated =
    times-other e (e + suc j) propagated (omega arith) in
    rw here (omega (arith, more))

-- where none of a counter's references waits, each was propagated
pub waiting-none : (e : ℕ) (xs : List ℕ) (k : ℕ) (propagated : List ℕ) →
    waiting e xs k propagated ≡ 0 → (j : ℕ) → j < length xs → get_or xs j 0 ≡ k →
    0 < times (e + j) propagated
waiting-none e [] k propagated none j lt is = absurd (omega (arith, lt))
waiting-none e (x ∷ xs) k propagated none zero lt is =
    go (times e propagated == 0) refl (omega (arith, none)) where
      go : (b : Bool) → (times e propagated == 0) ≡ b →
          ◌≡◌ {A = ℕ} (cond ((x == k) && (times e propagated == 0)) 1 0) 0 →
          0 < times (e + zero) propagated
      go true f g = let one : ◌≡◌ {A = ℕ} (cond ((x == k) && (times e propagated == 0)) 1 0) 1 =
          rw (eq-eqb x k is, f) refl in absurd (omega (arith, one, g))
      go false f g = elim (cases_eq (times e propagated) 0) [
        | inl zero_is ↦ let no = sym f ∙ eq-eqb (times e propagated) 0 zero_is in absurd cc
        | inr more ↦ omega (arith, ap (λ (i : ℕ). times i propagated) (add-zero e), more)
      ]
waiting-none e (x ∷ xs) k propagated none (suc j) lt is =
    let at : e + 1 + j ≡ e + suc j = omega arith in
    rw at at (waiting-none (e + 1) xs k propagated (omega (arith, none)) j (omega (arith, lt)) is)

-- where each of a counter's references was propagated, none waits
pub waiting-zero : (e : ℕ) (xs : List ℕ) (k : ℕ) (propagated : List ℕ) →
    ((j : ℕ) → j < length xs → get_or xs j 0 ≡ k → 0 < times (e + j) propagated) →
    waiting e xs k propagated ≡ 0
waiting-zero e [] k propagated h = refl
waiting-zero e (x ∷ xs) k propagated h =
    here (cases_eq x k) (waiting-zero (e + 1) xs k propagated
    (λ j lt is. let at : e + suc j ≡ e + 1 + j = omega arith in
    rw at at (h (suc j) (omega (arith, lt)) is))) where
      here : (x ≡ k) ⊎ (x ≢ k) → waiting (e + 1) xs k propagated ≡ 0 →
          cond ((x == k) && (times e propagated == 0)) 1 0 + waiting (e + 1) xs k propagated ≡ 0
      here (inl is) rest = let more : 0 < times e propagated =
          omega (arith, ap (λ (i : ℕ). times i propagated) (add-zero e), h 0 (omega arith) is) in
          rw (ne_eqb (times e propagated) 0 (omega arith), and_false (x == k), rest) refl
      here (inr other) rest = rw (ne_eqb x k other, rest) refl

-- of two lists joined, as many references wait as of the first and then of the second
pub waiting-append : (e : ℕ) (xs ys : List ℕ) (k : ℕ) (propagated : List ℕ) →
    waiting e (xs ++ ys) k propagated ≡ waiting e xs k propagated + waiting (e + length xs)
    ys k propagated
waiting-append e [] ys k propagated = let at : e + 0 ≡ e = omega arith in rw at (omega arith)
waiting-append e (x ∷ xs) ys k propagated =
    let at : e + 1 + length xs ≡ e + suc (length xs) = omega arith in
    let more = rw at at (waiting-append (e + 1) xs ys k propagated) in
    omega (arith, more)

-- ---- the numbers of rules

-- there are as many rule numbers as parts of rules
pub numbers-length : (s : ℕ) (xs : List Rule) → length (numbers_from s xs) ≡ length (all_parts xs)
numbers-length s [] = refl
numbers-length s (x ∷ xs) =
    omega (
      arith,
      length-append (map (λ _. s) x.parts) (numbers_from (s + 1) xs),
      length-append x.parts (all_parts xs),
      length-map x.parts (λ _. s),
      numbers-length (s + 1) xs,
    )

-- each part of the first rule has that rule's number
same_at : (s : ℕ) (ps rest : List ℕ) (j : ℕ) → j < length ps →
    get_or (map (λ _. s) ps ++ rest) j 0 ≡ s
same_at s [] rest j lt = absurd (omega arith)
same_at s (p ∷ ps) rest zero lt = refl
same_at s (p ∷ ps) rest (suc j) lt = same_at s ps rest j (omega (arith, lt))

-- after the parts of the first rule stand the numbers of the others
later_at : (s : ℕ) (ps rest : List ℕ) (j : ℕ) → length ps ≤ j →
    get_or (map (λ _. s) ps ++ rest) j 0 ≡ get_or rest (j - length ps) 0
later_at s ps rest j le =
    get_or-append_right (map (λ _. s) ps) rest (length ps) j 0 (length-map ps (λ _. s)) le

-- the number of each part is that of one of the rules
pub numbers-within : (s : ℕ) (xs : List Rule) (j : ℕ) → j < length (all_parts xs) →
    (s ≤ get_or (numbers_from s xs) j 0) × (get_or (numbers_from s xs) j 0 < s + length xs)
numbers-within s [] j lt = absurd (omega arith)
numbers-within s (x ∷ xs) j lt = elim (cases_lt j (length x.parts)) [
  | inl in_front ↦ rw (same_at s x.parts (numbers_from (s + 1) xs) j in_front)
      (omega arith, omega arith)
  | inr behind ↦ let more =
      numbers-within (s + 1) xs (j - length x.parts)
      (omega (arith, lt, behind, length-append x.parts (all_parts xs))) in
      rw (later_at s x.parts (numbers_from (s + 1) xs) j behind)
      (omega (arith, more.0), omega (arith, more.1))
]

-- ---- tests of parts

-- a test that holds at each place of a list holds of all in it
list_all_from : (test : ℕ → Bool) (ps : List ℕ) →
    ((j : ℕ) → j < length ps → test (get_or ps j 0) ≡ true) → list_all test ps ≡ true
list_all_from test [] h = refl
list_all_from test (p ∷ ps) h =
    rw (h 0 (omega arith), list_all_from test ps (λ j lt. h (suc j) (omega (arith, lt)))) refl

-- a test that holds of all in a list holds at each of its places
list_all_at : (test : ℕ → Bool) (ps : List ℕ) (j : ℕ) → list_all test ps ≡ true → j < length ps →
    test (get_or ps j 0) ≡ true
list_all_at test [] j h lt = absurd (omega arith)
list_all_at test (p ∷ ps) zero h lt = (and_parts (test p) (list_all test ps) h).0
list_all_at test (p ∷ ps) (suc j) h lt =
    list_all_at test ps j (and_parts (test p) (list_all test ps) h).1 (omega (arith, lt))

-- a test that holds at one place of a list holds of some in it
list_any_at : (test : ℕ → Bool) (ps : List ℕ) (j : ℕ) → j < length ps →
    test (get_or ps j 0) ≡ true → list_any test ps ≡ true
list_any_at test [] j lt h = absurd (omega arith)
list_any_at test (p ∷ ps) zero lt h = or_left (test p) _ h
list_any_at test (p ∷ ps) (suc j) lt h =
    or_right (test p) _ (list_any_at test ps j (omega (arith, lt)) h)

-- what holds of a reference for rule s + k holds of a part of it
pub parts_any : (test : ℕ → Bool) (s : ℕ) (xs : List Rule) (j k : ℕ) → j < length (all_parts xs) →
    get_or (numbers_from s xs) j 0 ≡ s + k → test (get_or (all_parts xs) j 0) ≡ true →
    list_any test (get_or xs k nothing).parts ≡ true
parts_any test s [] j k lt is h = absurd (omega arith)
parts_any test s (x ∷ xs) j zero lt is h = elim (cases_lt j (length x.parts)) [
  | inl in_front ↦ list_any_at test x.parts j in_front
      (rw (get_or_append_left x.parts (all_parts xs) 0 j in_front) at h)
  | inr behind ↦ absurd (let more =
      numbers-within (s + 1) xs (j - length x.parts)
      (omega (arith, lt, behind, length-append x.parts (all_parts xs))) in
      omega (arith, more.0, is, later_at s x.parts (numbers_from (s + 1) xs) j behind))
]
parts_any test s (x ∷ xs) j (suc k) lt is h = elim (cases_lt j (length x.parts)) [
  | inl in_front ↦ absurd (omega (
    arith,
    is,
    same_at s x.parts (numbers_from (s + 1) xs) j in_front,
  ))
  | inr behind ↦
      parts_any test (s + 1) xs (j - length x.parts) k
      (omega (arith, lt, behind, length-append x.parts (all_parts xs)))
      (omega (arith, is, later_at s x.parts (numbers_from (s + 1) xs) j behind))
      (rw (get_or-append_right x.parts (all_parts xs) (length x.parts) j 0 refl behind) at h)
]

-- what holds of all parts of rule s + k holds of a reference for it
pub parts_all : (test : ℕ → Bool) (s : ℕ) (xs : List Rule) (j k : ℕ) → j < length (all_parts xs) →
    get_or (numbers_from s xs) j 0 ≡ s + k → list_all test (get_or xs k nothing).parts ≡ true →
    test (get_or (all_parts xs) j 0) ≡ true
parts_all test s [] j k lt is h = absurd (omega arith)
parts_all test s (x ∷ xs) j zero lt is h = elim (cases_lt j (length x.parts)) [
  | inl in_front ↦ ap test (get_or_append_left x.parts (all_parts xs) 0 j in_front)
      ∙ list_all_at test x.parts j h in_front
  | inr behind ↦ absurd (let more =
      numbers-within (s + 1) xs (j - length x.parts)
      (omega (arith, lt, behind, length-append x.parts (all_parts xs))) in
      omega (arith, more.0, is, later_at s x.parts (numbers_from (s + 1) xs) j behind))
]
parts_all test s (x ∷ xs) j (suc k) lt is h = elim (cases_lt j (length x.parts)) [
  | inl in_front ↦ absurd (omega (
    arith,
    is,
    same_at s x.parts (numbers_from (s + 1) xs) j in_front,
  ))
  | inr behind ↦
      ap test (get_or-append_right x.parts (all_parts xs) (length x.parts) j 0 refl behind)
      ∙ parts_all test (s + 1) xs (j - length x.parts) k
      (omega (arith, lt, behind, length-append x.parts (all_parts xs)))
      (omega (arith, is, later_at s x.parts (numbers_from (s + 1) xs) j behind)) h
]

-- what holds of each reference for rule s + k holds of all its parts
pub parts_each : (test : ℕ → Bool) (s : ℕ) (xs : List Rule) (k : ℕ) →
    ((j : ℕ) → j < length (all_parts xs) → get_or (numbers_from s xs) j 0 ≡ s + k →
    test (get_or (all_parts xs) j 0) ≡ true) → list_all test (get_or xs k nothing).parts ≡ true
parts_each test s [] k h = refl
parts_each test s (x ∷ xs) zero h =
    list_all_from test x.parts
    (λ j lt. ap test (sym (get_or_append_left x.parts (all_parts xs) 0 j lt))
    ∙ h j (omega (arith, lt, length-append x.parts (all_parts xs)))
    (same_at s x.parts (numbers_from (s + 1) xs) j lt ∙ omega arith))
parts_each test s (x ∷ xs) (suc k) h = parts_each test (s + 1) xs k (λ j lt is.
    let there : length x.parts + j - length x.parts ≡ j = omega arith in
    let at : get_or (numbers_from s (x ∷ xs)) (length x.parts + j) 0
    ≡ get_or (numbers_from (s + 1) xs) j 0 =
    later_at s x.parts (numbers_from (s + 1) xs) (length x.parts + j) (omega arith)
    ∙ ap (λ (i : ℕ). get_or (numbers_from (s + 1) xs) i 0) there in
    ap test (sym (get_or-append-add x.parts (all_parts xs) j 0))
    ∙ h (length x.parts + j) (omega (arith, lt, length-append x.parts (all_parts xs)))
    (omega (arith, at, is)))

-- ---- before anything is propagated

-- where nothing was propagated, all parts of a rule wait for it
waiting_same : (e s : ℕ) (ps : List ℕ) → waiting e (map (λ _. s) ps) s [] ≡ length ps
waiting_same e s [] = refl
waiting_same e s (p ∷ ps) = rw (eq-eqb s s refl, waiting_same (e + 1) s ps) (omega arith)

-- no part of one rule waits for another
waiting_other : (e s k : ℕ) (ps : List ℕ) → s ≢ k → waiting e (map (λ _. s) ps) k [] ≡ 0
waiting_other e s k [] ne = refl
waiting_other e s k (p ∷ ps) ne = rw (ne_eqb s k ne, waiting_other (e + 1) s k ps ne) refl

-- where nothing was propagated, as many references wait for a rule as it has parts
pub waiting_start : (e s : ℕ) (xs : List Rule) (k : ℕ) →
    waiting e (numbers_from s xs) (s + k) [] ≡ length (get_or xs k nothing).parts
waiting_start e s [] k = refl
waiting_start e s (x ∷ xs) zero =
    let at : s + zero ≡ s = omega arith in
    let front : waiting e (map (λ _. s) x.parts) (s + zero) [] ≡ length x.parts =
    rw at (waiting_same e s x.parts) in
    let back : waiting (e + length (map (λ _. s) x.parts)) (numbers_from (s + 1) xs) (s + zero) []
    ≡ 0 = waiting-zero (e + length (map (λ _. s) x.parts)) (numbers_from (s + 1) xs) (s + zero)
    [] (λ j lt is. absurd (omega (
      arith,
      is,
      (numbers-within (s + 1) xs j (omega (arith, lt, numbers-length (s + 1) xs))).0,
    ))) in
    omega (
      arith,
      front,
      back,
      waiting-append e (map (λ _. s) x.parts) (numbers_from (s + 1) xs) (s + zero) [],
    )
waiting_start e s (x ∷ xs) (suc k) =
    let at : s + 1 + k ≡ s + suc k = omega arith in
    let front : waiting e (map (λ _. s) x.parts) (s + suc k) [] ≡ 0 =
    waiting_other e s (s + suc k) x.parts (omega arith) in
    let back : waiting (e + length (map (λ _. s) x.parts)) (numbers_from (s + 1) xs) (s + suc k) []
    ≡ length (get_or xs k nothing).parts =
    rw at at (waiting_start (e + length (map (λ _. s) x.parts)) (s + 1) xs k) in
    omega (
      arith,
      front,
      back,
      waiting-append e (map (λ _. s) x.parts) (numbers_from (s + 1) xs) (s + suc k) [],
    )

-- The row of the arms that were passed.
use Rattle.std.proofs.Common.{◌≡◌, ◌≢◌, ℕ, ◌+◌, ◌-◌, ◌<◌, ◌≤◌, true, false, cond, List, ◌++◌}
use Rattle.std.proofs.Common.{length, get_or, take, Option, Some, None, refl, sym, ◌∙◌, ◌⊎◌, arith}
use Rattle.std.proofs.Common.{inl, inr}
use Rattle.std.specs.Prelude.{◌==◌, is_some}
use Rattle.std.specs.List.{insert}
use Rattle.std.proofs.lemmas.Bool.{eq-eqb, cases_lt, cases_eq, ne_eqb}
use Rattle.std.proofs.lemmas.List.{take_all}
use Rattle.std.proofs.lemmas.List.Edits.{length-insert, get_or-insert_below, get_or-insert_at}
use Rattle.std.proofs.lemmas.List.Edits.{get_or-insert_above}
use Rattle.types_core.specs.declared.definition.Arm.{Arm}
use Rattle.widths_core.specs.declared.rows.Rows.{Rows}
use Rattle.widths_core.specs.declared.type_step.ArmStep.{ArmStep}
use Rattle.graph_core.specs.Types.{field_types}
use Rattle.widths_core.specs.Arms.{arm_of}
use Rattle.widths_core.specs.Rows.{Keeps, IsPaired, IsIn, Lacks, BelongsAt, Rises, Inserts}
use Rattle.widths_core.specs.Rows.{arm_at_place}
use Rattle.widths_core.specs.Rows.{index_in, no_arm}
use Rattle.widths_core.specs.Steps.{AreParts, IsArm, IsRow}
use Rattle.widths_core.proofs.ArmsTo.{shadowed, counted}
use Rattle.widths_core.proofs.Kept.{arm_kept, keeps_all}

-- the row that begins at f and ends at the end has the first i arms
pub record RowTo (refs : List ℕ) (f i : ℕ) (arms : List Arm) (a b : Rows) : Type 0 where
  pub start : f ≡ length a.indexes.items
  pub paired : IsPaired b
  pub keeps : Keeps a b
  pub rises : Rises b.indexes.items f (length b.indexes.items)
  pub arm : (k : ℕ) → f ≤ k → k < length b.indexes.items →
      IsArm refs (Some (arm_at_place b k)) (arm_of (take i arms) (index_in b k))
  pub none : (x : ℕ) → Lacks b.indexes.items f (length b.indexes.items) x →
      arm_of (take i arms) x ≡ None

-- before the first arm, the row that begins at the end is empty
pub row_none : (refs : List ℕ) (f : ℕ) (arms : List Arm) (a : Rows) → f ≡ length a.indexes.items →
    IsPaired a → RowTo refs f 0 arms a a
row_none refs f arms a start paired = record {
  start = start;
  paired = paired;
  keeps = keeps_all a;
  rises = λ i j ge lt end. absurd (omega (arith, start, ge, lt, end));
  arm = λ k ge lt. absurd (omega (arith, start, ge, lt));
  none = λ x lacks. refl;
}

-- where the step of an arm is right, there is such an arm
some_arm : (refs : List ℕ) (s : ArmStep) (x : Option (ℕ × Arm)) → IsArm refs (Some s) x →
    is_some x ≡ true
some_arm refs s None h = absurd h
some_arm refs s (Some x) h = refl

-- an arm whose index is in the row is shadowed
pub row_has : (refs : List ℕ) (f i : ℕ) (arms : List Arm) (a b : Rows) (v k : ℕ) →
    RowTo refs f i arms a b → IsIn b.indexes.items f (length b.indexes.items) v k →
    is_some (arm_of (take i arms) v) ≡ true
row_has refs f i arms a b v k h is =
    rw is.is at (some_arm refs (arm_at_place b k) (arm_of (take i arms) (index_in b k))
    (h.arm k is.above is.below))

-- an arm whose index belongs into the row is the first of its index
pub row_lacks : (refs : List ℕ) (f i : ℕ) (arms : List Arm) (a b : Rows) (v k : ℕ) →
    RowTo refs f i arms a b → BelongsAt b.indexes.items f v k →
    is_some (arm_of (take i arms) v) ≡ false
row_lacks refs f i arms a b v k h new = rw (h.none v lacks) refl where
  lacks : Lacks b.indexes.items f (length b.indexes.items) v
  lacks j ge lt is = elim (cases_lt j k) [
    | inl below ↦ let less = new.less j ge below in omega (arith, less, is)
    | inr above ↦ let greater = new.greater j above lt in omega (arith, greater, is)
  ]

-- a shadowed arm is passed with its references read and the row as it is
pub row_shadowed : (xs ys zs : List ℕ) (f i : ℕ) (arms : List Arm) (x : Arm) (a b : Rows) →
    i < length arms → x ≡ get_or arms i x → zs ≡ xs ++ ys →
    is_some (arm_of (take i arms) x.index) ≡ true → RowTo xs f i arms a b →
    RowTo zs f (i + 1) arms a b
row_shadowed xs ys zs f i arms x a b lt is e old h = record {
  start = h.start;
  paired = h.paired;
  keeps = h.keeps;
  rises = h.rises;
  arm = λ k ge end. rw (e, shadowed i (index_in b k) arms x lt is old)
      (arm_kept xs ys (Some (arm_at_place b k)) (arm_of (take i arms) (index_in b k))
      (h.arm k ge end));
  none = λ y lacks. shadowed i y arms x lt is old ∙ h.none y lacks;
}

-- ---- one arm more in a row

-- after the place at which something was put in, all stands one place further
above : {X : Type 0} (xs : List X) (at : ℕ) (y d : X) (k : ℕ) → at < k → at ≤ length xs →
    get_or (insert xs at y) k d ≡ get_or xs (k - 1) d
above xs at y d k lt le = let k-is : k - 1 + 1 ≡ k = omega (arith, lt) in
    rw k-is at (get_or-insert_above xs at y d (k - 1) (omega (arith, lt)) le)

-- what the rows have at each place after an arm came
record ReadsRows (b c : Rows) (at v : ℕ) (s : ArmStep) : Type 0 where
  below : (k : ℕ) → k < at → (index_in c k ≡ index_in b k) × (arm_at_place c k ≡ arm_at_place b k)
  here : (index_in c at ≡ v) × (arm_at_place c at ≡ s)
  after : (k : ℕ) → at < k → (index_in c k ≡ index_in b (k - 1))
      × (arm_at_place c k ≡ arm_at_place b (k - 1))
  size : length c.indexes.items ≡ length b.indexes.items + 1
  sizes : length c.arms.items ≡ length b.arms.items + 1

-- where an arm was put into rows, it is at its place, and those that were after are one further
reads : (b c : Rows) (at v : ℕ) (s : ArmStep) → IsPaired b → at ≤ length b.indexes.items →
    Inserts b c at v s → ReadsRows b c at v s
reads b c at v s paired le h =
    let le' : at ≤ length b.arms.items = omega (arith, le, paired) in
    record {
      below = λ k lt. (
        rw h.indexes (get_or-insert_below b.indexes.items at v 0 k lt le),
        rw h.arms (get_or-insert_below b.arms.items at s no_arm k lt le'),
      );
      here = (
        rw h.indexes (get_or-insert_at b.indexes.items at v 0 le),
        rw h.arms (get_or-insert_at b.arms.items at s no_arm le'),
      );
      after = λ k lt. (
        rw h.indexes (above b.indexes.items at v 0 k lt le),
        rw h.arms (above b.arms.items at s no_arm k lt le'),
      );
      size = rw h.indexes (length-insert b.indexes.items at v le);
      sizes = rw h.arms (length-insert b.arms.items at s le');
    }

-- an arm of a new index is passed where its step is put in at the place where the index belongs
pub row_counted : (xs ys zs : List ℕ) (f i at : ℕ) (arms : List Arm) (x : Arm) (s : ArmStep)
    (a b c : Rows) → i < length arms → x ≡ get_or arms i x → zs ≡ xs ++ ys →
    BelongsAt b.indexes.items f x.index at → s.position ≡ i →
    AreParts zs s.from s.count (field_types x.fields) → Inserts b c at x.index s →
    RowTo xs f i arms a b → RowTo zs f (i + 1) arms a c
row_counted xs ys zs f i at arms x s a b c lt is e new position parts k h = record {
  start = h.start;
  paired = omega (arith, now.size, now.sizes, h.paired);
  keeps = record {
    count = omega (arith, h.keeps.count, now.size);
    indexes = λ j less. (now.below j (omega (arith, less, h.start, new.above))).0
        ∙ h.keeps.indexes j less;
    arms = λ j less. (now.below j (omega (arith, less, h.start, new.above))).1
        ∙ h.keeps.arms j less;
  };
  rises = rises;
  arm = λ j ge end. rw (counted i (index_in c j) arms x lt is fresh)
      (arm j ge end (cases_lt j at) (cases_eq j at));
  none = λ y lacks. counted i y arms x lt is fresh ∙ none y lacks;
} where
  now : ReadsRows b c at x.index s
  now = reads b c at x.index s h.paired new.within k

  fresh : is_some (arm_of (take i arms) x.index) ≡ false
  fresh = row_lacks xs f i arms a b x.index at h new

  rises : Rises c.indexes.items f (length c.indexes.items)
  rises m n ge less end = elim (cases_lt n at) [
    | inl below ↦ rw ((now.below m (omega (arith, less, below))).0, (now.below n below).0)
        (h.rises m n ge less (omega (arith, below, new.within)))
    | inr past ↦ elim (cases_eq n at) [
      | inl same ↦ rw ((now.below m (omega (arith, less, same))).0, same, now.here.0)
          (new.less m ge (omega (arith, less, same)))
      | inr other ↦ rises_past m n ge less end (omega (arith, past, other)) (cases_lt m at)
          (cases_eq m at)
    ]
  ] where
    rises_past : (m n : ℕ) → f ≤ m → m < n → n < length c.indexes.items → at < n → (m < at)
        ⊎ (at ≤ m) → (m ≡ at) ⊎ (m ≢ at) → index_in c m < index_in c n
    rises_past m n ge less end far (inl below) eq =
        rw ((now.below m below).0, (now.after n far).0)
        (let one = new.less m ge below in let two =
        new.greater (n - 1) (omega (arith, far)) (omega (arith, end, now.size, far)) in
        omega (arith, one, two))
    rises_past m n ge less end far (inr past) (inl same) =
        rw (same, now.here.0, (now.after n far).0)
        (new.greater (n - 1) (omega (arith, far)) (omega (arith, end, now.size, far)))
    rises_past m n ge less end far (inr past) (inr other) = let m-far : at < m =
        omega (arith, past, other) in
        rw ((now.after m m-far).0, (now.after n far).0)
        (h.rises (m - 1) (n - 1) (omega (arith, m-far, new.above)) (omega (arith, less, m-far))
        (omega (arith, end, now.size, far)))

  old : (j : ℕ) (st : ArmStep) → index_in b j ≢ x.index →
      IsArm xs (Some st) (arm_of (take i arms) (index_in b j)) →
      IsArm zs (Some st) (cond (x.index == index_in b j) (Some (i, x))
      (arm_of (take i arms) (index_in b j)))
  old j st ne was = rw (e, ne_eqb x.index (index_in b j) (λ eq. ne (sym eq)))
      (arm_kept xs ys (Some st) (arm_of (take i arms) (index_in b j)) was)

  arm : (j : ℕ) → f ≤ j → j < length c.indexes.items → (j < at) ⊎ (at ≤ j) → (j ≡ at) ⊎ (j ≢ at) →
      IsArm zs (Some (arm_at_place c j))
      (cond (x.index == index_in c j) (Some (i, x)) (arm_of (take i arms) (index_in c j)))
  arm j ge end (inl below) eq =
      let less = new.less j ge below in
      rw ((now.below j below).0, (now.below j below).1)
      (old j (arm_at_place b j) (λ eq. omega (arith, less, eq))
      (h.arm j ge (omega (arith, below, new.within))))
  arm j ge end (inr past) (inl same) =
      rw (same, now.here.0, now.here.1, eq-eqb x.index x.index refl) (position, parts)
  arm j ge end (inr past) (inr other) =
      let far : at < j = omega (arith, past, other) in
      let within : j - 1 < length b.indexes.items = omega (arith, end, now.size, far) in
      let more = new.greater (j - 1) (omega (arith, far)) within in
      rw ((now.after j far).0, (now.after j far).1)
      (old (j - 1) (arm_at_place b (j - 1)) (λ eq. omega (arith, more, eq))
      (h.arm (j - 1) (omega (arith, far, new.above)) within))

  none : (y : ℕ) → Lacks c.indexes.items f (length c.indexes.items) y →
      cond (x.index == y) (Some (i, x)) (arm_of (take i arms) y) ≡ None
  none y lacks =
      let ne : x.index ≢ y = λ eq. lacks at new.above (omega (arith, new.within, now.size))
      (now.here.0 ∙ eq) in
      rw (ne_eqb x.index y ne) (h.none y (λ j ge end is. elim (cases_lt j at) [
        | inl below ↦ lacks j ge (omega (arith, end, now.size)) ((now.below j below).0 ∙ is)
        | inr past ↦ lacks (j + 1) (omega (arith, ge)) (omega (arith, end, now.size))
            (further j past ∙ is)
      ])) where
        further : (j : ℕ) → at ≤ j → index_in c (j + 1) ≡ index_in b j
        further j le = let j-is : j + 1 - 1 ≡ j = omega arith in
            rw j-is at (now.after (j + 1) (omega (arith, le))).0

-- ---- all arms

-- where all arms were passed, what was added is the row of the variant
pub row_all : (refs : List ℕ) (f count : ℕ) (i : ℕ) (arms : List Arm) (a b : Rows) →
    length arms ≤ i → count + f ≡ length b.indexes.items → RowTo refs f i arms a b →
    IsRow refs b f count arms
row_all refs f count i arms a b le size h =
    let all : take i arms ≡ arms = take_all i arms le in
    record {
      within = omega (arith, size);
      rises = λ m n ge lt end. h.rises m n ge lt (omega (arith, end, size));
      arm = λ k ge lt. rw all at (h.arm k ge (omega (arith, lt, size)));
      none = λ x lacks. rw all at (h.none x (λ k ge lt. lacks k ge (omega (arith, lt, size))));
    }

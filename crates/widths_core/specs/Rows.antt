-- Rows of arms sorted by index, one row after the other.
use Rattle.std.specs.Prelude.{◌≡◌, ◌≢◌, ℕ, ◌+◌, ◌<◌, ◌≤◌, List, [], length, Option, Result}
use Rattle.std.specs.Prelude.{slice_index, slice_index_or, MatchOption, MatchResult}
use Rattle.std.specs.List.{insert}
use Rattle.widths_core.specs.declared.rows.Rows.{Rows}
use Rattle.widths_core.specs.declared.type_step.ArmStep.{ArmStep}

abbrev pub no_arm : ArmStep
no_arm = record { position = 0; from = 0; count = 0 }

-- the arm at place k
abbrev pub arm_at_place : Rows → ℕ → ArmStep
arm_at_place rows k = slice_index_or rows.arms.items k no_arm

-- the index of the arm at place k
abbrev pub index_in : Rows → ℕ → ℕ
index_in rows k = slice_index rows.indexes.items k

-- there is one index for each arm
abbrev pub IsPaired : Rows → Type 0
IsPaired rows = length rows.arms.items ≡ length rows.indexes.items

-- there are no arms
pub record HasNoRow (rows : Rows) : Type 0 where
  pub indexes : rows.indexes.items ≡ []
  pub arms : rows.arms.items ≡ []

-- the numbers at the places `from..to` are strictly ascending
abbrev pub Rises : List ℕ → ℕ → ℕ → Type 0
Rises xs from to = (i j : ℕ) → from ≤ i → i < j → j < to → slice_index xs i < slice_index xs j

-- the number x is at place k, which lies in `from..to`
pub record IsIn (xs : List ℕ) (from to x k : ℕ) : Type 0 where
  pub above : from ≤ k
  pub below : k < to
  pub is : slice_index xs k ≡ x

-- x is at none of these places
abbrev pub Lacks : List ℕ → ℕ → ℕ → ℕ → Type 0
Lacks xs from to x = (k : ℕ) → from ≤ k → k < to → slice_index xs k ≢ x

-- x belongs at place k: the numbers before it are less, and the others are greater
pub record BelongsAt (xs : List ℕ) (from x k : ℕ) : Type 0 where
  pub above : from ≤ k
  pub within : k ≤ length xs
  pub less : (j : ℕ) → from ≤ j → j < k → slice_index xs j < x
  pub greater : (j : ℕ) → k ≤ j → j < length xs → x < slice_index xs j

-- the place of x from place `from` on, or the place where it belongs
abbrev pub IsSearched : List ℕ → ℕ → ℕ → Result ℕ ℕ → Type 0
IsSearched xs from x result =
    MatchResult result (λ k. IsIn xs from (length xs) x k) (λ k. BelongsAt xs from x k)

-- an arm was inserted at place k, and those from there on moved up by one place
pub record Inserts (a b : Rows) (k index : ℕ) (s : ArmStep) : Type 0 where
  pub indexes : b.indexes.items ≡ insert a.indexes.items k index
  pub arms : b.arms.items ≡ insert a.arms.items k s

-- the arm with this index in the row of `count` arms from place `from` on, if there is one
abbrev pub IsPlace : Rows → ℕ → ℕ → ℕ → Option ArmStep → Type 0
IsPlace rows from count index found =
    MatchOption found (Lacks rows.indexes.items from (from + count) index)
    (λ s. (k : ℕ) × IsIn rows.indexes.items from (from + count) index k × (s ≡ arm_at_place rows k))

-- all arms of the first rows are at the same places in the second
pub record Keeps (a b : Rows) : Type 0 where
  pub count : length a.indexes.items ≤ length b.indexes.items
  pub indexes : (k : ℕ) → k < length a.indexes.items → index_in b k ≡ index_in a k
  pub arms : (k : ℕ) → k < length a.indexes.items → arm_at_place b k ≡ arm_at_place a k

-- How many bytes decide a refusal.
use Rattle.std.specs.Prelude.{◌≡◌, ℕ, ◌<◌, ◌≤◌, List, [], ◌++◌, length, take, drop, Err}
use Rattle.types_core.specs.declared.type_info.TypeInfo.{TypeInfo}
use Rattle.grammar_core.specs.Reading.{Refusal, truncated}
use Rattle.outcome_core.specs.Machine.{State, remain}
use Rattle.outcome_core.specs.Reported.{reported}

-- the first m bytes decide the fault, and fewer do not
pub record Decided (r : List TypeInfo) (s : State) (x : List ℕ) (e : Refusal) (left : List ℕ)
    (m : ℕ) : Type 0 where
  pub within : m ≤ length x
  pub low : length left ≤ length x
  pub back : List ℕ
  pub holds : remain r s (take m x) ≡ reported [] (Err ((e, back), take m x))
  pub is : left ≡ back ++ drop m x
  pub least : (i : ℕ) → i < m → (l : List ℕ)
      × (remain r s (take i x) ≡ reported [] (Err ((truncated, l), take i x)))

-- Bytes written into a buffer.
use Rattle.std.specs.Prelude.{◌≡◌, ℕ, ◌≤◌, List, ◌++◌, length, take, drop}
use Rattle.json.specs.Filled.{Placed}

-- new has xs after the first `at` bytes of old, up to `end`, and after them what old has there
pub record OnlyPlaced (old new : List ℕ) (at : ℕ) (xs : List ℕ) (end : ℕ) : Type 0 where
  pub placed : Placed old new at xs end
  pub rest : drop end new ≡ drop end old

-- new has xs after the first `at` bytes of old, up to `end`, and is no shorter than old
pub record Appended (old new : List ℕ) (at : ℕ) (xs : List ℕ) (end : ℕ) : Type 0 where
  pub bytes : take end new ≡ take at old ++ xs
  pub within : end ≤ length new
  pub front : take at new ≡ take at old
  pub kept : length old ≤ length new

-- A compact integer that lies whole at the start of a piece.
use Rattle.std.specs.Prelude.{◌≡◌, ◌<◌, ◌≤◌, ◌^◌, ℕ, List, length, drop, Ok}
use Rattle.scale_core.specs.Compact.{target_bytes}
use Rattle.scale_core.specs.Read.{compact_at}
use Rattle.scale_core.specs.declared.compact.Target.{Target}

-- a compact integer n for this target lies at the start of a piece, in `count` bytes
pub record IsCompactAtFront (m : Target) (piece : List ℕ) (n count : ℕ) : Type 0 where
  pub within : count ≤ length piece
  pub fits : n < 256 ^ target_bytes m
  pub read : compact_at m piece ≡ Ok (n, drop count piece)

-- The first reference that is no position.
use Rattle.std.specs.Prelude.{ℕ, ◌+◌, ◌-◌, ◌==◌, ◌^◌, min, ◌&&◌, List, [], ◌∷◌, length, not}
use Rattle.std.specs.Prelude.{Option, Some, None}
use Rattle.std.specs.Prelude.{nat_lt, if◌then◌else◌}
use Rattle.types_core.specs.declared.type_info.TypeInfo.{TypeInfo}
use Rattle.grammar_core.specs.Cells.{Cell, cells}
use Rattle.grammar_core.specs.Preorder.{Head, leaf}
use Rattle.grammar_core.specs.Spelled.{cell_bytes}
use Rattle.grammar_core.specs.Tree.{compact}
use Rattle.node_core.specs.Shown.{Seen}

-- what a node of type 3 stands for, if it is a compact that is none of n positions
abbrev pub unknown_by : ℕ → ℕ → Head → Option ℕ
unknown_by n ty (leaf (compact r)) =
    if (ty == 3) && (not (nat_lt r n) && nat_lt r (2 ^ 32)) then Some r else None
unknown_by n ty _ = None

-- the first of these nodes that is one, with its place: the number of bytes of those before it,
-- from `at` on, and at most 2^64 - 1
abbrev pub unknown_from : List TypeInfo → ℕ → ℕ → List Cell → Option (ℕ × ℕ)
unknown_from r n at [] = None
unknown_from r n at (c ∷ cs) = elim (unknown_by n c.ty c.head) [
  | Some t ↦ Some (t, at)
  | None ↦ unknown_from r n (min (at + length (cell_bytes r c)) (2 ^ 64 - 1)) cs
]

-- the first reference of a value that is none of n positions, with the place of its first byte
abbrev pub unknown_in : ℕ → Seen → Option (ℕ × ℕ)
unknown_in n s = unknown_from s.types n 0 (cells s.types s.ty s.tree)

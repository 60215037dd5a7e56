-- A text or a run of bytes that lies whole at the start of a piece.
use Rattle.std.specs.Prelude.{◌≡◌, ◌<◌, ◌≤◌, ◌^◌, ℕ, List, length, drop, Ok}
use Rattle.scale_core.specs.Read.{Read, ◌>>=◌, bytes_at}
use Rattle.scale_core.specs.declared.fault.Reason.{Reason}
use Rattle.widths_core.specs.RunBytes.{run_bytes}
use Rattle.widths_core.specs.declared.run_kind.RunKind.{RunKind}
use Rattle.grammar_core.specs.Preorder as head
use Rattle.grammar_core.specs.Runs.{run_at, run_leaf, run_length_at}
use Rattle.node_core.specs.Leaves.{leaf_head, FitsLeaf}
use Rattle.node_core.specs.declared.leaf.Leaf.{Leaf}

-- a piece begins with the length n of a run, in `count` bytes
pub record IsLengthAtFront (k : RunKind) (piece : List ℕ) (n count : ℕ) : Type 0 where
  pub within : count ≤ length piece
  pub few : n < 2 ^ 32
  pub read : run_length_at k piece ≡ Ok (n, drop count piece)

-- the length of a run and its bytes, not yet checked to be UTF-8 or for unused bits
unfoldable pub run_bytes_at : RunKind → List ℕ → Read Reason (ℕ × List ℕ)
run_bytes_at k b = do
  n ← run_length_at k b
  s ← bytes_at (run_bytes k n.0) n.1
  Ok ((n.0, s.0), s.1)

-- a piece begins with the length of a run and its bytes, in `count` bytes together
pub record IsAtFront (k : RunKind) (piece : List ℕ) (run : ℕ × List ℕ) (count : ℕ) : Type 0 where
  pub few : run.0 < 2 ^ 32
  pub short : length run.1 < 2 ^ 32
  pub whole : length run.1 ≡ run_bytes k run.0
  pub within : count ≤ length piece
  pub read : run_bytes_at k piece ≡ Ok (run, drop count piece)

-- a run of this kind lies whole at the start of a piece, in `count` bytes, and the leaf is that run
pub record ReadsRun (k : RunKind) (piece : List ℕ) (l : Leaf) (count : ℕ) : Type 0 where
  pub run : ℕ × List ℕ
  pub few : run.0 < 2 ^ 32
  pub head : leaf_head l ≡ head.leaf (run_leaf k run)
  pub fits : FitsLeaf l
  pub within : count ≤ length piece
  pub read : run_at k piece ≡ Ok (run, drop count piece)

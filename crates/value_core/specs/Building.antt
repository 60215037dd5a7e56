-- The invariant of a builder: its nodes are those of a value that is being built.
use Rattle.std.specs.Prelude.{◌≡◌, ℕ, ◌+◌, ◌≤◌, ◌<◌, ◌^◌, List, length, drop, Option, Some, None}
use Rattle.std.specs.Prelude.{option_map}
use Rattle.scale_core.specs.Number.{AreBytes}
use Rattle.value_core.specs.Built.{FitsKind, Pieces, entries_shown, entries_text_bytes}
use Rattle.value_core.specs.Built.{settled_walk}
use Rattle.node_core.specs.Shown.{cells_shown, AreInPool, all_kept}
use Rattle.value_core.specs.Spine.{OpenNode, Spine}
use Rattle.value_core.specs.Walked.{Walked, next_of}
use Rattle.grammar_core.specs.Runs.{run_form}
use Rattle.grammar_core.specs.declared.form.Next.TheVariants as next
use Rattle.node_core.specs.declared.node.Node.{Node}
use Rattle.widths_core.specs.RunBytes.{run_bytes}
use Rattle.widths_core.specs.declared.run_kind.RunKind.{RunKind}
use Rattle.node_core.specs.declared.open_run.OpenRun.{OpenRun}

pub record IsBuilding (ty : ℕ) (w : Walked) (pool : List ℕ) (ns : List Node) (text_len : ℕ) : Type 0
  where
    pub room : ℕ
    pub level : room + length w.frames ≡ w.limit + 2
    pub own : List ℕ
    pub are_bytes : AreBytes own
    pub opens : List OpenNode
    pub spine : Spine w.types room ty opens w.frames (cells_shown pool ns) own
    pub inside : AreInPool pool ns
    pub texts : text_len ≡ entries_text_bytes (entries_shown pool ns)
    pub fits : all_kept ns ≤ length pool

-- these nodes are those of some value that is being built
abbrev pub AreBuilt : Walked → List Node → Type 0
AreBuilt w ns = (ty : ℕ) × (pool : List ℕ) × (text_len : ℕ) × IsBuilding ty w pool ns text_len

-- open nodes that are complete were closed: none, some or all of them
pub record Settles (old : Walked) (before : List Node) (new : Walked) (after : List Node) : Type 0
  where
    pub walk : settled_walk new ≡ settled_walk old
    pub entries : (pool : List ℕ) → entries_shown pool after ≡ entries_shown pool before
    pub builds : (ty : ℕ) (pool : List ℕ) (text_len : ℕ) → IsBuilding ty old pool before text_len →
        IsBuilding ty new pool after text_len
    pub kept : all_kept after ≡ all_kept before

-- an open run is the rest of the pool from its place on
abbrev pub pieces_shown : List ℕ → Option OpenRun → Option Pieces
pieces_shown pool open_run =
    option_map (λ o. record { kind = o.kind; len = o.len; bytes = drop o.start pool }) open_run

-- an open run of length `len` is next, has no more bytes so far than it will have, and begins where
-- the bytes of all nodes end
pub record IsOpenAt (w : Walked) (pool : List ℕ) (kept : ℕ) (k : RunKind) (start len : ℕ) : Type 0
  where
    pub is_next : next_of w ≡ next.Wants (run_form k)
    pub inside : start ≤ length pool
    pub short : length pool ≤ start + run_bytes k len
    pub behind : kept ≡ start
    pub are_bytes : AreBytes (drop start pool)
    pub spelled : len < 2 ^ 32
    pub fits : FitsKind k len

-- the pool has exactly the bytes of the nodes and the bytes so far of the open run
abbrev pub IsOpenRun : Walked → List ℕ → ℕ → Option OpenRun → Type 0
IsOpenRun w pool kept (Some o) = IsOpenAt w pool kept o.kind o.start o.len
IsOpenRun w pool kept None = kept ≡ length pool

-- each turn of the closing loop closed an open node, so there are at most as many turns as nodes,
-- less those still open
abbrev pub IsPaid : Walked → List Node → ℕ → Type 0
IsPaid w ns turns = turns + length w.frames ≤ length ns + 1

-- What a decoder holds of an input, and how much that is.
use Rattle.std.specs.Prelude.{◌≡◌, ℕ, suc, ◌+◌, ◌≤◌, List, length, Ok, Err}
use Rattle.scale_core.specs.Read.{Read}
use Rattle.scale_core.specs.declared.fault.Reason.{Reason}
use Rattle.types_core.specs.declared.type_info.TypeInfo.{TypeInfo}
use Rattle.graph_core.specs.Widths.{widest}
use Rattle.widths_core.specs.Layouts.{Layout, layout}
use Rattle.widths_core.specs.Layouts as layout
use Rattle.grammar_core.specs.Runs.{run_length_at}
use Rattle.grammar_core.specs.Tree.{Tree, nodes, text_bytes}
use Rattle.grammar_core.specs.Begun.{Begun, begun_nodes, begun_text_bytes}
use Rattle.outcome_core.specs.HeldTree.{Holds, held}
use Rattle.outcome_core.specs.Bound.{node_bound, value_bound}
use Rattle.outcome_core.specs.Outcome.{done, more, Query, IsOutcome}

-- how many bytes of an open run came after its length
abbrev pub past_length : Read Reason ℕ → ℕ
past_length (Ok n) = length n.1
past_length (Err e) = 0

-- how many bytes of a text or a run of bytes are among those of the next node
abbrev pub open_run : Layout → List ℕ → ℕ
open_run (layout.plain (layout.run k)) e = past_length (run_length_at k e)
open_run _ e = 0

-- an input holds no more than one begun tree
abbrev pub OneBegun : Type 0
OneBegun = (r : List TypeInfo) (room t : ℕ) (b : List ℕ) (g h : Begun) (e f : List ℕ) →
    Holds r room t b g e → Holds r room t b h f → (g ≡ h) × (e ≡ f)

-- the bytes taken bound the nodes and the bytes of runs, for a complete value and while more bytes
-- are needed
abbrev pub HeldIsBounded : Type 0
HeldIsBounded = (j : Query) (input : List ℕ) (n : ℕ) →
    ((v : Tree) → IsOutcome j input (done v) n →
    (nodes v ≤ value_bound n j.depth (widest j.registry)) × (text_bytes v ≤ n))
    × (IsOutcome j input more n →
    (g : Begun) (e : List ℕ) (h : Holds j.registry (suc j.depth) j.ty input g e) →
    (begun_nodes g ≤ node_bound n j.depth (widest j.registry))
    × (begun_text_bytes g + open_run (layout j.registry h.2) e ≤ n))

-- more bytes are needed exactly if a begun tree is held, within the byte limit, and the tree is the
-- computed one
abbrev pub MoreHolds : Type 0
MoreHolds = (j : Query) (input : List ℕ) →
    (IsOutcome j input more (length input) → (length input ≤ j.bytes)
    × Holds j.registry (suc j.depth) j.ty input (held j.registry (suc j.depth) j.ty input).0
    (held j.registry (suc j.depth) j.ty input).1)
    × ((g : Begun) (e : List ℕ) → length input ≤ j.bytes →
    Holds j.registry (suc j.depth) j.ty input g e → IsOutcome j input more (length input))

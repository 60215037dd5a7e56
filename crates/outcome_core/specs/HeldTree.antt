-- What is held of an input in which bytes are missing: a begun tree, and the bytes of the next
-- node, which is incomplete.
use Rattle.std.specs.Prelude.{true, ◌≡◌, ℕ, zero, suc, ◌+◌, ◌≤◌, ◌*◌, List, ◌++◌, length}
use Rattle.std.specs.Prelude.{Option, Some, Ok, Err}
use Rattle.scale_core.specs.Read.{Read}
use Rattle.types_core.specs.declared.type_info.TypeInfo.{TypeInfo}
use Rattle.graph_core.specs.Widths.{widest}
use Rattle.widths_core.specs.Classes.{is_finite}
use Rattle.widths_core.specs.Layouts.{layout}
use Rattle.grammar_core.specs.Tree.{Branch, Tree, Trees, none, and}
use Rattle.grammar_core.specs.Parts.{Part, left_after}
use Rattle.grammar_core.specs.Preorder as head
use Rattle.grammar_core.specs.Cells.{child_type}
use Rattle.grammar_core.specs.Reading.{ValueReader, value_at, Refusal, truncated}
use Rattle.grammar_core.specs.Begun.{Begun, nothing, open_branch, IsPart, Grows, begun_nodes}
use Rattle.grammar_core.specs.Begun.{begun_text_bytes, begun_levels}
use Rattle.grammar_core.specs.Reading.{Own}
use Rattle.outcome_core.specs.Reported.{own_at}

-- a value of the next type is allowed here, and its own bytes are incomplete
abbrev pub IsShort : List TypeInfo → ℕ → ℕ → List ℕ → Type 0
IsShort r room u e = (1 ≤ room) × (is_finite r u ≡ true) × (left : List ℕ)
    × (own_at (layout r u) e ≡ Err (truncated, left))

-- what is held while more bytes are needed: the begun tree, and the bytes of the next node
abbrev pub Holds : List TypeInfo → ℕ → ℕ → List ℕ → Begun → List ℕ → Type 0
Holds r room t b g e = (own : List ℕ) × (at : ℕ) × (u : ℕ) × (b ≡ own ++ e)
    × Grows r room t g own (Some (at, u)) × IsShort r at u e

-- ---- the same, computed

-- the values of the parts that are complete, and what is held of the first one that isn't
abbrev pub first_held : Read Refusal Tree → (List ℕ → Trees × (Begun × List ℕ)) → Begun × List ℕ →
    Trees × (Begun × List ℕ)
first_held (Ok x) others own = let s = others x.1 in (and x.0 s.0, s.1)
first_held (Err e) others own = (none, own)

-- the same for n parts
abbrev pub parts_held : (ℕ → ValueReader Tree) → (ℕ → List ℕ → Begun × List ℕ) → ℕ → Part →
    List ℕ → Trees × (Begun × List ℕ)
parts_held child hold zero p b = (none, (nothing, b))
parts_held child hold (suc n) p b =
    first_held (child (child_type p) b) (λ c. parts_held child hold n (left_after p) c)
    (hold (child_type p) b)

-- an open node, with what is held of its parts
abbrev pub over : Branch → ℕ → Trees × (Begun × List ℕ) → Begun × List ℕ
over k n s = (open_branch k n s.0 s.1.0, s.1.1)

-- a node whose own bytes open parts is held with these; otherwise only its bytes are held
abbrev pub own_held : (ℕ → ValueReader Tree) → (ℕ → List ℕ → Begun × List ℕ) → List ℕ → Own →
    Begun × List ℕ
own_held child hold at (Ok ((head.branch k n, Some p), b)) = over k n (parts_held child hold n p b)
own_held child hold at _ = (nothing, at)

-- what is held of an input in which bytes are missing
unfoldable pub held : List TypeInfo → ℕ → ℕ → List ℕ → Begun × List ℕ
held r zero t b = (nothing, b)
held r (suc room) t b = own_held (value_at r room) (held r room) b (own_at (layout r t) b)

-- ---- the laws

-- if bytes are missing, a begun tree is held
abbrev pub MissingIsBegun : Type 0
MissingIsBegun = (r : List TypeInfo) (room t : ℕ) (b left : List ℕ) →
    value_at r room t b ≡ Err (truncated, left) → (g : Begun) × (e : List ℕ) × IsPart g
    × Holds r room t b g e

-- if a begun tree is held, bytes are missing, and the tree is the computed one, so it is unique
abbrev pub BegunIsMissing : Type 0
BegunIsMissing = (r : List TypeInfo) (room t : ℕ) (b : List ℕ) (g : Begun) (e : List ℕ) →
    Holds r room t b g e → ((left : List ℕ) × (value_at r room t b ≡ Err (truncated, left)))
    × (held r room t b ≡ (g, e))

-- the levels of a begun tree fit. Its nodes are bounded by its bytes, the levels allowed and the
-- width of the registry. Its texts and runs of bytes have no more bytes than it has
abbrev pub BegunIsBounded : Type 0
BegunIsBounded = (r : List TypeInfo) (room t : ℕ) (g : Begun) (b : List ℕ) (next : Option (ℕ × ℕ)) →
    Grows r room t g b next →
    (begun_levels g ≤ room) × (begun_nodes g ≤ (length b + 1) * (room * (widest r + 1)))
    × (begun_text_bytes g ≤ length b)

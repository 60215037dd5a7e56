-- What contracts see of a value that is being built, and how adding a node changes it.
use Rattle.std.specs.Prelude.{◌≡◌, ℕ, ◌+◌, ◌-◌, ◌≤◌, List, [], ◌∷◌, ◌++◌, length, map, Option, Some}
use Rattle.std.specs.Prelude.{None, option_map, true}
use Rattle.scale_core.specs.Number.{AreBytes}
use Rattle.types_core.specs.Bits.{first_unused}
use Rattle.types_core.specs.declared.definition.Arm.{Arm}
use Rattle.graph_core.specs.Types.{field_types}
use Rattle.widths_core.specs.Arms.{arm_of}
use Rattle.widths_core.specs.Classes.{is_finite}
use Rattle.widths_core.specs.Layouts.{Layout, layout}
use Rattle.widths_core.specs.Layouts as layout
use Rattle.widths_core.specs.declared.run_kind.RunKind.{RunKind}
use Rattle.widths_core.specs.declared.run_kind.RunKind.TheVariants as kind
use Rattle.grammar_core.specs.Runs.{run_leaf}
use Rattle.grammar_core.specs.declared.form.Form.TheVariants as form
use Rattle.grammar_core.specs.declared.form.Next.{Next}
use Rattle.grammar_core.specs.declared.form.Next.TheVariants as next
use Rattle.grammar_core.specs.Tree.{Branch, none}
use Rattle.grammar_core.specs.Grammar.{Val}
use Rattle.grammar_core.specs.Cells.{fields_part, list_part}
use Rattle.grammar_core.specs.Spelled.{index_of}
use Rattle.grammar_core.specs.Parts.{Part, each, first_of, how_many_left}
use Rattle.grammar_core.specs.Preorder as head
use Rattle.grammar_core.specs.Tree as tree
use Rattle.grammar_core.specs.Preorder.{Head, tree_with, tree_of, Entry}
use Rattle.node_core.specs.Shown.{Seen, head_shown}
use Rattle.grammar_core.specs.Begun.{BranchOpens}
use Rattle.value_core.specs.Walked.{OpenPart, Walked, next_of, next_type, advanced, opened}
use Rattle.value_core.specs.Opened.{next_shape}
use Rattle.node_core.specs.declared.node.Node.{Node}

-- a text, a run of bytes or words of bits that come in pieces: the kind, the length, and the bytes
-- so far
pub record Pieces : Type 0 where
  pub kind : RunKind
  pub len : ℕ
  pub bytes : List ℕ

-- a value of type ty that is being built: the walk through it, its nodes in preorder, the run that
-- is open, and how many turns the loop that closes nodes has taken
pub record Built : Type 0 where
  pub ty : ℕ
  pub walk : Walked
  pub entries : List Entry
  pub run : Option Pieces
  pub turns : ℕ

abbrev pub entries_shown : List ℕ → List Node → List Entry
entries_shown pool ns =
    map (λ n. record { ty = n.ty.0; head = head_shown pool n.children n.content }) ns

abbrev pub head_text_bytes : Head → ℕ
head_text_bytes (head.leaf (tree.text s)) = length s
head_text_bytes (head.leaf (tree.bytes s)) = length s
head_text_bytes (head.leaf (tree.bits n s)) = length s
head_text_bytes _ = 0

-- the number of bytes of all texts and runs of bytes
abbrev pub entries_text_bytes : List Entry → ℕ
entries_text_bytes [] = 0
entries_text_bytes (e ∷ es) = head_text_bytes e.head + entries_text_bytes es

-- open nodes that are complete are closed, the innermost first; the root's part stays
abbrev pub settled_in : List OpenPart → List OpenPart
settled_in [] = []
settled_in (f ∷ []) = f ∷ []
settled_in (f ∷ g ∷ fs) =
    elim (first_of f.left) [ Some t ↦ f ∷ g ∷ fs | None ↦ settled_in (g ∷ fs) ]

abbrev pub settled_walk : Walked → Walked
settled_walk w = record { types = w.types; limit = w.limit; frames = settled_in w.frames }

-- no open node is complete
abbrev pub IsSettled : Walked → Type 0
IsSettled w = settled_walk w ≡ w

-- how many nodes that closes
abbrev pub closings : List OpenPart → ℕ
closings fs = length fs - length (settled_in fs)

-- the same for a value that is being built: each turn closes one node
abbrev pub settled : Built → Built
settled b = record {
  ty = b.ty;
  walk = settled_walk b.walk;
  entries = b.entries;
  run = b.run;
  turns = b.turns + closings b.walk.frames;
}

-- each turn closed a node, so turns and open nodes together are at most as many as the nodes
abbrev pub HasFewTurns : Built → Type 0
HasFewTurns b = b.turns + (length b.walk.frames - 1) ≤ length b.entries

abbrev pub type_or_0 : Option ℕ → ℕ
type_or_0 (Some t) = t
type_or_0 None = 0

-- this node, with the next type
abbrev pub next_entry : Built → Head → Entry
next_entry b h = record { ty = type_or_0 (next_type b.walk); head = h }

-- the value with this node added, which has no children
abbrev pub with_leaf : Built → Head → Built
with_leaf b h = settled (record b {
  walk = advanced b.walk;
  entries =
      b.entries ++ next_entry b h ∷ [];
})

-- the value with this node added, whose children come next
abbrev pub with_open : Built → Head → Part → Built
with_open b h p = settled
    (record b {
      walk = opened (advanced b.walk) (length b.entries) p;
      entries =
          b.entries ++ next_entry b h ∷ [];
    })

-- a node that has no children
abbrev pub IsLeaf : Head → Type 0
IsLeaf (head.branch k n) = ⊥
IsLeaf _ = Unit {0}

-- this node by itself is a value of the next type, and the depth limit allows it
pub record IsNextLeaf (w : Walked) (h : Head) : Type 0 where
  pub ty : ℕ
  pub next : next_type w ≡ Some ty
  pub room : length w.frames ≤ w.limit + 1
  pub leaf : IsLeaf h
  pub own : List ℕ
  pub are_bytes : AreBytes own
  pub value : Val w.types ty (tree_with h none) own

-- the next type has a node of this kind with these children, and the depth limit allows it
pub record IsNextOpen (w : Walked) (h : Head) (p : Part) : Type 0 where
  pub ty : ℕ
  pub next : next_type w ≡ Some ty
  pub room : length w.frames ≤ w.limit + 1
  pub kind : Branch
  pub head_is : h ≡ head.branch kind (how_many_left p)
  pub own : List ℕ
  pub are_bytes : AreBytes own
  pub finite : is_finite w.types ty ≡ true
  pub opens : BranchOpens (layout w.types ty) kind own p

-- the layout of the next type, by which its fields, an arm or elements are opened
abbrev pub next_layout : Built → Layout
next_layout b = layout b.walk.types (type_or_0 (next_type b.walk))

abbrev pub with_fields : Built → Built
with_fields b = let p = fields_part (next_layout b) in
    with_open b (head.branch tree.fields (how_many_left p)) p

-- the first arm with this index, if the layout has arms
abbrev pub arm_in : Layout → ℕ → Option (ℕ × Arm)
arm_in (layout.arms arms) index = arm_of arms index
arm_in _ index = None

abbrev pub with_found : Built → Option (ℕ × Arm) → Built
with_found b (Some found) = let p = each (field_types found.1.fields) in
    with_open b (head.branch (tree.arm found.0) (how_many_left p)) p
with_found b None = b

abbrev pub with_arm : Built → ℕ → Built
with_arm b index = with_found b (arm_in (next_layout b) index)

-- the value with the arm of this index; unchanged if there is no index
abbrev pub with_index : Built → Option ℕ → Built
with_index b (Some index) = with_arm b index
with_index b None = b

abbrev pub with_arm_at : Built → ℕ → Built
with_arm_at b q = with_index b (index_of (next_shape b.walk) q)

abbrev pub with_list : Built → ℕ → Built
with_list b n = with_open b (head.branch tree.list n) (list_part (next_layout b) n)

-- ---- a run in pieces

-- a run of this kind may have this length, which is fixed for an array
abbrev pub FitsKind : RunKind → ℕ → Type 0
FitsKind (kind.ByteArray n) len = len ≡ n
FitsKind _ len = Unit {0}

abbrev pub pieces_bytes : Option Pieces → List ℕ
pieces_bytes (Some t) = t.bytes
pieces_bytes None = []

abbrev pub with_run_opened : Built → RunKind → ℕ → Built
with_run_opened b k len =
    record b { run = Some (record { kind = k; len = len; bytes = [] }) }

-- the kind of the run of bytes that is next
abbrev pub bytes_kind : Next → RunKind
bytes_kind (next.Wants (form.ByteArray n)) = kind.ByteArray n
bytes_kind _ = kind.Bytes

abbrev pub with_bytes_opened : Built → ℕ → Built
with_bytes_opened b len = with_run_opened b (bytes_kind (next_of b.walk)) len

abbrev pub with_piece : Built → List ℕ → Built
with_piece b piece = record b {
  run =
      option_map (λ t. record { kind = t.kind; len = t.len; bytes = t.bytes ++ piece }) b.run;
}

-- the node that the open run becomes
abbrev pub run_head : Option Pieces → Head
run_head (Some t) = head.leaf (run_leaf t.kind (t.len, t.bytes))
run_head None = head.leaf tree.unit

-- in these words of n bits no unused bit is 1; another run has none
abbrev pub IsClean : RunKind → ℕ → List ℕ → Type 0
IsClean (kind.Bits f) n s = first_unused f n 0 s ≡ None
IsClean _ n s = Unit {0}

abbrev pub IsCleanRun : Option Pieces → Type 0
IsCleanRun (Some t) = IsClean t.kind t.len t.bytes
IsCleanRun None = Unit {0}

-- how many bytes of a piece stand before the first one with an unused bit of 1, after so many bytes
-- of a run
abbrev pub unused_of : RunKind → ℕ → ℕ → List ℕ → Option ℕ
unused_of (kind.Bits f) n at piece = first_unused f n at piece
unused_of _ n at piece = None

abbrev pub unused_in : Option Pieces → List ℕ → Option ℕ
unused_in (Some t) piece = unused_of t.kind t.len (length t.bytes) piece
unused_in None piece = None

-- the open run is added as the next node
abbrev pub with_run_ended : Built → Built
with_run_ended b = with_leaf (record b { run = None }) (run_head b.run)

-- the same if a run is open; otherwise nothing is added
abbrev pub with_run_closed : Built → Built
with_run_closed b = elim b.run [ Some t ↦ with_run_ended b | None ↦ b ]

-- the number of bytes of all texts and runs of bytes, including the open one
abbrev pub built_text_bytes : Built → ℕ
built_text_bytes b = entries_text_bytes b.entries + length (pieces_bytes b.run)

-- the finished value
abbrev pub finished : Built → Seen
finished b = record {
  types = b.walk.types;
  ty = b.ty;
  tree =
      tree_of (map (λ e. e.head) b.entries);
}

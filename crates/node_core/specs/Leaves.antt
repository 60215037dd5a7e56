-- A node without children, before it is added to a value.
use Rattle.std.specs.Prelude.{◌≡◌, ℕ, ◌+◌, ◌-◌, ◌*◌, ◌<◌, ◌≤◌, ◌^◌, List, [], ◌∷◌}
use Rattle.std.specs.Prelude.{◌++◌, length, FitsSigned}
use Rattle.std.specs.Int.{w128}
use Rattle.grammar_core.specs.Preorder as head
use Rattle.grammar_core.specs.Tree as tree
use Rattle.grammar_core.specs.Preorder.{Head}
use Rattle.types_core.specs.Bits.{bits_bytes}
use Rattle.types_core.specs.declared.type_id.TypeId.{TypeId}
use Rattle.widths_core.specs.declared.run_kind.RunKind.{RunKind}
use Rattle.widths_core.specs.declared.run_kind.RunKind.TheVariants as kind
use Rattle.node_core.specs.Shown.{head_shown, IsInPool, kept_bytes}
use Rattle.node_core.specs.declared.leaf.Leaf.{Leaf}
use Rattle.node_core.specs.declared.leaf.Leaf.TheVariants as leaf
use Rattle.node_core.specs.declared.node.Content.{Content}
use Rattle.node_core.specs.declared.node.Content.TheVariants as content
use Rattle.node_core.specs.declared.node.Node.{Node}
use Rattle.node_core.specs.declared.open_run.OpenRun.{OpenRun}

abbrev pub leaf_head : Leaf → Head
leaf_head leaf.Empty = head.leaf tree.unit
leaf_head (leaf.Bool b) = head.leaf (tree.bool b)
leaf_head (leaf.Char c) = head.leaf (tree.char c)
leaf_head (leaf.Text s) = head.leaf (tree.text s.now)
leaf_head (leaf.Bytes s) = head.leaf (tree.bytes s.now)
leaf_head (leaf.Bits n s) = head.leaf (tree.bits n s.now)
leaf_head (leaf.Unsigned n) = head.leaf (tree.unsigned n)
leaf_head (leaf.Signed z) = head.leaf (tree.signed z)
leaf_head (leaf.Wide b) = head.leaf (tree.wide b.now)
leaf_head (leaf.Compact n) = head.leaf (tree.compact n)
leaf_head (leaf.Count n) = head.leaf (tree.count n)

abbrev pub leaf_text_bytes : Leaf → ℕ
leaf_text_bytes (leaf.Text s) = length s.now
leaf_text_bytes (leaf.Bytes s) = length s.now
leaf_text_bytes (leaf.Bits n s) = length s.now
leaf_text_bytes _ = 0

-- a text or a run is below 2 ^ 32 bytes, of the bits of words fewer than 256 are unused, an integer
-- fits 128 bits, and a wide one has 32 bytes
abbrev pub FitsLeaf : Leaf → Type 0
FitsLeaf (leaf.Text s) = length s.now < 2 ^ 32
FitsLeaf (leaf.Bytes s) = length s.now < 2 ^ 32
FitsLeaf (leaf.Bits n s) = (n < 2 ^ 32) × (n ≤ 8 * length s.now) × (8 * length s.now < n + 256)
FitsLeaf (leaf.Unsigned n) = n < 2 ^ 128
FitsLeaf (leaf.Compact n) = n < 2 ^ 128
FitsLeaf (leaf.Signed z) = FitsSigned w128 z
FitsLeaf (leaf.Wide b) = length b.now ≡ 32
FitsLeaf _ = Unit {0}

-- the leaf is kept as this content, and the pool has grown by the bytes that it has there
pub record IsLeafKept (l : Leaf) (old new : List ℕ) (content : Content) : Type 0 where
  pub more : List ℕ
  pub grown : new ≡ old ++ more
  pub shows : head_shown new 0 content ≡ leaf_head l
  pub inside : IsInPool new content
  pub kept : kept_bytes content ≡ length more

-- the same, and the leaf is the last of the nodes
pub record IsAppended (ty : TypeId) (l : Leaf) (nodes : List Node) (pool : List ℕ)
    (new_nodes : List Node) (new_pool : List ℕ) : Type 0
  where
    pub content : Content
    pub nodes_are : new_nodes ≡ nodes ++ record { ty = ty; children = 0; content = content } ∷ []
    pub kept : IsLeafKept l pool new_pool content

-- the node that an open run becomes when all its bytes are there
abbrev pub run_content_of : RunKind → ℕ → ℕ → Content
run_content_of kind.Text len start = content.Text len start
run_content_of (kind.Bits f) n start =
    content.Bits (8 * bits_bytes f n - n) (bits_bytes f n) start
run_content_of _ len start = content.Bytes len start

abbrev pub run_content : OpenRun → Content
run_content o = run_content_of o.kind o.len o.start

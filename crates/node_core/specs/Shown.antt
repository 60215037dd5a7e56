-- What contracts see of a value: its registry, its type and its tree.
use Rattle.std.specs.Prelude.{◌≡◌, ℕ, zero, suc, ℤ, pos, neg_ℤ, ◌+◌, ◌-◌, ◌*◌, ◌^◌, ◌<◌, ◌≤◌}
use Rattle.std.specs.Prelude.{nat_lt}
use Rattle.std.specs.Prelude.{List, [], ◌∷◌, length, map, take, drop, slice_range, if◌then◌else◌}
use Rattle.std.specs.Prelude.{Option, Some, None}
use Rattle.std.specs.List.{AllByRecursion}
use Rattle.std.specs.Int.{w128, from_le_bytes}
use Rattle.scale_core.specs.Number.{AreBytes}
use Rattle.types_core.specs.declared.type_info.TypeInfo.{TypeInfo}
use Rattle.widths_core.specs.Layouts.{layout}
use Rattle.grammar_core.specs.Tree as tree
use Rattle.grammar_core.specs.Tree.{Tree, Trees, none, and, text_bytes}
use Rattle.grammar_core.specs.Grammar.{Val}
use Rattle.grammar_core.specs.Preorder as head
use Rattle.grammar_core.specs.Preorder.{Head, tree_of}
use Rattle.grammar_core.specs.Parts.{Part, left_after}
use Rattle.grammar_core.specs.Cells.{Cell, cells, all_cells, child_type, part_of}
use Rattle.node_core.specs.declared.node.Content.{Content}
use Rattle.node_core.specs.declared.node.Content.TheVariants as is
use Rattle.node_core.specs.declared.node.Node.{Node}

-- a value of a type of a registry
pub record Seen : Type 0 where
  pub types : List TypeInfo
  pub ty : ℕ
  pub tree : Tree

-- it is a value by the grammar
abbrev pub IsValue : Seen → Type 0
IsValue s = (b : List ℕ) × AreBytes b × Val s.types s.ty s.tree b

-- values of these types, one after the other
abbrev pub seen_parts : List TypeInfo → Part → Trees → List Seen
seen_parts r p none = []
seen_parts r p (and v vs) =
    record { types = r; ty = child_type p; tree = v } ∷ seen_parts r (left_after p) vs

-- the children of a value of type t
abbrev pub children_by : List TypeInfo → ℕ → Tree → List Seen
children_by r t (tree.leaf l) = []
children_by r t (tree.branch k vs) = seen_parts r (part_of (layout r t) k (tree.how_many vs)) vs

abbrev pub children_of : Seen → List Seen
children_of s = children_by s.types s.ty s.tree

abbrev pub text_of : Tree → Option (List ℕ)
text_of (tree.leaf (tree.text s)) = Some s
text_of _ = None

abbrev pub bytes_of : Tree → Option (List ℕ)
bytes_of (tree.leaf (tree.bytes s)) = Some s
bytes_of _ = None

-- the bytes of the words of a bit sequence
abbrev pub words_of : Tree → Option (List ℕ)
words_of (tree.leaf (tree.bits n s)) = Some s
words_of _ = None

-- ---- how it is kept

-- the integer that a word of sixteen bytes stands for in two's complement
abbrev pub signed_from : ℕ → ℤ
signed_from n = if nat_lt (2 * n) (2 ^ 128) then pos n else neg_ℤ (pos (2 ^ 128 - n))

-- the number in the sixteen bytes at a place of the pool
abbrev pub long_shown : List ℕ → ℕ → ℕ
long_shown pool start = from_le_bytes w128 (slice_range pool start (start + 16))

-- a node by itself, with n children and its bytes in the pool
abbrev pub head_shown : List ℕ → ℕ → Content → Head
head_shown pool n is.Empty = head.leaf tree.unit
head_shown pool n (is.Bool b) = head.leaf (tree.bool b)
head_shown pool n (is.Char c) = head.leaf (tree.char c)
head_shown pool n (is.Count k) = head.leaf (tree.count k)
head_shown pool n (is.Text len start) = head.leaf (tree.text (slice_range pool start (start + len)))
head_shown pool n (is.Bytes len start) =
    head.leaf (tree.bytes (slice_range pool start (start + len)))
head_shown pool n (is.Bits unused len start) =
    head.leaf (tree.bits (8 * len - unused) (slice_range pool start (start + len)))
head_shown pool n (is.Unsigned k) = head.leaf (tree.unsigned k)
head_shown pool n (is.Compact k) = head.leaf (tree.compact k)
head_shown pool n (is.Signed z) = head.leaf (tree.signed z)
head_shown pool n (is.LongUnsigned start) = head.leaf (tree.unsigned (long_shown pool start))
head_shown pool n (is.LongCompact start) = head.leaf (tree.compact (long_shown pool start))
head_shown pool n (is.LongSigned start) =
    head.leaf (tree.signed (signed_from (long_shown pool start)))
head_shown pool n (is.Wide start) = head.leaf (tree.wide (slice_range pool start (start + 32)))
head_shown pool n (is.Fields size) = head.branch tree.fields n
head_shown pool n (is.Arm q size) = head.branch (tree.arm q) n
head_shown pool n (is.List size) = head.branch tree.list n

-- how many nodes its subtree has: 1 for a leaf; a node with parts keeps the number, which is 0
-- while it is open
abbrev pub size_shown : Content → ℕ
size_shown (is.Fields size) = size
size_shown (is.Arm q size) = size
size_shown (is.List size) = size
size_shown _ = 1

-- a node with parts, whose subtree has k nodes
abbrev pub closed_as : Content → ℕ → Content
closed_as (is.Fields size) k = is.Fields k
closed_as (is.Arm q size) k = is.Arm q k
closed_as (is.List size) k = is.List k
closed_as c k = c

-- how many bytes it has in the pool
abbrev pub kept_bytes : Content → ℕ
kept_bytes (is.Text len start) = len
kept_bytes (is.Bytes len start) = len
kept_bytes (is.Bits unused len start) = len
kept_bytes (is.LongUnsigned start) = 16
kept_bytes (is.LongCompact start) = 16
kept_bytes (is.LongSigned start) = 16
kept_bytes (is.Wide start) = 32
kept_bytes _ = 0

-- the same for all nodes
abbrev pub all_kept : List Node → ℕ
all_kept [] = 0
all_kept (n ∷ ns) = kept_bytes n.content + all_kept ns

-- its bytes lie in the pool; of bits there are fewer than 2^32
abbrev pub IsInPool : List ℕ → Content → Type 0
IsInPool pool (is.Text len start) = start + len ≤ length pool
IsInPool pool (is.Bytes len start) = start + len ≤ length pool
IsInPool pool (is.Bits unused len start) = (start + len ≤ length pool)
    × (8 * len < 2 ^ 32 + unused)
IsInPool pool (is.LongUnsigned start) = start + 16 ≤ length pool
IsInPool pool (is.LongCompact start) = start + 16 ≤ length pool
IsInPool pool (is.LongSigned start) = start + 16 ≤ length pool
IsInPool pool (is.Wide start) = start + 32 ≤ length pool
IsInPool pool _ = Unit {0}

abbrev pub AreInPool : List ℕ → List Node → Type 0
AreInPool pool ns = AllByRecursion (λ n. IsInPool pool n.content) ns

abbrev pub cell_shown : List ℕ → Node → Cell
cell_shown pool n = record {
  ty = n.ty.0;
  head = head_shown pool n.children n.content;
  size = size_shown n.content;
}

abbrev pub cells_shown : List ℕ → List Node → List Cell
cells_shown pool ns = map (cell_shown pool) ns

-- the tree of the nodes, and the type of the first one
abbrev pub tree_shown : List ℕ → List Node → Tree
tree_shown pool ns = tree_of (map (λ n. head_shown pool n.children n.content) ns)

abbrev pub type_shown : List Node → ℕ
type_shown [] = 0
type_shown (n ∷ ns) = n.ty.0

abbrev pub seen : List TypeInfo → List ℕ → List Node → Seen
seen types pool ns = record { types = types; ty = type_shown ns; tree = tree_shown pool ns }

-- the nodes are exactly those of the value
pub record IsWhole (types : List TypeInfo) (pool : List ℕ) (ns : List Node) : Type 0 where
  pub nodes : cells_shown pool ns ≡ cells types (type_shown ns) (tree_shown pool ns)
  pub inside : AreInPool pool ns
  pub value : IsValue (seen types pool ns)

-- the values that have these nodes, one after the other; the first node of each gives its size
abbrev pub forest : List TypeInfo → List ℕ → ℕ → List Node → List Seen
forest types pool zero ns = []
forest types pool (suc k) [] = []
forest types pool (suc k) (n ∷ ns) =
    let size = size_shown n.content in
    seen types pool (take size (n ∷ ns)) ∷ forest types pool k (drop size (n ∷ ns))

abbrev pub all_seen : List TypeInfo → List ℕ → List Node → List Seen
all_seen types pool ns = forest types pool (length ns) ns

-- the trees are values of these types
abbrev pub AreValues : List TypeInfo → Part → Trees → Type 0
AreValues r p none = Unit {0}
AreValues r p (and v vs) = IsValue (record { types = r; ty = child_type p; tree = v })
    × AreValues r (left_after p) vs

-- the nodes are exactly those of values, one after the other
pub record IsForest (types : List TypeInfo) (pool : List ℕ) (ns : List Node) : Type 0 where
  pub part : Part
  pub values : Trees
  pub nodes : cells_shown pool ns ≡ all_cells types part values
  pub inside : AreInPool pool ns
  pub are_values : AreValues types part values

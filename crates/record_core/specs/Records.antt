-- A value as records: a node is a few numbers, and its bytes lie in a pool beside them.
use Rattle.std.specs.Prelude.{◌≡◌, ℕ, ◌+◌, ◌*◌, ◌/◌, ◌%◌, ◌^◌, ◌==◌, List, [], ◌∷◌, length}
use Rattle.std.specs.Prelude.{flat_map}
use Rattle.std.specs.Prelude.{map, nat_lt, if◌then◌else◌, slice_range, Option, Some}
use Rattle.std.specs.Int.{w128, cast_unsigned}
use Rattle.scale_core.specs.Number.{bool_byte}
use Rattle.types_core.specs.Bits.{bits_bytes}
use Rattle.types_core.specs.declared.definition.TypeDef.{TypeDef}
use Rattle.types_core.specs.declared.definition.TypeDef.TheVariants as Def
use Rattle.types_core.specs.declared.type_info.TypeInfo.{TypeInfo}
use Rattle.graph_core.specs.Types.{shape}
use Rattle.grammar_core.specs.Cells.{Cell, cells}
use Rattle.grammar_core.specs.Preorder as head
use Rattle.grammar_core.specs.Preorder.{Head, child_count, tree_of}
use Rattle.grammar_core.specs.Tree as tree
use Rattle.grammar_core.specs.Tree.{Tree}
use Rattle.node_core.specs.Shown.{IsValue, Seen, signed_from}
use Rattle.record_core.specs.declared.record.Record.{Record}

-- the number of a node's kind
abbrev pub kind_code : Head → ℕ
kind_code (head.leaf tree.unit) = 0
kind_code (head.leaf (tree.bool x)) = 1
kind_code (head.leaf (tree.char c)) = 2
kind_code (head.leaf (tree.unsigned n)) = 3
kind_code (head.leaf (tree.signed z)) = 4
kind_code (head.leaf (tree.compact n)) = 5
kind_code (head.leaf (tree.count n)) = 6
kind_code (head.leaf (tree.text s)) = 7
kind_code (head.leaf (tree.bytes s)) = 8
kind_code (head.leaf (tree.wide s)) = 9
kind_code (head.branch tree.fields n) = 10
kind_code (head.branch (tree.arm q) n) = 11
kind_code (head.branch tree.list n) = 12
kind_code (head.leaf (tree.bits n s)) = 13

-- the position of its arm
abbrev pub arm_code : Head → ℕ
arm_code (head.branch (tree.arm q) n) = q
arm_code _ = 0

-- its bytes in the pool
abbrev pub head_pool_bytes : Head → List ℕ
head_pool_bytes (head.leaf (tree.text s)) = s
head_pool_bytes (head.leaf (tree.bytes s)) = s
head_pool_bytes (head.leaf (tree.wide s)) = s
head_pool_bytes (head.leaf (tree.bits n s)) = s
head_pool_bytes _ = []

-- the two words of a node whose bytes begin at place `at` of the pool, and whose subtree has `size`
-- nodes: the halves of a number; a place in the pool and a length, in bits for a bit sequence and
-- else in bytes; or the number of nodes
abbrev pub low_word : ℕ → ℕ → Head → ℕ
low_word at size (head.leaf tree.unit) = 0
low_word at size (head.leaf (tree.bool x)) = bool_byte x
low_word at size (head.leaf (tree.char c)) = c
low_word at size (head.leaf (tree.unsigned n)) = n % 2 ^ 64
low_word at size (head.leaf (tree.signed z)) = cast_unsigned w128 z % 2 ^ 64
low_word at size (head.leaf (tree.compact n)) = n % 2 ^ 64
low_word at size (head.leaf (tree.count n)) = n
low_word at size (head.leaf (tree.text s)) = at
low_word at size (head.leaf (tree.bytes s)) = at
low_word at size (head.leaf (tree.wide s)) = at
low_word at size (head.leaf (tree.bits n s)) = at
low_word at size (head.branch k n) = size

abbrev pub high_word : Head → ℕ
high_word (head.leaf (tree.unsigned n)) = n / 2 ^ 64
high_word (head.leaf (tree.signed z)) = cast_unsigned w128 z / 2 ^ 64
high_word (head.leaf (tree.compact n)) = n / 2 ^ 64
high_word (head.leaf (tree.text s)) = length s
high_word (head.leaf (tree.bytes s)) = length s
high_word (head.leaf (tree.wide s)) = length s
high_word (head.leaf (tree.bits n s)) = n
high_word _ = 0

-- the record of a node whose bytes begin at a place of the pool
abbrev pub record_of : ℕ → Cell → Record
record_of at c = record {
  kind = kind_code c.head;
  ty = c.ty;
  children = child_count c.head;
  arm = arm_code c.head;
  low = low_word at c.size c.head;
  high = high_word c.head;
}

-- the records of nodes whose bytes begin at this place of the pool
abbrev pub records_from : ℕ → List Cell → List Record
records_from at [] = []
records_from at (c ∷ cs) = record_of at c ∷ records_from (at + length (head_pool_bytes c.head)) cs

-- the bytes of all nodes, one after the other
abbrev pub pool_of : List Cell → List ℕ
pool_of cs = flat_map (λ c. head_pool_bytes c.head) cs

-- the nodes of a value, in the order of their bytes
abbrev pub nodes_of : Seen → List Cell
nodes_of v = cells v.types v.ty v.tree

-- ---- read back

-- the number that has these halves
abbrev pub number_of : Record → ℕ
number_of r = r.low + 2 ^ 64 * r.high

abbrev pub range_of : List ℕ → Record → List ℕ
range_of pool r = slice_range pool r.low (r.low + r.high)

-- how many bytes the words of n bits have in a type of this definition; 0 if its bits aren't read
abbrev pub words_len : Option TypeDef → ℕ → ℕ
words_len (Some (Def.BitSequence store order (Some form))) n = bits_bytes form n
words_len _ n = 0

abbrev pub record_words : List TypeInfo → List ℕ → Record → List ℕ
record_words types pool r =
    slice_range pool r.low (r.low + words_len (shape types r.ty) r.high)

-- the node of a record: one with its number in the record, one with its bytes in the pool, one with
-- children, or a bit sequence
abbrev pub scalar_head : Record → Head
scalar_head r =
    if r.kind == 0 then head.leaf tree.unit
    else if r.kind == 1 then head.leaf (tree.bool (r.low == 1))
    else if r.kind == 2 then head.leaf (tree.char r.low)
    else if r.kind == 3 then head.leaf (tree.unsigned (number_of r))
    else if r.kind == 4 then head.leaf (tree.signed (signed_from (number_of r)))
    else if r.kind == 5 then head.leaf (tree.compact (number_of r))
    else head.leaf (tree.count r.low)

abbrev pub pooled_head : ℕ → List ℕ → Head
pooled_head kind s =
    if kind == 7 then head.leaf (tree.text s)
    else if kind == 8 then head.leaf (tree.bytes s)
    else head.leaf (tree.wide s)

abbrev pub branch_head : Record → Head
branch_head r =
    if r.kind == 10 then head.branch tree.fields r.children
    else if r.kind == 11 then head.branch (tree.arm r.arm) r.children
    else head.branch tree.list r.children

abbrev pub bits_head : List TypeInfo → List ℕ → Record → Head
bits_head types pool r = head.leaf (tree.bits r.high (record_words types pool r))

abbrev pub record_head : List TypeInfo → List ℕ → Record → Head
record_head types pool r =
    if nat_lt r.kind 7 then scalar_head r
    else if nat_lt r.kind 10 then pooled_head r.kind (range_of pool r)
    else if nat_lt r.kind 13 then branch_head r
    else bits_head types pool r

-- the tree of the nodes of these records
abbrev pub tree_read : List TypeInfo → List ℕ → List Record → Tree
tree_read types pool rs = tree_of (map (record_head types pool) rs)

-- reading back the records and the pool of a value gives its tree
abbrev pub RecordsAreTree : Type 0
RecordsAreTree = (v : Seen) → IsValue v →
    tree_read v.types (pool_of (nodes_of v)) (records_from 0 (nodes_of v)) ≡ v.tree

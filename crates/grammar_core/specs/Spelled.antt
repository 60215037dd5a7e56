-- The one spelling of a value: the bytes of each node without its children, in preorder (SCALE
-- codec, "Types").
use Rattle.std.specs.Prelude.{◌≡◌, ℕ, suc, ◌-◌, ◌^◌, ℤ, pos, negsuc, List, [], ◌∷◌, ◌++◌, length}
use Rattle.std.specs.Prelude.{flat_map, Option, Some, None, slice_get, option_map, Bool, true}
use Rattle.std.specs.Prelude.{false, if◌then◌else◌}
use Rattle.scale_core.specs.Number.{AreBytes, le_bytes, bool_byte}
use Rattle.scale_core.specs.Compact.{compact}
use Rattle.types_core.specs.Kinds.{kind_of, width_bytes}
use Rattle.types_core.specs.declared.kind.PrimitiveKind.{PrimitiveKind}
use Rattle.types_core.specs.declared.kind.PrimitiveKind.TheVariants as K
use Rattle.types_core.specs.declared.primitive.Primitive.{Primitive}
use Rattle.types_core.specs.declared.definition.TypeDef.{TypeDef}
use Rattle.types_core.specs.declared.definition.TypeDef.TheVariants as Def
use Rattle.types_core.specs.declared.type_info.TypeInfo.{TypeInfo}
use Rattle.graph_core.specs.Types.{shape}
use Rattle.grammar_core.specs.Tree.{Leaf, Branch, Tree}
use Rattle.grammar_core.specs.Grammar.{Val}
use Rattle.grammar_core.specs.Preorder as head
use Rattle.grammar_core.specs.Tree as tree
use Rattle.grammar_core.specs.Preorder.{Head}
use Rattle.grammar_core.specs.Cells.{Cell, cells}

-- how many bytes an integer of at most 128 bits has; 0 for any other kind
abbrev pub kind_width : PrimitiveKind → ℕ
kind_width (K.Unsigned w) = width_bytes w
kind_width (K.Signed w) = width_bytes w
kind_width _ = 0

abbrev pub byte_width : Primitive → ℕ
byte_width p = kind_width (kind_of p)

-- the same for a definition
abbrev pub width_of : Option TypeDef → ℕ
width_of (Some (Def.Primitive p)) = byte_width p
width_of _ = 0

-- the two's complement of an integer in 128 bits, as a number
abbrev pub word : ℤ → ℕ
word (pos n) = n
word (negsuc m) = 2 ^ 128 - suc m

-- the index of the arm at a position, if the definition is a variant with an arm there
abbrev pub index_of : Option TypeDef → ℕ → Option ℕ
index_of (Some (Def.Variant arms)) q = option_map (λ a. a.index) (slice_get arms q)
index_of _ q = None

-- the index byte of an arm
abbrev pub index_byte : Option ℕ → List ℕ
index_byte (Some i) = i ∷ []
index_byte None = []

abbrev pub is_sequence : Option TypeDef → Bool
is_sequence (Some (Def.Sequence t)) = true
is_sequence _ = false

-- a sequence begins with its length, and an array doesn't
abbrev pub length_bytes : Option TypeDef → ℕ → List ℕ
length_bytes d n = if is_sequence d then compact n else []

-- the bytes of a leaf, by the definition of its type
abbrev pub leaf_spelling : Option TypeDef → Leaf → List ℕ
leaf_spelling d tree.unit = []
leaf_spelling d (tree.bool x) = bool_byte x ∷ []
leaf_spelling d (tree.char c) = le_bytes 4 c
leaf_spelling d (tree.text s) = compact (length s) ++ s
leaf_spelling d (tree.bytes s) = length_bytes d (length s) ++ s
leaf_spelling d (tree.bits n s) = compact n ++ s
leaf_spelling d (tree.unsigned n) = le_bytes (width_of d) n
leaf_spelling d (tree.signed z) = le_bytes (width_of d) (word z)
leaf_spelling d (tree.wide s) = s
leaf_spelling d (tree.compact n) = compact n
leaf_spelling d (tree.count n) = compact n

-- the bytes before n parts, by the definition of their node's type
abbrev pub branch_bytes : Option TypeDef → Branch → ℕ → List ℕ
branch_bytes d tree.fields n = []
branch_bytes d (tree.arm q) n = index_byte (index_of d q)
branch_bytes d tree.list n = length_bytes d n

-- the bytes of a node without those of its children, by the definition of its type
abbrev pub own_bytes : Option TypeDef → Head → List ℕ
own_bytes d (head.leaf l) = leaf_spelling d l
own_bytes d (head.branch k n) = branch_bytes d k n

abbrev pub cell_bytes : List TypeInfo → Cell → List ℕ
cell_bytes r c = own_bytes (shape r c.ty) c.head

-- the bytes of all nodes of a value of type t
abbrev pub spelled : List TypeInfo → ℕ → Tree → List ℕ
spelled r t v = flat_map (cell_bytes r) (cells r t v)

-- `spelled` gives the bytes that spell a value by the grammar
abbrev pub EncodedIsValue : Type 0
EncodedIsValue = (r : List TypeInfo) (t : ℕ) (v : Tree) (b : List ℕ) → AreBytes b → Val r t v b →
    spelled r t v ≡ b

-- The bytes of a value, and how its nodes are written.
use Rattle.std.specs.Prelude.{◌≡◌, ℕ, ◌+◌, List, [], ◌++◌, Option, slice_range}
use Rattle.scale_core.specs.Number.{AreBytes}
use Rattle.types_core.specs.declared.definition.TypeDef.{TypeDef}
use Rattle.types_core.specs.declared.type_info.TypeInfo.{TypeInfo}
use Rattle.grammar_core.specs.Grammar.{Val}
use Rattle.grammar_core.specs.Spelled.{own_bytes, cell_bytes, spelled}
use Rattle.node_core.specs.Shown.{Seen, head_shown, cell_shown}
use Rattle.node_core.specs.declared.node.Content.{Content}
use Rattle.node_core.specs.declared.node.Content.TheVariants as is
use Rattle.node_core.specs.declared.node.Node.{Node}

-- the bytes of a value
abbrev pub encoding : Seen → List ℕ
encoding s = spelled s.types s.ty s.tree

-- these are bytes, and they spell the value
abbrev pub IsEncoding : Seen → List ℕ → Type 0
IsEncoding s b = AreBytes b × Val s.types s.ty s.tree b

-- ---- how it is written

-- the bytes of a node in the form in which it is kept
abbrev pub node_bytes : List TypeInfo → List ℕ → Node → List ℕ
node_bytes r pool n = cell_bytes r (cell_shown pool n)

-- the bytes of a node that lie in the pool as they are written; those of a long integer do not
abbrev pub pool_bytes : List ℕ → Content → List ℕ
pool_bytes pool (is.Text len start) = slice_range pool start (start + len)
pool_bytes pool (is.Bytes len start) = slice_range pool start (start + len)
pool_bytes pool (is.Bits unused len start) = slice_range pool start (start + len)
pool_bytes pool (is.Wide start) = slice_range pool start (start + 32)
pool_bytes pool _ = []

-- these bytes, followed by those in the pool, are the node's
abbrev pub Starts : List ℕ → Option TypeDef → List ℕ → ℕ → Content → Type 0
Starts front d pool n content =
    front ++ pool_bytes pool content ≡ own_bytes d (head_shown pool n content)

-- A value that is not complete yet, and the bytes of its nodes.
use Rattle.std.specs.Prelude.{◌≡◌, ℕ, zero, suc, ◌+◌, ◌≤◌, max, ◌⊎◌, List, [], ◌∷◌, ◌++◌, Option}
use Rattle.std.specs.Prelude.{Some, None, Bool, true, false}
use Rattle.scale_core.specs.Compact.{IsCompact}
use Rattle.scale_core.specs.declared.compact.Target.TheVariants as target
use Rattle.types_core.specs.declared.definition.Arm.{Arm}
use Rattle.types_core.specs.declared.type_info.TypeInfo.{TypeInfo}
use Rattle.graph_core.specs.Types.{field_types}
use Rattle.widths_core.specs.Arms.{arm_of}
use Rattle.widths_core.specs.Classes.{is_finite}
use Rattle.widths_core.specs.Layouts.{Layout, layout}
use Rattle.widths_core.specs.Layouts as layout
use Rattle.grammar_core.specs.Tree.{Branch, Tree, Trees, none, and, nodes, all_nodes, text_bytes}
use Rattle.grammar_core.specs.Tree.{all_text_bytes, levels, most_levels}
use Rattle.grammar_core.specs.Grammar.{Val}
use Rattle.grammar_core.specs.Parts.{Part, each, times, first_of, left_after, how_many_left}
use Rattle.grammar_core.specs.Preorder as head
use Rattle.grammar_core.specs.Tree as tree
use Rattle.grammar_core.specs.Preorder.{Head, preorder, all_preorder}

-- ---- an open node

-- a branch opens in a layout: c is the bytes of the branch itself, and p its parts
abbrev pub BranchOpens : Layout → Branch → List ℕ → Part → Type 0
BranchOpens f tree.fields c p = (ts : List ℕ) × (f ≡ layout.fields ts) × (c ≡ []) × (p ≡ each ts)
BranchOpens f (tree.arm q) c p = (arms : List Arm) × (i : ℕ) × (a : Arm) × (f ≡ layout.arms arms)
    × (arm_of arms i ≡ Some (q, a)) × (c ≡ i ∷ []) × (p ≡ each (field_types a.fields))
BranchOpens f tree.list c p = (n u : ℕ) × (((f ≡ layout.array n u) × (c ≡ []))
    ⊎ ((f ≡ layout.sequence u) × IsCompact target.U32 n c)) × (p ≡ times n u)

-- values of the first of these parts in order, their bytes, and the parts that are left
abbrev pub FirstValues : List TypeInfo → Part → Trees → List ℕ → Part → Type 0
FirstValues r p none b left = (b ≡ []) × (left ≡ p)
FirstValues r p (and v vs) b left = (t : ℕ) × (b1 b2 : List ℕ) × (first_of p ≡ Some t)
    × (b ≡ b1 ++ b2) × Val r t v b1 × FirstValues r (left_after p) vs b2 left

-- a node of type t that will have n children and has the first ones, the bytes of the node and of
-- these children, and the parts that are left
abbrev pub IsOpenAs : List TypeInfo → Branch → ℕ → ℕ → Trees → List ℕ → Part → Type 0
IsOpenAs r k t n vs b left = (p : Part) × (c own : List ℕ) × BranchOpens (layout r t) k c p
    × (n ≡ how_many_left p) × (b ≡ c ++ own) × FirstValues r p vs own left

-- ---- a begun tree

-- nothing; a complete value; or an open node: how many children it will have, those that are
-- complete, and the one that is begun
pub data Begun : Type 0 where
  nothing : Begun
  whole : Tree → Begun
  open_branch : Branch → ℕ → Trees → Begun → Begun

-- something is missing
abbrev pub IsPart : Begun → Type 0
IsPart (whole v) = ⊥
IsPart _ = Unit {0}

-- g is a begun tree of type t with at most `room` levels, and b is the bytes of its nodes in
-- preorder; `next` is the type that is missing first and the levels left for it, or `None` if the
-- tree is complete
unfoldable pub Grows : List TypeInfo → ℕ → ℕ → Begun → List ℕ → Option (ℕ × ℕ) → Type 0
Grows r room t nothing b next = (b ≡ []) × (next ≡ Some (room, t))
Grows r room t (whole v) b next = Val r t v b × (levels v ≤ room) × (next ≡ None)
Grows r zero t (open_branch k n vs g) b next = ⊥
Grows r (suc room) t (open_branch k n vs g) b next = (left : Part) × (u : ℕ) × (b1 b2 : List ℕ)
    × (is_finite r t ≡ true) × IsOpenAs r k t n vs b1 left × (most_levels vs ≤ room)
    × (first_of left ≡ Some u) × (b ≡ b1 ++ b2) × IsPart g × Grows r room u g b2 next

-- the nodes so far, in preorder; an open one has the number of children that it will have
abbrev pub begun_preorder : Begun → List Head
begun_preorder nothing = []
begun_preorder (whole v) = preorder v
begun_preorder (open_branch k n vs g) = head.branch k n ∷ (all_preorder vs ++ begun_preorder g)

abbrev pub begun_nodes : Begun → ℕ
begun_nodes nothing = 0
begun_nodes (whole v) = nodes v
begun_nodes (open_branch k n vs g) = 1 + all_nodes vs + begun_nodes g

abbrev pub begun_text_bytes : Begun → ℕ
begun_text_bytes nothing = 0
begun_text_bytes (whole v) = text_bytes v
begun_text_bytes (open_branch k n vs g) = all_text_bytes vs + begun_text_bytes g

-- how many levels its nodes take
abbrev pub begun_levels : Begun → ℕ
begun_levels nothing = 0
begun_levels (whole v) = levels v
begun_levels (open_branch k n vs g) = 1 + max (most_levels vs) (begun_levels g)

-- the depth of the missing node, or 0 if none is missing
abbrev pub begun_depth : Begun → ℕ
begun_depth (open_branch k n vs g) = 1 + begun_depth g
begun_depth _ = 0

abbrev pub is_whole_tree : Begun → Bool
is_whole_tree (whole v) = true
is_whole_tree _ = false

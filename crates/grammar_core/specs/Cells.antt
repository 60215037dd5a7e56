-- The nodes of a value in preorder, each with its type and how many nodes its subtree has.
use Rattle.std.specs.Prelude.{ℕ, List, [], ◌∷◌, ◌++◌, Some, None, slice_get}
use Rattle.std.specs.Option.{option_map_or}
use Rattle.types_core.specs.declared.definition.Arm.{Arm}
use Rattle.types_core.specs.declared.type_info.TypeInfo.{TypeInfo}
use Rattle.graph_core.specs.Types.{field_types}
use Rattle.widths_core.specs.Layouts.{Layout, layout}
use Rattle.widths_core.specs.Layouts as layout
use Rattle.grammar_core.specs.Tree.{Branch, Tree, leaf, branch, fields, arm, list, Trees, none, and}
use Rattle.grammar_core.specs.Tree.{how_many, nodes}
use Rattle.grammar_core.specs.Parts.{Part, each, times, first_of, left_after}
use Rattle.grammar_core.specs.Preorder.{Head, head_of}

-- a node in preorder: its type, the node itself, and how many nodes its subtree has
pub record Cell : Type 0 where
  pub ty : ℕ
  pub head : Head
  pub size : ℕ

-- the types of the children of a node of this layout
abbrev pub fields_part : Layout → Part
fields_part (layout.fields ts) = each ts
fields_part _ = each []

abbrev pub arm_part : Layout → ℕ → Part
arm_part (layout.arms arms) q =
    each (option_map_or (λ (a : Arm). field_types a.fields) (slice_get arms q) [])
arm_part _ q = each []

abbrev pub list_part : Layout → ℕ → Part
list_part (layout.array len t) n = times n t
list_part (layout.sequence t) n = times n t
list_part _ n = each []

-- the types of n children of a node of this layout
abbrev pub part_of : Layout → Branch → ℕ → Part
part_of f fields n = fields_part f
part_of f (arm q) n = arm_part f q
part_of f list n = list_part f n

-- the type of the next child, or 0 if none is left
abbrev pub child_type : Part → ℕ
child_type p = elim (first_of p) [ Some t ↦ t | None ↦ 0 ]

-- a node, with its type and how many nodes its subtree has
abbrev pub cell_of : ℕ → Tree → Cell
cell_of t v = record { ty = t; head = head_of v; size = nodes v }

abbrev mutual
  pub cells : List TypeInfo → ℕ → Tree → List Cell
  cells r t (leaf l) = cell_of t (leaf l) ∷ []
  cells r t (branch k vs) =
      cell_of t (branch k vs) ∷ all_cells r (part_of (layout r t) k (how_many vs)) vs

  -- the cells of children of these types
  pub all_cells : List TypeInfo → Part → Trees → List Cell
  all_cells r p none = []
  all_cells r p (and v vs) = cells r (child_type p) v ++ all_cells r (left_after p) vs

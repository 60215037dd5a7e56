-- The open nodes of a value that is being built, the innermost first, each with its complete
-- children and their bytes.
use Rattle.std.specs.Prelude.{◌≡◌, ℕ, suc, ◌≤◌, ◌⊎◌, List, [], ◌∷◌, ◌++◌, length, Some, true}
use Rattle.types_core.specs.declared.type_info.TypeInfo.{TypeInfo}
use Rattle.widths_core.specs.Classes.{is_finite}
use Rattle.widths_core.specs.Layouts.{layout}
use Rattle.grammar_core.specs.Tree.{Branch, Tree, Trees, levels, most_levels}
use Rattle.grammar_core.specs.Grammar.{Val}
use Rattle.grammar_core.specs.Parts.{Part, times, first_of, left_after}
use Rattle.grammar_core.specs.Preorder as head
use Rattle.grammar_core.specs.Preorder.{Head}
use Rattle.grammar_core.specs.Cells.{Cell, cells, all_cells, part_of}
use Rattle.grammar_core.specs.Begun.{IsOpenAs}
use Rattle.value_core.specs.Walked.{OpenPart}

-- an open node: how many children it is to have, those that it has, and its bytes with theirs
pub record OpenNode : Type 0 where
  pub ty : ℕ
  pub kind : Branch
  pub all : ℕ
  pub done : Trees
  pub own : List ℕ

-- its node, whose size is not known yet; `open_cells` adds the nodes of the children that it has
abbrev pub open_cell : OpenNode → Cell
open_cell o = record { ty = o.ty; head = head.branch o.kind o.all; size = 0 }

abbrev pub open_cells : List TypeInfo → OpenNode → List Cell
open_cells r o = open_cell o ∷ all_cells r (part_of (layout r o.ty) o.kind o.all) o.done

-- p is what is left of the open node's parts
abbrev pub IsOpen : List TypeInfo → OpenNode → Part → Type 0
IsOpen r o p = (is_finite r o.ty ≡ true) × IsOpenAs r o.kind o.ty o.all o.done o.own p

abbrev pub open_part : ℕ → Part → OpenPart
open_part n p = record { node = n; left = p }

-- these nodes and bytes are those of a tree of type t that has these open nodes with these parts
-- left, and `room` levels left at the innermost
abbrev pub Spine : List TypeInfo → ℕ → ℕ → List OpenNode → List OpenPart → List Cell → List ℕ →
    Type 0
Spine r room t [] fs cs own = ((fs ≡ open_part 0 (times 1 t) ∷ []) × (cs ≡ []) × (own ≡ []))
    ⊎ ((v : Tree) × (fs ≡ open_part 0 (times 0 t) ∷ []) × (cs ≡ cells r t v) × Val r t v own
    × (levels v ≤ room))
Spine r room t (o ∷ os) fs cs own = (p before : Part) × (m : ℕ) × (rest : List OpenPart)
    × (cs1 : List Cell) × (own1 : List ℕ)
    × (fs ≡ open_part (length cs1) p ∷ open_part m (left_after before) ∷ rest)
    × (first_of before ≡ Some o.ty)
    × Spine r (suc room) t os (open_part m before ∷ rest) cs1 own1 × IsOpen r o p
    × (most_levels o.done ≤ room) × (cs ≡ cs1 ++ open_cells r o) × (own ≡ own1 ++ o.own)

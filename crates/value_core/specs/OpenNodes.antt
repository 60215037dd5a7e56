-- The path from a value's root to the node that is next: the open nodes, each with the part that is
-- begun or next.
use Rattle.std.specs.Prelude.{◌≡◌, ℕ, zero, suc, ◌+◌, ◌-◌, List, [], ◌∷◌, ◌++◌, map, Option, Some}
use Rattle.std.specs.Prelude.{None, slice_get}
use Rattle.types_core.specs.declared.type_info.TypeInfo.{TypeInfo}
use Rattle.widths_core.specs.Layouts.{layout}
use Rattle.grammar_core.specs.Tree as tree
use Rattle.grammar_core.specs.Tree.{Branch, how_many}
use Rattle.grammar_core.specs.Preorder as head
use Rattle.grammar_core.specs.Preorder.{Entry, Head, child_count}
use Rattle.grammar_core.specs.Parts.{Part, left_after, how_many_left}
use Rattle.grammar_core.specs.Cells.{child_type, part_of}
use Rattle.grammar_core.specs.Begun.{Begun, open_branch, Grows, begun_preorder}
use Rattle.value_core.specs.Begun.{built_bytes, next_with_room}
use Rattle.value_core.specs.Built.{Built}
use Rattle.value_core.specs.Walked.{OpenPart}
use Rattle.value_core.specs.declared.open_nodes.PathStep.{PathStep}

-- ---- of a begun tree

-- the parts after the first n
abbrev pub parts_after : ℕ → Part → Part
parts_after zero p = p
parts_after (suc n) p = parts_after n (left_after p)

-- the position of the arm that a branch is, if it is one
abbrev pub arm_in : Branch → Option ℕ
arm_in (tree.arm q) = Some q
arm_in _ = None

-- the open nodes of a begun tree of type t, the outermost first, each with the position of the part
-- that is begun, or is next if none is: as many parts as are complete stand before it
abbrev pub path_of : List TypeInfo → ℕ → Begun → List PathStep
path_of r t (open_branch k n vs g) =
    record { ty = record { 0 = t }; arm = arm_in k; part = how_many vs }
    ∷ path_of r (child_type (parts_after (how_many vs) (part_of (layout r t) k n))) g
path_of r t _ = []

-- ---- of a builder

-- the open nodes around the innermost one, the outermost first; the last of a walk's parts is the
-- root's and belongs to no node
abbrev pub outer_parts : List OpenPart → List OpenPart
outer_parts [] = []
outer_parts (f ∷ []) = []
outer_parts (f ∷ g ∷ fs) = outer_parts (g ∷ fs) ++ f ∷ []

-- all open nodes, each with the number of its parts that are begun: 0 for the innermost
abbrev pub open_parts : List OpenPart → List (OpenPart × ℕ)
open_parts [] = []
open_parts (f ∷ []) = []
open_parts (f ∷ g ∷ fs) = map (λ p. (p, 1)) (outer_parts (g ∷ fs)) ++ (f, 0) ∷ []

abbrev pub arm_of_head : Head → Option ℕ
arm_of_head (head.branch k n) = arm_in k
arm_of_head _ = None

-- the step to the part of this node after which so many are to come
abbrev pub step_before : Option Entry → ℕ → PathStep
step_before (Some e) after =
    record { ty = record { 0 = e.ty }; arm = arm_of_head e.head; part = child_count e.head - after }
step_before None after = record { ty = record { 0 = 0 }; arm = None; part = 0 }

abbrev pub step_in : List Entry → OpenPart × ℕ → PathStep
step_in es p = step_before (slice_get es p.0.node) (how_many_left p.0.left + p.1)

-- the steps by the walk's parts and the nodes
abbrev pub open_path : Built → List PathStep
open_path b = map (step_in b.entries) (open_parts b.walk.frames)

-- the nodes and their bytes are those of a begun tree, as `IsBegun` says, and this is its path
pub record HasPath (b : Built) : Type 0 where
  pub tree : Begun
  pub grows : Grows b.walk.types (b.walk.limit + 1) b.ty tree (built_bytes b)
      (next_with_room b.walk)
  pub shows : map (λ e. e.head) b.entries ≡ begun_preorder tree
  pub path : open_path b ≡ path_of b.walk.types b.ty tree

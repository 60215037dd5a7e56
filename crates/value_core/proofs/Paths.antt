-- The path of a begun tree, by its open nodes.
use Rattle.std.proofs.Common.{◌≡◌, ℕ, List, [], ◌∷◌, ◌++◌, Some, sym, ap, ◌∙◌}
use Rattle.types_core.specs.declared.type_info.TypeInfo.{TypeInfo}
use Rattle.widths_core.specs.Layouts.{layout}
use Rattle.grammar_core.specs.Tree.{Trees, none, and, how_many}
use Rattle.grammar_core.specs.Parts.{Part, first_of, left_after}
use Rattle.grammar_core.specs.Cells.{child_type, part_of}
use Rattle.grammar_core.specs.Begun.{Begun, open_branch, FirstValues}
use Rattle.grammar_core.proofs.OpenNodes.{child_is}
use Rattle.value_core.specs.OpenNodes.{arm_in, parts_after, path_of}
use Rattle.value_core.specs.Spine.{OpenNode, IsOpen}
use Rattle.value_core.specs.declared.open_nodes.PathStep.{PathStep}
use Rattle.value_core.proofs.Spines.{part_is}

-- the step from an open node to its first incomplete child
abbrev pub step_of : OpenNode → PathStep
step_of o = record { ty = record { 0 = o.ty }; arm = arm_in o.kind; part = how_many o.done }

-- the steps from all of them, the outermost first
abbrev pub spine_path : List OpenNode → List PathStep
spine_path [] = []
spine_path (o ∷ os) = spine_path os ++ step_of o ∷ []

-- what is left after the first values
after_values : (r : List TypeInfo) (p : Part) (vs : Trees) (b : List ℕ) (left : Part) →
    FirstValues r p vs b left → parts_after (how_many vs) p ≡ left
after_values r p none b left h = sym h.1
after_values r p (and v vs) b left h = after_values r (left_after p) vs h.2 left h.6

-- the type of the first incomplete child
begun_type : (r : List TypeInfo) (o : OpenNode) (p : Part) (w : ℕ) → IsOpen r o p →
    first_of p ≡ Some w →
    child_type (parts_after (how_many o.done) (part_of (layout r o.ty) o.kind o.all)) ≡ w
begun_type r o p w h e =
    let a = h.1 in
    ap (λ (q : Part). child_type (parts_after (how_many o.done) q))
    (ap (part_of (layout r o.ty) o.kind) a.4 ∙ part_is r o.ty o.kind a.1 a.0 a.3)
    ∙ ap child_type (after_values r a.0 o.done a.2 p a.6) ∙ child_is p w e

-- one more open node is one step more
pub path_opened : (r : List TypeInfo) (o : OpenNode) (p : Part) (w : ℕ) (g : Begun) →
    IsOpen r o p → first_of p ≡ Some w →
    path_of r o.ty (open_branch o.kind o.all o.done g) ≡ step_of o ∷ path_of r w g
path_opened r o p w g h e =
    ap (λ (u : ℕ). step_of o ∷ path_of r u g) (begun_type r o p w h e)

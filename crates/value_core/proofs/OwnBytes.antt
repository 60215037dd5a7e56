-- The nodes of a value that is being built spell its own bytes.
use Rattle.grammar_core.specs.Preorder as head
use Rattle.std.proofs.Common.{◌≡◌, ℕ, suc, flat_map, List, [], ◌∷◌, ◌++◌, refl, sym, ap}
use Rattle.std.proofs.Common.{subst, ◌∙◌, inl, inr}
use Rattle.std.proofs.lemmas.Grind.{flat_map-append}
use Rattle.scale_core.specs.Number.{AreBytes}
use Rattle.scale_core.proofs.Numbers.{front_bytes, rest_bytes}
use Rattle.types_core.specs.declared.type_info.TypeInfo.{TypeInfo}
use Rattle.graph_core.specs.Types.{shape}
use Rattle.widths_core.specs.Layouts.{layout}
use Rattle.grammar_core.specs.Tree.{Branch, Trees, none, and}
use Rattle.grammar_core.specs.Parts.{Part, left_after}
use Rattle.grammar_core.specs.Cells.{Cell, cells, all_cells, child_type, part_of}
use Rattle.grammar_core.specs.Begun.{FirstValues, IsOpenAs}
use Rattle.grammar_core.specs.Spelled.{cell_bytes, own_bytes}
use Rattle.grammar_core.proofs.OpenNodes.{child_is}
use Rattle.grammar_core.proofs.Spelled.{encoded_is_value, branch_own}
use Rattle.value_core.specs.Spine.{OpenNode, open_cells, Spine}
use Rattle.value_core.specs.Walked.{OpenPart}
use Rattle.value_core.proofs.Spines.{part_is}

-- the nodes of the first values spell their bytes
first_bytes : (r : List TypeInfo) (p : Part) (vs : Trees) (b : List ℕ) (left : Part) →
    AreBytes b → FirstValues r p vs b left → flat_map (cell_bytes r) (all_cells r p vs) ≡ b
first_bytes r p none b left are h = sym h.0
first_bytes r p (and v vs) b left are h =
    let both : AreBytes (h.1 ++ h.2) = subst AreBytes h.4 are in
    flat_map-append (cell_bytes r) (cells r (child_type p) v) (all_cells r (left_after p) vs)
    ∙ rw (
      child_is p h.0 h.3,
      encoded_is_value r h.0 v h.1 (front_bytes h.1 h.2 both) h.5,
      first_bytes r (left_after p) vs h.2 left (rest_bytes h.1 h.2 both) h.6,
    ) (sym h.4)

-- an open node and those of its children spell its bytes so far
open_bytes : (r : List TypeInfo) (kind : Branch) (t n : ℕ) (vs : Trees) (b : List ℕ) (p : Part) →
    AreBytes b → IsOpenAs r kind t n vs b p →
    own_bytes (shape r t) (head.branch kind n) ++ flat_map (cell_bytes r)
    (all_cells r (part_of (layout r t) kind n) vs) ≡ b
open_bytes r kind t n vs b p are h =
    rw (
      h.4,
      branch_own r t kind h.1 h.0 h.3,
      part_is r t kind h.1 h.0 h.3,
      first_bytes r h.0 vs h.2 p (rest_bytes h.1 h.2 (subst AreBytes h.5 are)) h.6,
    ) (sym h.5)

-- the nodes of a value that is being built spell its bytes so far
pub spine_bytes : (r : List TypeInfo) (room t : ℕ) (os : List OpenNode) (fs : List OpenPart)
    (cs : List Cell) (own : List ℕ) → AreBytes own → Spine r room t os fs cs own →
    flat_map (cell_bytes r) cs ≡ own
spine_bytes r room t [] fs cs own are (inl h) = rw (h.1, h.2) refl
spine_bytes r room t [] fs cs own are (inr h) = ap (flat_map (cell_bytes r)) h.2
    ∙ encoded_is_value r t h.0 own are h.3
spine_bytes r room t (o ∷ os) fs cs own are h =
    let both : AreBytes (h.5 ++ o.own) = subst AreBytes h.12 are in
    let outer = spine_bytes r (suc room) t os _ h.4 h.5 (front_bytes h.5 o.own both) h.8 in
    let inner = open_bytes r o.kind o.ty o.all o.done o.own h.0 (rest_bytes h.5 o.own both) h.9.1 in
    ap (flat_map (cell_bytes r)) h.11 ∙ flat_map-append (cell_bytes r) h.4 (open_cells r o)
    ∙ ap (λ (x : List ℕ). x ++ flat_map (cell_bytes r) (open_cells r o)) outer
    ∙ ap (λ (x : List ℕ). h.5 ++ x) inner ∙ sym h.12

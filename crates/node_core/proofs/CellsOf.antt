-- The nodes of a value, with their types and sizes.
use Rattle.std.proofs.Common.{◌≡◌, ℕ, zero, suc, ◌≤◌, List, [], ◌∷◌, ◌++◌, length, map, take, drop}
use Rattle.std.proofs.Common.{refl, sym, ap, ◌∙◌, arith, length-append}
use Rattle.std.proofs.lemmas.List.{map-append, length-map, append-nil}
use Rattle.std.proofs.lemmas.Simd.{map-map}
use Rattle.std.proofs.Math.Seq.{take-append_seam, drop-append_seam}
use Rattle.types_core.specs.declared.type_info.TypeInfo.{TypeInfo}
use Rattle.widths_core.specs.Layouts.{layout}
use Rattle.grammar_core.specs.Tree.{Tree, leaf, branch, fields, arm, list, Trees, none, and}
use Rattle.grammar_core.specs.Tree.{how_many, nodes, all_nodes}
use Rattle.grammar_core.specs.Preorder.{Head, preorder, all_preorder, tree_of, tree_of-preorder}
use Rattle.grammar_core.specs.Parts.{Part, left_after}
use Rattle.grammar_core.specs.Cells.{Cell, cells, all_cells, child_type, fields_part, arm_part}
use Rattle.grammar_core.specs.Cells.{list_part}
use Rattle.node_core.specs.Shown.{seen_parts, cell_shown, cells_shown, tree_shown, type_shown}
use Rattle.node_core.specs.Shown.{size_shown, AreInPool, IsWhole, forest, all_seen}
use Rattle.node_core.specs.declared.node.Node.{Node}

mutual
  pub cells_length : (r : List TypeInfo) (t : ℕ) (v : Tree) → length (cells r t v) ≡ nodes v
  cells_length r t (leaf l) = refl
  cells_length r t (branch fields vs) =
      omega (arith, all_cells_length r (fields_part (layout r t)) vs)
  cells_length r t (branch (arm q) vs) =
      omega (arith, all_cells_length r (arm_part (layout r t) q) vs)
  cells_length r t (branch list vs) =
      omega (arith, all_cells_length r (list_part (layout r t) (how_many vs)) vs)

  pub all_cells_length : (r : List TypeInfo) (p : Part) (vs : Trees) →
      length (all_cells r p vs) ≡ all_nodes vs
  all_cells_length r p none = refl
  all_cells_length r p (and v vs) =
      omega (
        arith,
        cells_length r (child_type p) v,
        all_cells_length r (left_after p) vs,
        length-append (cells r (child_type p) v) (all_cells r (left_after p) vs),
      )

-- the nodes by themselves
abbrev pub bare_heads : List Cell → List Head
bare_heads cs = map (λ (c : Cell). c.head) cs

mutual
  pub cells_preorder : (r : List TypeInfo) (t : ℕ) (v : Tree) →
      bare_heads (cells r t v) ≡ preorder v
  cells_preorder r t (leaf l) = refl
  cells_preorder r t (branch fields vs) =
      rw (all_cells_preorder r (fields_part (layout r t)) vs) refl
  cells_preorder r t (branch (arm q) vs) =
      rw (all_cells_preorder r (arm_part (layout r t) q) vs) refl
  cells_preorder r t (branch list vs) =
      rw (all_cells_preorder r (list_part (layout r t) (how_many vs)) vs) refl

  pub all_cells_preorder : (r : List TypeInfo) (p : Part) (vs : Trees) →
      bare_heads (all_cells r p vs) ≡ all_preorder vs
  all_cells_preorder r p none = refl
  all_cells_preorder r p (and v vs) =
      map-append (λ (c : Cell). c.head) (cells r (child_type p) v) (all_cells r (left_after p) vs)
      ∙ rw (cells_preorder r (child_type p) v, all_cells_preorder r (left_after p) vs) refl

-- the first node has the type, and the size of the whole
abbrev first_type : List Cell → ℕ
first_type [] = 0
first_type (c ∷ cs) = c.ty

abbrev first_size : List Cell → ℕ
first_size [] = 0
first_size (c ∷ cs) = c.size

-- the nodes of a value begin with one of its type and size, and it has one at least
starts : (r : List TypeInfo) (t : ℕ) (v : Tree) (rest : List Cell) →
    (first_type (cells r t v ++ rest) ≡ t) × (first_size (cells r t v ++ rest) ≡ nodes v)
    × (1 ≤ nodes v)
starts r t (leaf l) rest = (refl, refl, omega arith)
starts r t (branch k vs) rest = (refl, refl, omega arith)

-- a value has one node at least
pub some_node : (v : Tree) → 1 ≤ nodes v
some_node v = (starts [] 0 v []).2

-- the type of the first node is that with which this is shown
shown_type : (pool : List ℕ) (ns : List Node) → type_shown ns ≡ first_type (cells_shown pool ns)
shown_type pool [] = refl
shown_type pool (n ∷ ns) = refl

-- nodes that show the cells of a value show that value
pub seen_is : (r : List TypeInfo) (pool : List ℕ) (ns : List Node) (t : ℕ) (v : Tree) →
    cells_shown pool ns ≡ cells r t v → (type_shown ns ≡ t) × (tree_shown pool ns ≡ v)
seen_is r pool ns t v e = (
  shown_type pool ns ∙ ap first_type (e ∙ sym (append-nil (cells r t v))) ∙ (starts r t v []).0,
  ap tree_of (sym (map-map (λ (c : Cell). c.head) _ ns) ∙ ap bare_heads e ∙ cells_preorder r t v)
      ∙ tree_of-preorder v,
)

-- the first nodes are shown as the first of all that are shown
shown_take : (pool : List ℕ) (k : ℕ) (ns : List Node) →
    cells_shown pool (take k ns) ≡ take k (cells_shown pool ns)
shown_take pool zero ns = refl
shown_take pool (suc k) [] = refl
shown_take pool (suc k) (n ∷ ns) = rw (shown_take pool k ns) refl

-- the nodes after the first ones are shown as those after the first of all that are shown
shown_drop : (pool : List ℕ) (k : ℕ) (ns : List Node) →
    cells_shown pool (drop k ns) ≡ drop k (cells_shown pool ns)
shown_drop pool zero ns = refl
shown_drop pool (suc k) [] = refl
shown_drop pool (suc k) (n ∷ ns) = shown_drop pool k ns

-- where the bytes of all nodes lie in the pool, so do those of the first ones
inside_take : (pool : List ℕ) (k : ℕ) (ns : List Node) → AreInPool pool ns →
    AreInPool pool (take k ns)
inside_take pool zero ns h = tt
inside_take pool (suc k) [] h = tt
inside_take pool (suc k) (n ∷ ns) h = (h.0, inside_take pool k ns h.1)

-- where the bytes of all nodes lie in the pool, so do those after the first ones
inside_drop : (pool : List ℕ) (k : ℕ) (ns : List Node) → AreInPool pool ns →
    AreInPool pool (drop k ns)
inside_drop pool zero ns h = h
inside_drop pool (suc k) [] h = tt
inside_drop pool (suc k) (n ∷ ns) h = inside_drop pool k ns h.1

-- where the first value's nodes end
pub record SplitsCells (r : List TypeInfo) (pool : List ℕ) (n : Node) (ns : List Node) (p : Part)
    (v : Tree) (vs : Trees) : Type 0 where
  pub within : size_shown n.content ≤ length (n ∷ ns)
  pub front : cells_shown pool (take (size_shown n.content) (n ∷ ns)) ≡ cells r (child_type p) v
  pub back : cells_shown pool (drop (size_shown n.content) (n ∷ ns)) ≡ all_cells r (left_after p) vs
  pub front_inside : AreInPool pool (take (size_shown n.content) (n ∷ ns))
  pub back_inside : AreInPool pool (drop (size_shown n.content) (n ∷ ns))

-- nodes of values in a row split where the first node reports, into the first value's and the
-- others'
pub split : (r : List TypeInfo) (pool : List ℕ) (n : Node) (ns : List Node) (p : Part) (v : Tree)
    (vs : Trees) → AreInPool pool (n ∷ ns) → cells_shown pool (n ∷ ns) ≡ all_cells r p (and v vs) →
    SplitsCells r pool n ns p v vs
split r pool n ns p v vs inside e =
    let all = n ∷ ns in
    let first = cells r (child_type p) v in
    let others = all_cells r (left_after p) vs in
    let reported = size_shown n.content in
    let size : reported ≡ length first = ap first_size e ∙ (starts r (child_type p) v others).1
    ∙ sym (cells_length r (child_type p) v) in
    record {
      within = omega (
        arith,
        size,
        ap length e,
        length-append first others,
        length-map all (cell_shown pool),
      );
      front = shown_take pool reported all ∙ ap (take reported) e
          ∙ ap (λ (k : ℕ). take k (first ++ others)) size ∙ take-append_seam first others;
      back = shown_drop pool reported all ∙ ap (drop reported) e
          ∙ ap (λ (k : ℕ). drop k (first ++ others)) size ∙ drop-append_seam first others;
      front_inside = inside_take pool reported all inside;
      back_inside = inside_drop pool reported all inside;
    }

-- the nodes of values one after the other show those values
pub forest_is : (r : List TypeInfo) (pool : List ℕ) (k : ℕ) (ns : List Node) (p : Part)
    (vs : Trees) → how_many vs ≤ k → AreInPool pool ns → cells_shown pool ns ≡ all_cells r p vs →
    forest r pool k ns ≡ seen_parts r p vs
forest_is r pool zero ns p none le inside e = refl
forest_is r pool (suc k) [] p none le inside e = refl
forest_is r pool (suc k) (n ∷ ns) p none le inside e = absurd cc
forest_is r pool zero ns p (and v vs) le inside e = absurd (omega (arith, le))
forest_is r pool (suc k) [] p (and v vs) le inside e =
    let some : 0 ≡ length (all_cells r p (and v vs)) = ap length e in
    absurd (omega (arith, some, all_cells_length r p (and v vs), (starts r (child_type p) v []).2))
forest_is r pool (suc k) (n ∷ ns) p (and v vs) le inside e =
    let s = split r pool n ns p v vs inside e in
    let size = size_shown n.content in
    let is = seen_is r pool (take size (n ∷ ns)) (child_type p) v s.front in
    let rest = forest_is r pool k (drop size (n ∷ ns)) (left_after p) vs (omega (arith, le))
    s.back_inside s.back in
    rw (is.0, is.1, rest) refl

-- values in a row have as many nodes as there are values, or more
pub many_nodes : (vs : Trees) → how_many vs ≤ all_nodes vs
many_nodes none = omega arith
many_nodes (and v vs) = omega (arith, many_nodes vs, (starts [] 0 v []).2)

-- stepping from subtree to subtree by the sizes of nodes, the values are those whose nodes they are
pub all_seen_is : (r : List TypeInfo) (pool : List ℕ) (ns : List Node) (p : Part) (vs : Trees) →
    AreInPool pool ns → cells_shown pool ns ≡ all_cells r p vs →
    all_seen r pool ns ≡ seen_parts r p vs
all_seen_is r pool ns p vs inside e =
    let count : length ns ≡ all_nodes vs = sym (length-map ns (cell_shown pool)) ∙ ap length e
    ∙ all_cells_length r p vs in
    forest_is r pool (length ns) ns p vs (omega (arith, count, many_nodes vs)) inside e

-- there are as many nodes of a whole value as its tree has
pub nodes_shown : (r : List TypeInfo) (pool : List ℕ) (ns : List Node) → IsWhole r pool ns →
    length ns ≡ nodes (tree_shown pool ns)
nodes_shown r pool ns h = sym (length-map ns (cell_shown pool)) ∙ ap length h.nodes
    ∙ cells_length r (type_shown ns) (tree_shown pool ns)

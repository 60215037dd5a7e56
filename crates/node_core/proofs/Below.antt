-- What stands below the first node of a value.
use Rattle.std.proofs.Common.{◌≡◌, ℕ, ◌+◌, ◌≤◌, List, [], ◌∷◌, ◌++◌, length, take, drop, Some, refl}
use Rattle.std.proofs.Common.{sym, ap, subst, ◌∙◌, arith, inl, inr}
use Rattle.std.specs.Prelude.{slice_get, slice_range, slice_index_or, IsUtf8}
use Rattle.std.proofs.lemmas.Str.{IsUtf8-from_is_utf8}
use Rattle.scale_core.specs.Number.{AreBytes}
use Rattle.types_core.specs.declared.definition.Arm.{Arm}
use Rattle.types_core.specs.declared.type_info.TypeInfo.{TypeInfo}
use Rattle.graph_core.specs.Types.{field_types}
use Rattle.widths_core.specs.Arms.{arm_of}
use Rattle.widths_core.specs.Layouts.{layout}
use Rattle.widths_core.specs.Layouts as layout
use Rattle.widths_core.proofs.ArmReads.{arm_position}
use Rattle.scale_core.proofs.Numbers.{front_bytes, rest_bytes}
use Rattle.grammar_core.specs.Tree as tree
use Rattle.grammar_core.specs.Tree.{Tree, Trees, none, and, how_many}
use Rattle.grammar_core.specs.Grammar.{Val, Vals, Each}
use Rattle.grammar_core.specs.Parts.{Part, each, times, left_after}
use Rattle.grammar_core.specs.Cells.{Cell, cells, all_cells, child_type, arm_part, part_of}
use Rattle.grammar_core.proofs.Texts.{texts_are_text}
use Rattle.node_core.specs.Shown.{seen, seen_parts, children_by, cells_shown, tree_shown}
use Rattle.node_core.specs.Shown.{type_shown, AreInPool, IsWhole, AreValues, IsForest, all_seen}
use Rattle.node_core.specs.Shown.{size_shown}
use Rattle.node_core.specs.declared.node.Node.{Node}
use Rattle.node_core.specs.declared.node.Content.TheVariants as content
use Rattle.node_core.proofs.CellsOf.{cells_length, some_node, seen_is, split, all_seen_is}

-- parts that have bytes are values
vals_are : (r : List TypeInfo) (ts : List ℕ) (vs : Trees) (b : List ℕ) → AreBytes b →
    Vals r ts vs b → AreValues r (each ts) vs
unfolding Val
vals_are r [] none b p h = tt
vals_are r (t ∷ ts) none b p h = absurd h
vals_are r [] (and v vs) b p h = absurd h
vals_are r (t ∷ ts) (and v vs) b p h =
    let q : AreBytes (h.0 ++ h.1) = rw (← h.2) p in
    ((h.0, front_bytes h.0 h.1 q, h.3), vals_are r ts vs h.1 (rest_bytes h.0 h.1 q) h.4)

-- values of one type in a row, spelled by bytes, are each a value of it
each_are : (r : List TypeInfo) (t : ℕ) (vs : Trees) (b : List ℕ) → AreBytes b → Each r t vs b →
    AreValues r (times (how_many vs) t) vs
unfolding Val
each_are r t none b p h = tt
each_are r t (and v vs) b p h =
    let q : AreBytes (h.0 ++ h.1) = rw (← h.2) p in
    ((h.0, front_bytes h.0 h.1 q, h.3), each_are r t vs h.1 (rest_bytes h.0 h.1 q) h.4)

-- the types of an arm's fields
pub arm_part_is : (r : List TypeInfo) (t q : ℕ) (arms : List Arm) (i : ℕ) (a : Arm) →
    layout r t ≡ layout.arms arms → arm_of arms i ≡ Some (q, a) →
    arm_part (layout r t) q ≡ each (field_types a.fields)
arm_part_is r t q arms i a e f = rw (e, arm_position arms i q a f) refl

-- the parts of a node, and their types
abbrev pub types_of_parts : List TypeInfo → ℕ → Tree → Part
types_of_parts r t (tree.leaf l) = each []
types_of_parts r t (tree.branch k vs) = part_of (layout r t) k (how_many vs)

abbrev pub trees_of : Tree → Trees
trees_of (tree.branch k vs) = vs
trees_of _ = none

-- the children of a value are its parts, each with its type
pub children_seen : (r : List TypeInfo) (t : ℕ) (v : Tree) →
    children_by r t v ≡ seen_parts r (types_of_parts r t v) (trees_of v)
children_seen r t (tree.branch k vs) = refl
children_seen r t (tree.leaf l) = refl

-- the parts of a value are each a value of its type
pub children_are : (r : List TypeInfo) (t : ℕ) (v : Tree) (b : List ℕ) → AreBytes b → Val r t v b →
    AreValues r (types_of_parts r t v) (trees_of v)
unfolding Val
children_are r t (tree.branch tree.fields vs) b p h = rw h.1 (vals_are r h.0 vs b p h.2)
children_are r t (tree.branch (tree.arm q) vs) b p h =
    rw (h.4, arm_position h.0 h.1 q h.2 h.5)
    (vals_are r (field_types h.2.fields) vs h.3 (subst AreBytes h.6 p).1 h.7)
children_are r t (tree.branch tree.list vs) b p (inl h) = rw h.2 (each_are r h.1 vs b p h.4)
children_are r t (tree.branch tree.list vs) b p (inr h) =
    rw h.3 (each_are r h.0 vs h.2 (rest_bytes h.1 h.2 (rw (← h.5) p)) h.6)
children_are r t (tree.leaf l) b p h = tt

abbrev cells_after : List Cell → List Cell
cells_after [] = []
cells_after (c ∷ cs) = cs

-- after the first node of a value stand the nodes of its parts
cells_below : (r : List TypeInfo) (t : ℕ) (v : Tree) →
    cells_after (cells r t v) ≡ all_cells r (types_of_parts r t v) (trees_of v)
cells_below r t (tree.branch k vs) = refl
cells_below r t (tree.leaf l) = refl

-- a value has a node
no_cells : (r : List TypeInfo) (v : Tree) → cells_shown [] [] ≡ cells r 0 v → ⊥
no_cells r v e = omega (arith, ap length e, cells_length r 0 v, some_node v)

-- the nodes below the first are those of its children
pub below : (r : List TypeInfo) (pool : List ℕ) (n : Node) (ns : List Node) →
    IsWhole r pool (n ∷ ns) → IsForest r pool ns
below r pool n ns h =
    let t = type_shown (n ∷ ns) in
    let v = tree_shown pool (n ∷ ns) in
    record {
      part = types_of_parts r t v;
      values = trees_of v;
      nodes = ap cells_after h.nodes ∙ cells_below r t v;
      inside = h.inside.1;
      are_values = children_are r t v h.value.0 h.value.1 h.value.2;
    }

-- after the first node of a whole value stand its children
pub below_seen : (r : List TypeInfo) (pool : List ℕ) (n : Node) (ns : List Node) →
    IsWhole r pool (n ∷ ns) →
    all_seen r pool ns ≡ children_by r (type_shown (n ∷ ns)) (tree_shown pool (n ∷ ns))
unfolding below
below_seen r pool n ns h =
    let f = below r pool n ns h in
    all_seen_is r pool ns f.part f.values f.inside f.nodes
    ∙ sym (children_seen r (type_shown (n ∷ ns)) (tree_shown pool (n ∷ ns)))

-- the first of them, and those after it
pub record FirstTree (r : List TypeInfo) (pool : List ℕ) (n : Node) (ns : List Node) : Type 0 where
  pub within : size_shown n.content ≤ length (n ∷ ns)
  pub whole : IsWhole r pool (take (size_shown n.content) (n ∷ ns))
  pub rest : IsForest r pool (drop (size_shown n.content) (n ∷ ns))
  pub steps : all_seen r pool (n ∷ ns)
      ≡ seen r pool (take (size_shown n.content) (n ∷ ns)) ∷ all_seen r pool
      (drop (size_shown n.content) (n ∷ ns))

-- nodes of values in a row begin with a whole value, as long as the first node reports
first_by : (r : List TypeInfo) (pool : List ℕ) (n : Node) (ns : List Node) (p : Part) (vs : Trees) →
    AreInPool pool (n ∷ ns) → cells_shown pool (n ∷ ns) ≡ all_cells r p vs → AreValues r p vs →
    FirstTree r pool n ns
first_by r pool n ns p none inside e are = absurd cc
first_by r pool n ns p (and v vs) inside e are =
    let s = split r pool n ns p v vs inside e in
    let is = seen_is r pool (take (size_shown n.content) (n ∷ ns)) (child_type p) v s.front in
    record {
      within = s.within;
      whole = record {
        nodes = s.front ∙ sym (rw (is.0, is.1) refl);
        inside = s.front_inside;
        value = rw (is.0, is.1) are.0;
      };
      rest = record {
        part = left_after p;
        values = vs;
        nodes = s.back;
        inside = s.back_inside;
        are_values = are.1;
      };
      steps = all_seen_is r pool (n ∷ ns) p (and v vs) inside e
          ∙ sym (rw (
            is.0,
            is.1,
            all_seen_is r pool (drop (size_shown n.content) (n ∷ ns)) (left_after p) vs
                s.back_inside s.back,
          ) refl);
    }

-- the nodes of a forest begin with a whole value, as long as the first node reports
pub first : (r : List TypeInfo) (pool : List ℕ) (n : Node) (ns : List Node) →
    IsForest r pool (n ∷ ns) → FirstTree r pool n ns
first r pool n ns h = first_by r pool n ns h.part h.values h.inside h.nodes h.are_values

pub record FirstAt (r : List TypeInfo) (pool : List ℕ) (ns : List Node) (n : Node) : Type 0 where
  pub within : size_shown n.content ≤ length ns
  pub whole : IsWhole r pool (take (size_shown n.content) ns)
  pub rest : IsForest r pool (drop (size_shown n.content) ns)
  pub steps : all_seen r pool ns
      ≡ seen r pool (take (size_shown n.content) ns) ∷ all_seen r pool
      (drop (size_shown n.content) ns)

-- the same of a list whose first node is reported by its place
pub below_at : (r : List TypeInfo) (pool : List ℕ) (ns : List Node) → IsWhole r pool ns →
    IsForest r pool (drop 1 ns)
below_at r pool [] h = absurd (no_cells r (tree_shown pool []) h.nodes)
below_at r pool (n ∷ ns) h = below r pool n ns h

-- without their first node, the nodes of a whole value are those of its children
pub below_seen_at : (r : List TypeInfo) (pool : List ℕ) (ns : List Node) → IsWhole r pool ns →
    all_seen r pool (drop 1 ns) ≡ children_by r (type_shown ns) (tree_shown pool ns)
below_seen_at r pool [] h = absurd (no_cells r (tree_shown pool []) h.nodes)
below_seen_at r pool (n ∷ ns) h = below_seen r pool n ns h

-- where the first node of a whole value is a text, its bytes in the pool are UTF-8
pub text_at : (r : List TypeInfo) (pool : List ℕ) (ns : List Node) (d : Node) (start len : ℕ) →
    IsWhole r pool ns → (slice_index_or ns 0 d).content ≡ content.Text len start →
    IsUtf8 (slice_range pool start (start + len))
text_at r pool [] d start len h e = absurd (no_cells r (tree_shown pool []) h.nodes)
text_at r pool (n ∷ ns) d start len h e =
    let texts = texts_are_text r (type_shown (n ∷ ns)) (tree_shown pool (n ∷ ns)) h.value.0
    h.value.2 in
    IsUtf8-from_is_utf8 (slice_range pool start (start + len)) (rw e at texts).1

-- the first of the values whose nodes these are, reported by its place
pub first_at : (r : List TypeInfo) (pool : List ℕ) (ns : List Node) (n : Node) →
    slice_get ns 0 ≡ Some n → IsForest r pool ns → FirstAt r pool ns n
first_at r pool [] n e h = absurd cc
first_at r pool (m ∷ ns) n e h =
    let same : m ≡ n = cc in
    let f = first r pool m ns h in
    record {
      within = rw (← same) f.within;
      whole = rw (← same) f.whole;
      rest = rw (← same) f.rest;
      steps = rw (← same) f.steps;
    }

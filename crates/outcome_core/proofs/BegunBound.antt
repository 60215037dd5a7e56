-- A begun tree has few nodes.
use Rattle.std.proofs.Common.{◌≡◌, ℕ, zero, suc, ◌+◌, ◌*◌, ◌≤◌, ◌⊎◌, List, [], length, Option}
use Rattle.std.proofs.Common.{Some, ap, subst, arith, inl, inr, length-append}
use Rattle.std.proofs.Math.Nat.{mul-add, add-mul, mul-le-mul_right}
use Rattle.types_core.specs.declared.type_info.TypeInfo.{TypeInfo}
use Rattle.graph_core.specs.Types.{field_types}
use Rattle.graph_core.specs.Widths.{widest}
use Rattle.widths_core.specs.Classes.{class_of}
use Rattle.widths_core.specs.declared.class.Class.TheVariants as class
use Rattle.scale_core.specs.Compact.{IsCompact}
use Rattle.scale_core.specs.declared.compact.Target.TheVariants as target
use Rattle.widths_core.specs.Layouts.{layout}
use Rattle.widths_core.specs.Layouts as layout
use Rattle.widths_core.proofs.Wide.{narrow_at, arm-width}
use Rattle.grammar_core.specs.Tree.{Branch, Trees, none, and, how_many, all_nodes, all_text_bytes}
use Rattle.grammar_core.specs.Tree.{most_levels}
use Rattle.grammar_core.specs.Tree as tree
use Rattle.grammar_core.specs.Parts.{Part, each, first_of, left_after, how_many_left}
use Rattle.grammar_core.specs.Preorder.{levels-pos}
use Rattle.grammar_core.proofs.Begun.{begun_trees_fit}
use Rattle.grammar_core.proofs.Emptiness.{known_at}
use Rattle.grammar_core.proofs.Bounds.{per, per-mul, per-suc, array_element, or_unit, node_le}
use Rattle.grammar_core.proofs.Bounds.{vals_le, each_le, text_le}
use Rattle.grammar_core.proofs.OpenNodes.{one_less, first_count, first_fields, first_elements}
use Rattle.grammar_core.specs.Begun.{BranchOpens, FirstValues, Begun, nothing, whole, open_branch}
use Rattle.grammar_core.specs.Begun.{Grows, begun_nodes, begun_text_bytes}
use Rattle.outcome_core.specs.HeldTree.{BegunIsBounded}

-- a node over whole children and one that is begun
pay_begun : (m1 m2 m k p w : ℕ) → m1 + m2 ≤ m → k + 1 ≤ w →
    1 + (k + m1 * p) + (m2 + 1) * p ≤ (m + 1) * (p + w)
pay_begun m1 m2 m k p w le small =
    omega (
      arith,
      mul-add (m + 1) p w,
      add-mul m2 1 p,
      add-mul m 1 p,
      add-mul m 1 w,
      add-mul m1 m2 p,
      mul-le-mul_right p le,
      small,
    )

-- the elements of an array, or of a sequence that lists them, take bytes
element_sized : (r : List TypeInfo) (t n u : ℕ) (c : List ℕ) →
    ((layout r t ≡ layout.array n u) × (c ≡ []))
    ⊎ ((layout r t ≡ layout.sequence u) × IsCompact target.U32 n c) → class_of r u ≡ class.Empty → ⊥
element_sized r t n u c (inl a) = array_element r t n u a.0
element_sized r t n u c (inr s) = known_at r t (layout.sequence u) s.0

-- the first values of a branch have few nodes beside those that their bytes pay for
firsts_le : (r : List TypeInfo) (room t : ℕ) (kind : Branch) (c : List ℕ) (p : Part) (vs : Trees)
    (b : List ℕ) (left : Part) (u : ℕ) → BranchOpens (layout r t) kind c p →
    FirstValues r p vs b left → first_of left ≡ Some u → most_levels vs ≤ room →
    (m : ℕ) × (m + 1 ≤ widest r + 1) × (all_nodes vs ≤ m + length b * per (widest r + 1) room)
firsts_le r room t kind c p vs b left u o f next l = by kind o where
  fewer : (ts : List ℕ) → p ≡ each ts → length ts ≤ widest r → (m : ℕ) × (m + 1 ≤ widest r + 1)
      × (all_nodes vs ≤ m + length b * per (widest r + 1) room)
  fewer ts is few =
      let s = first_fields r ts vs b left
      (subst (λ (q : Part). FirstValues r q vs b left) is f) in
      let count = first_count r p vs b left f in (
        how_many vs,
        omega (arith, few, count, one_less left u next, ap how_many_left is),
        vals_le r room s.0 vs b s.4 l,
      )

  by : (kind : Branch) → BranchOpens (layout r t) kind c p → (m : ℕ) × (m + 1 ≤ widest r + 1)
      × (all_nodes vs ≤ m + length b * per (widest r + 1) room)
  by tree.fields h = fewer h.0 h.3 (narrow_at r t (layout.fields h.0) h.1)
  by (tree.arm q) h = fewer (field_types h.2.fields) h.6 (arm-width r t h.0 h.1 q h.2 h.3 h.4)
  by tree.list h =
      let elements = first_elements r h.0 h.1 vs b left
      (subst (λ (q : Part). FirstValues r q vs b left) h.3 f) in
      let few = each_le r room h.1 vs b (element_sized r t h.0 h.1 c h.2) elements l in
      (0, omega arith, omega (arith, few))

-- a begun tree has few nodes for its bytes, its room and the width of the registry
begun_le : (r : List TypeInfo) (room t : ℕ) (g : Begun) (b : List ℕ) (next : Option (ℕ × ℕ)) →
    Grows r room t g b next → begun_nodes g ≤ (length b + 1) * per (widest r + 1) room
unfolding Grows
begun_le r room t nothing b next h = omega arith
begun_le r zero t (whole v) b next h = absurd (omega (arith, levels-pos v, h.1))
begun_le r (suc room) t (whole v) b next h =
    let p = per (widest r + 1) (suc room) in
    omega (
      arith,
      or_unit r t v b p h.0 (node_le r room t v b h.0 h.1),
      add-mul (length b) 1 p,
      per-suc (widest r + 1) room,
    )
begun_le r zero t (open_branch k n vs g) b next h = absurd h
begun_le r (suc room) t (open_branch k n vs g) b next h =
    let o = h.5 in
    let few = firsts_le r room t k o.1 o.0 vs o.2 h.0 h.1 o.3 o.6 h.7 h.6 in
    let paid = pay_begun (length o.2) (length h.3) (length b) few.0 (per (widest r + 1) room)
    (widest r + 1)
    (omega (arith, ap length h.8, length-append h.2 h.3, ap length o.5, length-append o.1 o.2))
    few.1 in
    rw (per-suc (widest r + 1) room)
    (omega (arith, paid, few.2, begun_le r room h.1 g h.3 next h.10))

-- the texts and runs of bytes of the first values have no more bytes than the values
first_text_le : (r : List TypeInfo) (p : Part) (vs : Trees) (b : List ℕ) (left : Part) →
    FirstValues r p vs b left → all_text_bytes vs ≤ length b
first_text_le r p none b left h = omega arith
first_text_le r p (and v vs) b left h =
    omega (
      arith,
      text_le r h.0 v h.1 h.5,
      first_text_le r (left_after p) vs h.2 left h.6,
      ap length h.4,
      length-append h.1 h.2,
    )

-- the texts and runs of bytes of a begun tree have no more bytes than it has itself
begun_text_le : (r : List TypeInfo) (room t : ℕ) (g : Begun) (b : List ℕ) (next : Option (ℕ × ℕ)) →
    Grows r room t g b next → begun_text_bytes g ≤ length b
unfolding Grows
begun_text_le r room t nothing b next h = omega arith
begun_text_le r room t (whole v) b next h = text_le r t v b h.0
begun_text_le r zero t (open_branch k n vs g) b next h = absurd h
begun_text_le r (suc room) t (open_branch k n vs g) b next h =
    let o = h.5 in
    omega (
      arith,
      first_text_le r o.0 vs o.2 h.0 o.6,
      begun_text_le r room h.1 g h.3 next h.10,
      ap length h.8,
      length-append h.2 h.3,
      ap length o.5,
      length-append o.1 o.2,
    )

-- begun trees have few nodes and bytes of texts for the bytes that they are of
pub begun_is_bounded : BegunIsBounded
begun_is_bounded r room t g b next h = (
  (begun_trees_fit r room t g b next h).0,
  omega (
    arith,
    begun_le r room t g b next h,
    ap (λ (n : ℕ). (length b + 1) * n) (per-mul (widest r + 1) room),
  ),
  begun_text_le r room t g b next h,
)

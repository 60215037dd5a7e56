-- A value has few nodes for its bytes, its levels and the width of its registry.
use Rattle.std.proofs.Common.{◌≡◌, ℕ, zero, suc, ◌+◌, ◌*◌, ◌≤◌, ◌⊎◌, List, [], ◌∷◌, length, refl}
use Rattle.std.proofs.Common.{sym, ap, ◌∙◌, arith, inl, inr, length-append}
use Rattle.std.proofs.Math.Nat.{mul-add, add-mul, mul-le-mul_right}
use Rattle.types_core.specs.declared.type_info.TypeInfo.{TypeInfo}
use Rattle.widths_core.specs.declared.class.Class.TheVariants as class
use Rattle.graph_core.specs.Types.{field_types}
use Rattle.graph_core.specs.Widths.{widest}
use Rattle.widths_core.specs.Classes.{class_of}
use Rattle.widths_core.specs.Layouts.{layout}
use Rattle.widths_core.specs.Layouts as layout
use Rattle.widths_core.proofs.Known.{empty_class, class_empty, layout_empty}
use Rattle.widths_core.proofs.Wide.{narrow_at, arm-width}
use Rattle.grammar_core.specs.Tree.{Tree, leaf, branch, fields, arm, list, Trees, none, and}
use Rattle.grammar_core.specs.Tree.{how_many, nodes, all_nodes, levels, most_levels, text_bytes}
use Rattle.grammar_core.specs.Tree.{all_text_bytes}
use Rattle.grammar_core.specs.Preorder.{levels-pos}
use Rattle.grammar_core.specs.Grammar.{Val, Vals, Each}
use Rattle.grammar_core.specs.Laws.{ValuesAreBounded}
use Rattle.grammar_core.proofs.Emptiness.{no_bytes, empty_unique, known_at}
use Rattle.grammar_core.proofs.Texts.{leaf_text}

-- what each byte pays for, by the levels that there is room for
pub per : ℕ → ℕ → ℕ
per w zero = 0
per w (suc room) = per w room + w

-- what each byte pays for is the width times the room
pub per-mul : (w room : ℕ) → per w room ≡ room * w
unfolding per
per-mul w zero = omega arith
per-mul w (suc room) = omega (arith, per-mul w room, add-mul room 1 w)

-- with room for one level more, each byte pays for the width once more
pub per-suc : (w room : ℕ) → per w (suc room) ≡ per w room + w
unfolding per
per-suc w room = refl

-- a node and k children that take nothing, over children that are paid for by n of m bytes
pub pay : (m n k p w : ℕ) → 1 ≤ m → n ≤ m → k + 1 ≤ w → 1 + (k + n * p) ≤ m * (p + w)
pay m n k p w pos le small =
    omega (arith, mul-add m p w, mul-le-mul_right p le, mul-le-mul_right w pos, small)

-- a sum times a number is the sum of both products
pub two : (m n p : ℕ) → (m + n) * p ≡ m * p + n * p
two m n p = add-mul m n p

-- there are as many values as types of which they are values
pub same_length : (r : List TypeInfo) (ts : List ℕ) (vs : Trees) (b : List ℕ) → Vals r ts vs b →
    how_many vs ≡ length ts
unfolding Val
same_length r [] none b h = refl
same_length r (t ∷ ts) none b h = absurd h
same_length r [] (and v vs) b h = absurd h
same_length r (t ∷ ts) (and v vs) b h = ap (λ (n : ℕ). suc n) (same_length r ts vs h.1 h.4)

-- a list is empty or has one element at least
is_nil : (b : List ℕ) → (b ≡ []) ⊎ (1 ≤ length b)
is_nil [] = inl refl
is_nil (x ∷ b) = inr (omega arith)

-- a child may take no bytes
pub or_unit : (r : List TypeInfo) (t : ℕ) (v : Tree) (b : List ℕ) (p : ℕ) → Val r t v b →
    (1 ≤ length b → nodes v ≤ length b * p) → nodes v ≤ 1 + length b * p
or_unit r t v b p h f = elim (is_nil b) [
  | inl nil ↦ let is = (empty_unique r t v b (layout_empty r t (no_bytes r t v b nil h)) h).0 in
      omega (arith, ap nodes is)
  | inr some ↦ omega (arith, f some)
]

-- a value of a type that does not have the class Empty has a byte
not_empty : (r : List TypeInfo) (t : ℕ) (v : Tree) (b : List ℕ) → (class_of r t ≡ class.Empty → ⊥) →
    Val r t v b → 1 ≤ length b
not_empty r t v b ne h =
    elim (is_nil b) [ inl nil ↦ absurd (ne (no_bytes r t v b nil h)) | inr some ↦ some ]

-- what is laid out as an array has elements whose class is not Empty
pub array_element : (r : List TypeInfo) (t n u : ℕ) → layout r t ≡ layout.array n u →
    class_of r u ≡ class.Empty → ⊥
array_element r t n u e h =
    let empty = layout_empty r t
    (empty_class r t ((known_at r t (layout.array n u) e).1 (class_empty r u h))) in
    let both = sym empty ∙ e in absurd cc

-- one node is within the bound where it has a byte, whatever the room
leaf_le : (r : List TypeInfo) (room : ℕ) (b : List ℕ) → 1 ≤ length b →
    1 ≤ length b * per (widest r + 1) (suc room)
leaf_le r room b pos = rw (per-suc (widest r + 1) room)
    (omega (
      arith,
      pay (length b) 0 0 (per (widest r + 1) room) (widest r + 1) pos (omega arith)
          (omega arith),
    ))

mutual
  unfolding Val

  pub node_le : (r : List TypeInfo) (room t : ℕ) (v : Tree) (b : List ℕ) → Val r t v b →
      levels v ≤ suc room → 1 ≤ length b → nodes v ≤ length b * per (widest r + 1) (suc room)
  node_le r room t (leaf x) b h l pos = leaf_le r room b pos
  node_le r room t (branch fields vs) b h l pos =
      let few = narrow_at r t (layout.fields h.0) h.1 in
      let paid = pay (length b) (length b) (how_many vs) (per (widest r + 1) room) (widest r + 1)
      pos (omega arith) (omega (arith, few, same_length r h.0 vs b h.2)) in
      rw (per-suc (widest r + 1) room)
      (omega (arith, paid, vals_le r room h.0 vs b h.2 (omega arith)))
  node_le r room t (branch (arm q) vs) b h l pos =
      let ts = field_types h.2.fields in
      let few = arm-width r t h.0 h.1 q h.2 h.4 h.5 in
      let paid = pay (length b) (length h.3) (how_many vs) (per (widest r + 1) room) (widest r + 1)
      pos (omega (arith, ap length h.6)) (omega (arith, few, same_length r ts vs h.3 h.7)) in
      rw (per-suc (widest r + 1) room)
      (omega (arith, paid, vals_le r room ts vs h.3 h.7 (omega arith)))
  node_le r room t (branch list vs) b (inl h) l pos =
      let paid = pay (length b) (length b) 0 (per (widest r + 1) room) (widest r + 1) pos
      (omega arith) (omega arith) in
      rw (per-suc (widest r + 1) room)
      (omega (
        arith,
        paid,
        each_le r room h.1 vs b (array_element r t h.0 h.1 h.2) h.4
            (omega arith),
      ))
  node_le r room t (branch list vs) b (inr h) l pos =
      let paid = pay (length b) (length h.2) 0 (per (widest r + 1) room) (widest r + 1) pos
      (omega (arith, ap length h.5, length-append h.1 h.2)) (omega arith) in
      rw (per-suc (widest r + 1) room)
      (omega (
        arith,
        paid,
        each_le r room h.0 vs h.2 (known_at r t (layout.sequence h.0) h.3)
            h.6 (omega arith),
      ))

  pub vals_le : (r : List TypeInfo) (room : ℕ) (ts : List ℕ) (vs : Trees) (b : List ℕ) →
      Vals r ts vs b → most_levels vs ≤ room →
      all_nodes vs ≤ how_many vs + length b * per (widest r + 1) room
  vals_le r room [] none b h l = omega arith
  vals_le r room (t ∷ ts) none b h l = absurd h
  vals_le r room [] (and v vs) b h l = absurd h
  vals_le r zero (t ∷ ts) (and v vs) b h l = absurd (omega (arith, levels-pos v))
  vals_le r (suc room) (t ∷ ts) (and v vs) b h l =
      let p = per (widest r + 1) (suc room) in
      let one = or_unit r t v h.0 p h.3 (node_le r room t v h.0 h.3 (omega arith)) in
      omega (
        arith,
        one,
        vals_le r (suc room) ts vs h.1 h.4 (omega arith),
        ap (λ (x : List ℕ). length x * p) h.2,
        two (length h.0) (length h.1) p,
        ap (λ (n : ℕ). n * p) (length-append h.0 h.1),
      )

  pub each_le : (r : List TypeInfo) (room t : ℕ) (vs : Trees) (b : List ℕ) →
      (class_of r t ≡ class.Empty → ⊥) → Each r t vs b → most_levels vs ≤ room →
      all_nodes vs ≤ length b * per (widest r + 1) room
  each_le r room t none b ne h l = omega arith
  each_le r zero t (and v vs) b ne h l = absurd (omega (arith, levels-pos v))
  each_le r (suc room) t (and v vs) b ne h l =
      let p = per (widest r + 1) (suc room) in
      omega (
        arith,
        node_le r room t v h.0 h.3 (omega arith) (not_empty r t v h.0 ne h.3),
        each_le r (suc room) t vs h.1 ne h.4 (omega arith),
        ap (λ (x : List ℕ). length x * p) h.2,
        two (length h.0) (length h.1) p,
        ap (λ (n : ℕ). n * p) (length-append h.0 h.1),
      )

mutual
  unfolding Val

  pub text_le : (r : List TypeInfo) (t : ℕ) (v : Tree) (b : List ℕ) → Val r t v b →
      text_bytes v ≤ length b
  text_le r t (leaf l) b h = (leaf_text h.0 l b h.2).0
  text_le r t (branch fields vs) b h = all_text_le r h.0 vs b h.2
  text_le r t (branch (arm q) vs) b h =
      omega (arith, ap length h.6, all_text_le r (field_types h.2.fields) vs h.3 h.7)
  text_le r t (branch list vs) b (inl h) = each_text_le r h.1 vs b h.4
  text_le r t (branch list vs) b (inr h) =
      omega (arith, ap length h.5, length-append h.1 h.2, each_text_le r h.0 vs h.2 h.6)

  pub all_text_le : (r : List TypeInfo) (ts : List ℕ) (vs : Trees) (b : List ℕ) → Vals r ts vs b →
      all_text_bytes vs ≤ length b
  all_text_le r [] none b h = omega arith
  all_text_le r (t ∷ ts) none b h = absurd h
  all_text_le r [] (and v vs) b h = absurd h
  all_text_le r (t ∷ ts) (and v vs) b h =
      omega (
        arith,
        ap length h.2,
        length-append h.0 h.1,
        text_le r t v h.0 h.3,
        all_text_le r ts vs h.1 h.4,
      )

  pub each_text_le : (r : List TypeInfo) (t : ℕ) (vs : Trees) (b : List ℕ) → Each r t vs b →
      all_text_bytes vs ≤ length b
  each_text_le r t none b h = omega arith
  each_text_le r t (and v vs) b h =
      omega (
        arith,
        ap length h.2,
        length-append h.0 h.1,
        text_le r t v h.0 h.3,
        each_text_le r t vs h.1 h.4,
      )

-- a value has few nodes for its bytes, levels and width, and no more text than bytes
pub values_are_bounded : ValuesAreBounded
values_are_bounded r zero t v b h l = absurd (omega (arith, levels-pos v))
values_are_bounded r (suc room) t v b h l = (
  omega (
    arith,
    or_unit r t v b (per (widest r + 1) (suc room)) h (node_le r room t v b h l),
    ap (λ (n : ℕ). length b * n) (per-mul (widest r + 1) (suc room)),
  ),
  text_le r t v b h,
)

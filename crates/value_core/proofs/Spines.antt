-- A value that is being built stays one at each step.
use Rattle.grammar_core.specs.Preorder as head
use Rattle.grammar_core.specs.Tree as tree
use Rattle.std.proofs.Common.{◌≡◌, ℕ, suc, ◌+◌, ◌≤◌, List, [], ◌∷◌, ◌++◌, length, Some}
use Rattle.std.proofs.Common.{None, refl, sym, ap, subst, ◌∙◌, append_assoc, arith, inl, inr}
use Rattle.std.proofs.lemmas.List.{append-nil}
use Rattle.std.proofs.lemmas.Option.{same_Some}
use Rattle.types_core.specs.declared.type_info.TypeInfo.{TypeInfo}
use Rattle.graph_core.specs.Types.{field_types}
use Rattle.widths_core.specs.Layouts.{layout}
use Rattle.grammar_core.specs.Tree.{Branch, Tree, Trees, none, and, how_many, levels, most_levels}
use Rattle.grammar_core.specs.Tree.{all_nodes}
use Rattle.grammar_core.specs.Grammar.{Val, Vals}
use Rattle.grammar_core.specs.Parts.{Part, each, times, first_of, left_after}
use Rattle.grammar_core.specs.Parts.{how_many_left}
use Rattle.grammar_core.specs.Cells.{Cell, cells, all_cells, part_of}
use Rattle.grammar_core.specs.Begun.{BranchOpens, FirstValues, IsOpenAs}
use Rattle.grammar_core.proofs.OpenNodes.{child_is, none_left, first_count, first_fields}
use Rattle.grammar_core.proofs.OpenNodes.{first_elements}
use Rattle.value_core.specs.Walked.{OpenPart}
use Rattle.value_core.specs.Spine.{OpenNode, open_cell, open_cells, IsOpen, open_part, Spine}
use Rattle.node_core.proofs.Below.{arm_part_is}
use Rattle.node_core.proofs.CellsOf.{all_cells_length}

-- one more child
abbrev pub snoc : Trees → Tree → Trees
snoc none v = and v none
snoc (and w ws) v = and w (snoc ws v)

-- one child more fits the room where the others fit and it does
snoc_levels : (vs : Trees) (v : Tree) (room : ℕ) → most_levels vs ≤ room → levels v ≤ room →
    most_levels (snoc vs v) ≤ room
snoc_levels none v room h k = omega (arith, k)
snoc_levels (and w ws) v room h k = omega (arith, h, snoc_levels ws v room (omega (arith, h)) k)

-- a node whose children fit the room fits one level more
kind_levels : (kind : Branch) (vs : Trees) (room : ℕ) → most_levels vs ≤ room →
    levels (tree.branch kind vs) ≤ suc room
kind_levels k vs room h = omega (arith, h)

-- one value more of the next part comes after the first ones, and its nodes after theirs
first_grown : (r : List TypeInfo) (p : Part) (vs : Trees) (b : List ℕ) (left : Part) (u : ℕ)
    (v : Tree) (c : List ℕ) → FirstValues r p vs b left → first_of left ≡ Some u → Val r u v c →
    FirstValues r p (snoc vs v) (b ++ c) (left_after left)
    × (all_cells r p (snoc vs v) ≡ all_cells r p vs ++ cells r u v)
first_grown r p none b left u v c h e k =
    let first : first_of p ≡ Some u = ap first_of (sym h.1) ∙ e in (
      (u, c, [], first, rw (h.0, append-nil) refl, k, (refl, ap left_after h.1)),
      rw (child_is p u first, append-nil) refl,
    )
first_grown r p (and w ws) b left u v c h e k =
    let s = first_grown r (left_after p) ws h.2 left u v c h.6 e k in (
      (h.0, h.1, h.2 ++ c, h.3, rw (h.4, append_assoc) refl, h.5, s.0),
      rw (s.1, append_assoc) refl,
    )

-- the parts of a branch are those of a node that has as many children
pub part_is : (r : List TypeInfo) (t : ℕ) (kind : Branch) (c : List ℕ) (p : Part) →
    BranchOpens (layout r t) kind c p → part_of (layout r t) kind (how_many_left p) ≡ p
part_is r t tree.fields c p h = rw (h.1, h.3) refl
part_is r t (tree.arm q) c p h = arm_part_is r t q h.0 h.1 h.2 h.3 h.4 ∙ sym h.6
part_is r t tree.list c p h = elim h.2 [
  | inl a ↦ rw (a.0, h.3) refl
  | inr s ↦ rw (s.0, h.3) refl
]

-- a value of the next type comes to an open node as its next child, and its nodes after the others
grown_as : (r : List TypeInfo) (kind : Branch) (t n : ℕ) (vs : Trees) (b : List ℕ) (p : Part)
    (u : ℕ) (v : Tree) (c : List ℕ) → IsOpenAs r kind t n vs b p → first_of p ≡ Some u →
    Val r u v c → IsOpenAs r kind t n (snoc vs v) (b ++ c) (left_after p)
    × (all_cells r (part_of (layout r t) kind n) (snoc vs v)
    ≡ all_cells r (part_of (layout r t) kind n) vs ++ cells r u v)
grown_as r kind t n vs b p u v c h f k =
    let g = first_grown r h.0 vs h.2 p u v c h.6 f k in (
      (h.0, h.1, h.2 ++ c, h.3, h.4, rw (h.5, append_assoc) refl, g.0),
      rw (h.4, part_is r t kind h.1 h.0 h.3) g.1,
    )

-- where no field is next, none is left
no_each : (back : List ℕ) → first_of (each back) ≡ None → back ≡ []
no_each [] e = refl
no_each (u ∷ us) e = absurd cc

-- the first values by a list of types, of which none is left, are values of all of them
all_first : (r : List TypeInfo) (ts : List ℕ) (p : Part) (vs : Trees) (b : List ℕ) (left : Part) →
    FirstValues r p vs b left → p ≡ each ts → first_of left ≡ None → Vals r ts vs b
all_first r ts p vs b left h is e =
    let s = first_fields r ts vs b left (subst (λ (q : Part). FirstValues r q vs b left) is h) in
    let none = no_each s.1 (ap first_of (sym s.3) ∙ e) in
    let all : ts ≡ s.0 = s.2 ∙ ap (λ (x : List ℕ). s.0 ++ x) none ∙ append-nil s.0 in
    rw all s.4

-- an open node of which no part is left is a value, with as many children as it is to have
whole_as : (r : List TypeInfo) (kind : Branch) (t n : ℕ) (vs : Trees) (b : List ℕ) (p : Part) →
    IsOpenAs r kind t n vs b p → first_of p ≡ None → Val r t (tree.branch kind vs) b
    × (n ≡ how_many vs)
unfolding Val
whole_as r kind t n vs b p h f =
    let count = first_count r h.0 vs h.2 p h.6 in
    let none = none_left p f in
    (by kind h.3, omega (arith, h.4, count, none)) where
      by : (kind : Branch) → BranchOpens (layout r t) kind h.1 h.0 → Val r t (tree.branch kind vs) b
      by tree.fields o = (o.0, o.1, rw (h.5, o.2) (all_first r o.0 h.0 vs h.2 p h.6 o.3 f))
      by (tree.arm q) o = (
        o.0,
        o.1,
        o.2,
        h.2,
        o.3,
        o.4,
        rw (h.5, o.5) refl,
        all_first r (field_types o.2.fields) h.0 vs h.2 p h.6 o.6 f,
      )
      by tree.list o =
          let elements = first_elements r o.0 o.1 vs h.2 p
          (subst (λ (q : Part). FirstValues r q vs h.2 p) o.3 h.6) in
          let all : how_many vs ≡ o.0 = omega (
            arith,
            ap how_many_left o.3,
            first_count r h.0 vs h.2 p h.6,
            none_left p f,
          ) in
          elim o.2 [
            | inl a ↦ inl (o.0, o.1, a.0, all, rw (h.5, a.1) elements)
            | inr s ↦ inr (o.1, h.1, h.2, s.0, rw all s.1, h.5, elements)
          ]

-- lists of open parts that are the same begin with the same and go on with the same
pub is_cons : (p q : OpenPart) (ps qs : List OpenPart) → p ∷ ps ≡ q ∷ qs → (p ≡ q) × (ps ≡ qs)
is_cons p q ps qs e = (cc, cc)

-- the trees and open nodes after the next value
abbrev pub Grown : List TypeInfo → ℕ → ℕ → List OpenPart → List Cell → List ℕ → Type 0
Grown r room t fs cs own = (os : List OpenNode) × Spine r room t os fs cs own

-- a value is added where its type is next
pub value_added : (r : List TypeInfo) (room t : ℕ) (os : List OpenNode) (f : OpenPart)
    (fs : List OpenPart) (cs : List Cell) (own : List ℕ) (u : ℕ) (v : Tree) (c : List ℕ) →
    Spine r room t os (f ∷ fs) cs own → first_of f.left ≡ Some u → Val r u v c → levels v ≤ room →
    Grown r room t (open_part f.node (left_after f.left) ∷ fs) (cs ++ cells r u v) (own ++ c)
value_added r room t [] f fs cs own u v c (inl h) e k l =
    let parts = is_cons f (open_part 0 (times 1 t)) fs [] h.0 in
    let same : t ≡ u = same_Some t u (sym (ap (λ (x : OpenPart). first_of x.left) parts.0) ∙ e) in (
      [],
      inr (
        v,
        rw (parts.0, parts.1) refl,
        rw (h.1, same) refl,
        subst (λ (b : List ℕ). Val r t v b) (sym (ap (λ (b : List ℕ). b ++ c) h.2))
            (subst (λ (z : ℕ). Val r z v c) (sym same) k),
        l,
      ),
    )
value_added r room t [] f fs cs own u v c (inr h) e k l =
    let parts = is_cons f (open_part 0 (times 0 t)) fs [] h.1 in
    let no : None ≡ Some u = sym (ap (λ (x : OpenPart). first_of x.left) parts.0) ∙ e in absurd cc
value_added r room t (o ∷ os) f fs cs own u v c h e k l =
    let parts = is_cons f (open_part (length h.4) h.0) fs (open_part h.2 (left_after h.1) ∷ h.3)
    h.6 in
    let e' : first_of h.0 ≡ Some u = sym (ap (λ (x : OpenPart). first_of x.left) parts.0) ∙ e in
    let g = grown_as r o.kind o.ty o.all o.done o.own h.0 u v c h.9.1 e' k in
    let o' : OpenNode = record {
      ty = o.ty;
      kind = o.kind;
      all = o.all;
      done = snoc o.done v;
      own =
          o.own ++ c;
    } in (
      o' ∷ os,
      (
        left_after h.0,
        h.1,
        h.2,
        h.3,
        h.4,
        h.5,
        rw (parts.0, parts.1) refl,
        h.7,
        h.8,
        (h.9.0, g.0),
        snoc_levels o.done v room h.10 l,
        ap (λ (x : List Cell). x ++ cells r u v) h.11
            ∙ append_assoc h.4 (open_cells r o) (cells r u v)
            ∙ ap (λ (x : List Cell). h.4 ++ (open_cell o ∷ x)) (sym g.1),
        ap (λ (b : List ℕ). b ++ c) h.12 ∙ append_assoc h.5 o.own c,
      ),
    )

-- the node that is next is open
pub node_opened : (r : List TypeInfo) (room t : ℕ) (os : List OpenNode) (f : OpenPart) (q : Part)
    (fs : List OpenPart) (cs : List Cell) (own : List ℕ) (o : OpenNode) →
    Spine r (suc room) t os (f ∷ fs) cs own → first_of f.left ≡ Some o.ty → IsOpen r o q →
    most_levels o.done ≤ room →
    Spine r room t (o ∷ os) (open_part (length cs) q ∷ open_part f.node (left_after f.left) ∷ fs)
    (cs ++ open_cells r o) (own ++ o.own)
node_opened r room t os f q fs cs own o h e k l =
    (q, f.left, f.node, fs, cs, own, refl, e, h, k, l, refl, refl)

-- open parts, nodes and bytes after a value came may be replaced by equal ones
same_grown : (r : List TypeInfo) (room t : ℕ) (fs fs' : List OpenPart) (cs cs' : List Cell)
    (own own' : List ℕ) → fs ≡ fs' → cs ≡ cs' → own ≡ own' → Grown r room t fs' cs' own' →
    Grown r room t fs cs own
same_grown r room t fs fs' cs cs' own own' e f g h = (h.0, rw (e, f, g) h.1)

-- the node's cell, with its size, and those of its children
kind_cells : (r : List TypeInfo) (t : ℕ) (kind : Branch) (n : ℕ) (vs : Trees) → n ≡ how_many vs →
    record { ty = t; head = head.branch kind n; size = 1 + all_nodes vs } ∷ all_cells r
    (part_of (layout r t) kind n) vs ≡ cells r t (tree.branch kind vs)
kind_cells r t k n vs e = rw e refl

-- where the innermost node's cell stands, and what the nodes are when it gets its size
pub record Closed (r : List TypeInfo) (room t : ℕ) (place : ℕ) (fs : List OpenPart) (cs : List Cell)
    (own : List ℕ) : Type 0 where
  pub front : List Cell
  pub cell : Cell
  pub unsized : cell.size ≡ 0
  pub back : List Cell
  pub cells_are : cs ≡ front ++ cell ∷ back
  pub place_is : place ≡ length front
  pub grown : Grown r (suc room) t fs
      (front ++ record { ty = cell.ty; head = cell.head; size = 1 + length back } ∷ back) own

-- the innermost node is whole
pub node_closed : (r : List TypeInfo) (room t : ℕ) (o : OpenNode) (os : List OpenNode)
    (f : OpenPart) (fs : List OpenPart) (cs : List Cell) (own : List ℕ) →
    Spine r room t (o ∷ os) (f ∷ fs) cs own → first_of f.left ≡ None →
    Closed r room t f.node fs cs own
node_closed r room t o os f fs cs own h e =
    let parts = is_cons f (open_part (length h.4) h.0) fs (open_part h.2 (left_after h.1) ∷ h.3)
    h.6 in
    let whole = whole_as r o.kind o.ty o.all o.done o.own h.0 h.9.1
    (sym (ap (λ (x : OpenPart). first_of x.left) parts.0) ∙ e) in
    let g = value_added r (suc room) t os (open_part h.2 h.1) h.3 h.4 h.5 o.ty
    (tree.branch o.kind o.done) o.own h.8 h.7 whole.0 (kind_levels o.kind o.done room h.10) in
    let back = all_cells r (part_of (layout r o.ty) o.kind o.all) o.done in
    let size : 1 + length back ≡ 1 + all_nodes o.done =
    ap (λ (k : ℕ). 1 + k) (all_cells_length r (part_of (layout r o.ty) o.kind o.all) o.done) in
    let is : h.4 ++ record {
      ty = o.ty;
      head = head.branch o.kind o.all;
      size =
          1 + length back;
    } ∷ back ≡ h.4 ++ cells r o.ty (tree.branch o.kind o.done) =
    ap (λ (k : ℕ). h.4 ++ record {
      ty = o.ty;
      head = head.branch o.kind o.all;
      size =
          k;
    } ∷ back) size ∙ ap (λ (x : List Cell). h.4 ++ x)
    (kind_cells r o.ty o.kind o.all o.done whole.1) in
    record {
      front = h.4;
      cell = open_cell o;
      unsized = refl;
      back = back;
      cells_are = h.11;
      place_is = ap (λ (x : OpenPart). x.node) parts.0;
      grown = same_grown r (suc room) t fs (open_part h.2 (left_after h.1) ∷ h.3)
          (h.4 ++ record {
            ty = o.ty;
            head = head.branch o.kind o.all;
            size =
                1 + length back;
          } ∷ back) (h.4 ++ cells r o.ty (tree.branch o.kind o.done)) own
          (h.5 ++ o.own) parts.1 is h.12 g;
    }

-- where nothing is left, the nodes are those of a value
pub spine_is_whole : (r : List TypeInfo) (room t : ℕ) (f : OpenPart) (cs : List Cell)
    (own : List ℕ) → Spine r room t [] (f ∷ []) cs own → first_of f.left ≡ None → (v : Tree)
    × (cs ≡ cells r t v) × Val r t v own × (levels v ≤ room)
spine_is_whole r room t f cs own (inl h) e = let no : None ≡ Some t = sym e
    ∙ ap (λ (x : OpenPart). first_of x.left) (is_cons f (open_part 0 (times 1 t)) [] [] h.0).0 in
    absurd cc
spine_is_whole r room t f cs own (inr h) e = (h.0, h.2, h.3, h.4)

-- as many parts are left as nodes are open, and one
pub spine_length : (r : List TypeInfo) (room t : ℕ) (os : List OpenNode) (fs : List OpenPart)
    (cs : List Cell) (own : List ℕ) → Spine r room t os fs cs own → length fs ≡ suc (length os)
spine_length r room t [] fs cs own (inl h) = ap length h.0
spine_length r room t [] fs cs own (inr h) = ap length h.1
spine_length r room t (o ∷ os) fs cs own h =
    omega (
      arith,
      ap length h.6,
      spine_length r (suc room) t os (open_part h.2 h.1 ∷ h.3) h.4 h.5 h.8,
    )

-- A node without parts that is added by its own bytes, or refused.
use Rattle.std.proofs.Common.{◌≡◌, ℕ, true, List, [], Option, None, Ok, Err, refl, sym, ap, ◌∙◌}
use Rattle.std.proofs.lemmas.List.{append-nil}
use Rattle.scale_core.specs.Number.{AreBytes}
use Rattle.scale_core.specs.Read.{Read}
use Rattle.scale_core.specs.declared.fault.Fault.{Fault}
use Rattle.types_core.specs.declared.kind.IntegerWidth.TheVariants as width
use Rattle.types_core.specs.declared.kind.Signedness.TheVariants as sign
use Rattle.types_core.specs.declared.type_info.TypeInfo.{TypeInfo}
use Rattle.widths_core.specs.Classes.{is_finite}
use Rattle.widths_core.specs.Layouts.{Layout, Plain, layout}
use Rattle.widths_core.specs.Layouts as layout
use Rattle.grammar_core.specs.Grammar.{Val}
use Rattle.grammar_core.specs.Parts.{Part}
use Rattle.grammar_core.specs.Preorder.{Head, head_of}
use Rattle.grammar_core.specs.Preorder as head
use Rattle.grammar_core.specs.Reading.{Refusal, basic, layout_at, leaf_at, value_at}
use Rattle.grammar_core.specs.Tree.{Tree}
use Rattle.grammar_core.specs.Tree as tree
use Rattle.grammar_core.specs.declared.form.Next.TheVariants as next
use Rattle.grammar_core.proofs.Sound.{value_takes}
use Rattle.value_core.specs.Built.{Built, IsNextLeaf, next_layout, with_leaf}
use Rattle.node_core.specs.Leaves.{leaf_head}
use Rattle.value_core.specs.Walked.{next_of}
use Rattle.node_core.specs.declared.leaf.Leaf.{Leaf}
use Rattle.node_core.specs.declared.leaf.Leaf.TheVariants as leaf
use Rattle.value_core.proofs.Forms.{HasForm, wanted}
use Rattle.form_core.specs.Needs.{AreOwn, HasBytes, NoRun}
use Rattle.machine_core.specs.NodeAdds.{AddsNode, IsAdded, IsSpelled}
use Rattle.form_core.specs.NodeForms.{form_of_plain, plain_layout}
use Rattle.form_core.specs.PlainReads.{ReadsPlain}
use Rattle.machine_core.specs.Reasons.{reason_of}
use Rattle.grammar_core.specs.Reading.{leaf_own}
use Rattle.outcome_core.specs.Reported.{own_at}
use Rattle.form_core.specs.declared.forms.PlainForm.{PlainForm}
use Rattle.form_core.specs.declared.forms.PlainForm.TheVariants as plain
use Rattle.machine_core.specs.declared.node.NodeFault.{NodeFault}
use Rattle.machine_core.specs.declared.node.NodeFault.TheVariants as fault
use Rattle.machine_core.proofs.steps.NodeAdding.{all_read, next_has, node_refused}

-- each plain form has bytes of its own
pub plain_bytes : (p : PlainForm) → HasBytes (form_of_plain p)
plain_bytes plain.Bool = tt
plain_bytes _ = tt

-- no plain form is a run
no_run : (p : PlainForm) → NoRun (form_of_plain p)
no_run (plain.Unsigned width.Bits8) = tt
no_run (plain.Signed width.Bits8) = tt
no_run (plain.Wide sign.Unsigned) = tt
no_run _ = tt

-- the layout of the next type is the one of the form
plain_next_layout : (b : Built) (p : PlainForm) → next_of b.walk ≡ next.Wants (form_of_plain p) →
    next_layout b ≡ layout.plain (plain_layout p)
plain_next_layout b p h = by p (next_has b (form_of_plain p) h) where
  by : (p : PlainForm) → HasForm (form_of_plain p) (next_layout b) →
      next_layout b ≡ layout.plain (plain_layout p)
  by (plain.Unsigned width.Bits8) f = f
  by (plain.Signed width.Bits8) f = f
  by (plain.Wide sign.Unsigned) f = f
  by _ f = f

-- the own bytes of a node without parts are read as its leaf
own_plain : (q : Plain) (own : List ℕ) → own_at (layout.plain q) own ≡ leaf_own (leaf_at q own)
unfolding own_at layout_at
own_plain q own = refl

-- the bytes of the next node, by its form
pub next_own : (b : Built) (p : PlainForm) (own : List ℕ) →
    next_of b.walk ≡ next.Wants (form_of_plain p) →
    own_at (next_layout b) own ≡ leaf_own (leaf_at (plain_layout p) own)
next_own b p own h = ap (λ (f : Layout). own_at f own) (plain_next_layout b p h)
    ∙ own_plain (plain_layout p) own

-- what is read of the next node is all that its bytes spell
pub spells : (b : Built) (p : PlainForm) (own : List ℕ) (l : Leaf) →
    next_of b.walk ≡ next.Wants (form_of_plain p) → AreOwn (form_of_plain p) own →
    ReadsPlain p own (Ok l) → own_at (next_layout b) own ≡ Ok ((leaf_head l, None), [])
spells b p own l h a r =
    all_read (form_of_plain p) b own (leaf_head l, None) h (plain_bytes p) (no_run p) a
    (r.0, next_own b p own h ∙ r.1)

-- bytes that are read as a leaf spell the next node
pub plain_spelled : (b : Built) (p : PlainForm) (own : List ℕ) (l : Leaf) →
    next_of b.walk ≡ next.Wants (form_of_plain p) → AreOwn (form_of_plain p) own →
    ReadsPlain p own (Ok l) → IsSpelled b own
plain_spelled b p own l h a r = ((leaf_head l, None), spells b p own l h a r)

-- bytes that are read as a leaf add it as the next node
pub plain_added : (b new : Built) (p : PlainForm) (own : List ℕ) (l : Leaf) →
    next_of b.walk ≡ next.Wants (form_of_plain p) → AreOwn (form_of_plain p) own →
    ReadsPlain p own (Ok l) → new ≡ with_leaf b (leaf_head l) → IsAdded b new own
plain_added b new p own l h a r is = ((leaf_head l, None), spells b p own l h a r, is)

-- bytes that are refused as a leaf refuse the next node, at the same place
pub plain_refused : (b : Built) (p : PlainForm) (own : List ℕ) (f : Fault) (reported : NodeFault) →
    next_of b.walk ≡ next.Wants (form_of_plain p) → AreOwn (form_of_plain p) own →
    ReadsPlain p own (Err f) → reported ≡ fault.Refused (reason_of (basic f.reason)) f.at →
    AddsNode b b own (Err reported)
plain_refused b p own f reported h a r is =
    node_refused (form_of_plain p) b own (basic f.reason) f.at reported h
    (plain_bytes p) (no_run p) a
    (r.0, next_own b p own h ∙ r.1, r.2) is

-- ---- the value that the bytes are

-- the tree of a node without children
leaf_tree : (l : Leaf) → (t : tree.Leaf) × (leaf_head l ≡ head.leaf t)
leaf_tree leaf.Empty = (_, refl)
leaf_tree _ = (_, refl)

-- own bytes that give a leaf and leave nothing are read as this leaf
leaf_only : (read : Read Refusal Tree) (t : tree.Leaf) →
    leaf_own read ≡ Ok ((head.leaf t, None), []) → read ≡ Ok (tree.leaf t, [])
leaf_only (Ok x) t e =
    let both : (head_of x.0, x.1) ≡ (head.leaf t, []) =
    ap (λ (y : (Head × Option Part) × List ℕ). (y.0.0, y.1)) (ok_is ((head_of x.0, None), x.1)
    ((head.leaf t, None), []) e) in
    ap (λ (y : Tree × List ℕ). Ok y) (pair_is x t (ap (λ (y : Head × List ℕ). y.0) both)
    (ap (λ (y : Head × List ℕ). y.1) both)) where
      ok_is : (x y : (Head × Option Part) × List ℕ) →
          ◌≡◌ {A = Read Refusal (Head × Option Part)} (Ok x)
          (Ok y) → x ≡ y
      ok_is x y e = cc

      leaf_is : (l t : tree.Leaf) → head.leaf l ≡ head.leaf t → l ≡ t
      leaf_is l t e = cc

      tree_is : (v : Tree) (t : tree.Leaf) → head_of v ≡ head.leaf t → v ≡ tree.leaf t
      tree_is (tree.leaf l) t e = ap tree.leaf (leaf_is l t e)
      tree_is (tree.branch k vs) t e = absurd cc

      pair_is : (x : Tree × List ℕ) (t : tree.Leaf) → head_of x.0 ≡ head.leaf t → x.1 ≡ [] →
          x ≡ (tree.leaf t, [])
      pair_is x t e f = rw (← tree_is x.0 t e, ← f) refl
leaf_only (Err f) t e = absurd cc

-- a type of this layout has the value that is read
val_read : (r : List TypeInfo) (t : ℕ) (q : Plain) (own : List ℕ) (l : tree.Leaf) →
    is_finite r t ≡ true → layout r t ≡ layout.plain q → leaf_at q own ≡ Ok (tree.leaf l, []) →
    Val r t (tree.leaf l) own
unfolding value_at layout_at
val_read r t q own l finite laid e =
    let read : value_at r 1 t own ≡ Ok (tree.leaf l, []) = rw (finite, laid) e in
    let took = rw read at (value_takes r 1 t own) in
    let all : own ≡ took.0 = took.1 ∙ append-nil took.0 in
    rw all took.2.0

-- the next type has the value that is read of its own bytes
pub plain_next : (b : Built) (p : PlainForm) (own : List ℕ) (l : Leaf) → AreBytes own →
    next_of b.walk ≡ next.Wants (form_of_plain p) → AreOwn (form_of_plain p) own →
    ReadsPlain p own (Ok l) → IsNextLeaf b.walk (leaf_head l)
plain_next b p own l are h a r =
    let t = leaf_tree l in
    let k = wanted b.walk (form_of_plain p) h in
    let whole : leaf_own (leaf_at (plain_layout p) own) ≡ Ok ((head.leaf t.0, None), []) =
    sym (next_own b p own h) ∙ spells b p own l h a r
    ∙ ap (λ (x : Head). Ok ((x, None), [])) t.1 in
    let laid : layout b.walk.types k.ty ≡ layout.plain (plain_layout p) =
    rw k.is_next at (plain_next_layout b p h) in
    let val = val_read b.walk.types k.ty (plain_layout p) own t.0 k.finite laid
    (leaf_only (leaf_at (plain_layout p) own) t.0 whole) in
    rw t.1 (record {
      ty = k.ty;
      next = k.is_next;
      room = k.room;
      leaf = tt;
      own = own;
      are_bytes = are;
      value = val;
    })

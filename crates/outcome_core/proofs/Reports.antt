-- Reading node by node is the big-step reading.
use Rattle.std.proofs.Common.{◌≡◌, ℕ, zero, suc, List, [], ◌∷◌, ◌++◌}
use Rattle.std.proofs.Common.{length, Option, Some, None, Ok, Err, refl, sym, ap, ◌∙◌, append_assoc}
use Rattle.std.proofs.lemmas.List.{append-nil}
use Rattle.scale_core.specs.Read.{Read, ◌>>=◌, compact_at}
use Rattle.scale_core.specs.declared.compact.Target.TheVariants as target
use Rattle.scale_core.specs.declared.fault.Reason.{Reason}
use Rattle.types_core.specs.declared.definition.Arm.{Arm}
use Rattle.types_core.specs.declared.type_info.TypeInfo.{TypeInfo}
use Rattle.graph_core.specs.Types.{field_types}
use Rattle.widths_core.specs.Arms.{arm_of}
use Rattle.widths_core.specs.Layouts.{Plain, Layout}
use Rattle.widths_core.specs.Layouts as layout
use Rattle.grammar_core.specs.Tree.{Leaf, Branch, Tree, Trees, none, and, how_many}
use Rattle.grammar_core.specs.Tree as tree
use Rattle.grammar_core.specs.Preorder.{Head, head_of, preorder, all_preorder}
use Rattle.grammar_core.specs.Reading.{as_leaf, value_at, layout_at}
use Rattle.grammar_core.specs.Reading.{leaf_at, all_at, times_at, fields_after_index, arms_at}
use Rattle.grammar_core.specs.Reading.{elements_at, with_children, Refusal}
use Rattle.grammar_core.specs.Ways.{way_of, read_by}
use Rattle.outcome_core.specs.Met.{met_layout}
use Rattle.outcome_core.proofs.Mets.{value_met}
use Rattle.grammar_core.specs.Preorder.{Entry}
use Rattle.grammar_core.specs.Reading.{leaf_own}
use Rattle.outcome_core.specs.Reported.{entry, shown, arm_own, arms_own, length_own}
use Rattle.outcome_core.specs.Reported.{own_at, Reported, reported, added, ending, after, then}
use Rattle.outcome_core.specs.Reported.{all_reported, times_reported, own_reported, reported_at}
use Rattle.outcome_core.specs.Reported.{Agrees}
use Rattle.grammar_core.specs.Preorder as head

-- the nodes of two lists without their types are those of one and then of the other
pub shown-append : (xs ys : List Entry) → shown (xs ++ ys) ≡ shown xs ++ shown ys
shown-append [] ys = refl
shown-append (x ∷ xs) ys = ap (λ (hs : List Head). x.head ∷ hs) (shown-append xs ys)

-- to put nodes in front twice is to put them in front together
pub after-after : (xs ys : List Entry) (y : Reported) → after xs (after ys y) ≡ after (xs ++ ys) y
after-after xs ys (reported zs end) = rw append_assoc refl

-- to put no nodes in front changes nothing
pub after-nil : (y : Reported) → after [] y ≡ y
after-nil (reported xs end) = refl

-- nodes before the first of two readings stand before both
pub then-after : (xs : List Entry) (y : Reported) (f : List ℕ → Reported) →
    then (after xs y) f ≡ after xs (then y f)
then-after xs (reported ys (Ok rest)) f = sym (after-after xs ys (f rest))
then-after xs (reported ys (Err e)) f = refl

-- three readings, one after the other, may be grouped either way
pub then-then : (y : Reported) (f g : List ℕ → Reported) →
    then (then y f) g ≡ then y (λ b. then (f b) g)
then-then (reported ys (Err e)) f g = refl
then-then (reported ys (Ok rest)) f g = then-after ys (f rest) g

-- to read nothing after a reading changes nothing
pub then-end : (y : Reported) → then y (λ b. reported [] (Ok b)) ≡ y
then-end (reported ys (Err e)) = refl
then-end (reported ys (Ok rest)) = rw append-nil refl

-- the same of a list of values
abbrev pub AllAgree : (ℕ → Type 0) → Read Refusal Trees → Reported → Type 0
AllAgree P (Ok x) y = (shown (added y) ≡ all_preorder x.0) × (ending y ≡ Ok x.1) × P (how_many x.0)
AllAgree P (Err e) y = (met : List ℕ) × (ending y ≡ Err (e, met))

abbrev pub ChildAgrees : (ℕ → List ℕ → Read Refusal Tree) → (ℕ → List ℕ → Reported) → Type 0
ChildAgrees child one = (t : ℕ) (b : List ℕ) → Agrees (child t b) (one t b)

-- one value and then others: both readings agree on the list if they agree on each
and_agrees : (P Q : ℕ → Type 0) (first : Read Refusal Tree) (y : Reported) → Agrees first y →
    (others : List ℕ → Read Refusal Trees) (f : List ℕ → Reported) →
    ((b : List ℕ) → AllAgree P (others b) (f b)) → ((n : ℕ) → P n → Q (suc n)) →
    AllAgree Q (first >>= λ x. others x.1 >>= λ z. Ok (and x.0 z.0, z.1)) (then y f)
and_agrees P Q (Err e) (reported xs end) h others f k s = (h.0, rw h.1 refl)
and_agrees P Q (Ok x) (reported xs end) h others f k s =
    rw h.1 (more (others x.1) (f x.1) (k x.1)) where
      more : (read : Read Refusal Trees) (y : Reported) → AllAgree P read y →
          AllAgree Q (read >>= λ z. Ok (and x.0 z.0, z.1)) (after xs y)
      more (Err e) (reported ys end') k = k
      more (Ok z) (reported ys end') k =
          (shown-append xs ys ∙ rw (h.0, k.0) refl, k.1, s (how_many z.0) k.2)

-- values of these types are read node by node as they are read whole, if each is
all_agree : (child : ℕ → List ℕ → Read Refusal Tree) (one : ℕ → List ℕ → Reported) →
    ChildAgrees child one → (ts : List ℕ) (b : List ℕ) →
    AllAgree (λ n. n ≡ length ts) (all_at child ts b) (all_reported one ts b)
all_agree child one h [] b = (refl, refl, refl)
all_agree child one h (t ∷ ts) b =
    and_agrees (λ n. n ≡ length ts) (λ n. n ≡ suc (length ts)) (child t b) (one t b) (h t b)
    (all_at child ts) (all_reported one ts) (all_agree child one h ts)
    (λ n e. ap (λ (k : ℕ). suc k) e)

-- the same for values of one type
times_agree : (child : ℕ → List ℕ → Read Refusal Tree) (one : ℕ → List ℕ → Reported) →
    ChildAgrees child one → (n t : ℕ) (b : List ℕ) →
    AllAgree (λ k. k ≡ n) (times_at child n t b) (times_reported one n t b)
times_agree child one h zero t b = (refl, refl, refl)
times_agree child one h (suc n) t b =
    and_agrees (λ k. k ≡ n) (λ k. k ≡ suc n) (child t b) (one t b) (h t b) (times_at child n t)
    (times_reported one n t) (times_agree child one h n t) (λ k e. ap (λ (k : ℕ). suc k) e)

-- a node over its children is read node by node as it is read whole
with_agrees : (P : ℕ → Type 0) (b : Branch) (t : ℕ) (h : Head) (read : Read Refusal Trees)
    (y : Reported) → AllAgree P read y →
    ((vs : Trees) → P (how_many vs) → preorder (tree.branch b vs) ≡ h ∷ all_preorder vs) →
    Agrees (with_children b read) (after (entry t h ∷ []) y)
with_agrees P b t h (Err e) (reported xs end) k f = k
with_agrees P b t h (Ok x) (reported xs end) k f =
    (ap (λ (ns : List Head). h ∷ ns) k.0 ∙ sym (f x.0 k.2), k.1)

-- a value without children is its one node
abbrev pub IsLeafTree : Tree → Type 0
IsLeafTree (tree.leaf l) = Unit {0}
IsLeafTree (tree.branch k vs) = ⊥

abbrev pub IsLeafRead : Read Refusal Tree → Type 0
IsLeafRead (Ok x) = IsLeafTree x.0
IsLeafRead (Err e) = Unit {0}

-- a tree without children has its one node alone in preorder
leaf_lone : (v : Tree) → IsLeafTree v → head_of v ∷ [] ≡ preorder v
leaf_lone (tree.branch k vs) h = absurd h
leaf_lone (tree.leaf l) h = refl

-- a leaf that is read as a value has no children
as_leaf_reads : (read : Read Reason Leaf) → IsLeafRead (as_leaf read)
as_leaf_reads (Ok x) = tt
as_leaf_reads (Err e) = tt

-- what is read of a value without parts is a leaf
pub reads_leaf : (p : Plain) (b : List ℕ) → IsLeafRead (leaf_at p b)
reads_leaf p b = as_leaf_reads (read_by (way_of p) b)

-- a leaf is read node by node as it is read whole
leaf_agrees : (one : ℕ → List ℕ → Reported) (t : ℕ) (b : List ℕ) (read : Read Refusal Tree) →
    IsLeafRead read → Agrees read (own_reported one t b (leaf_own read))
leaf_agrees one t b (Ok x) h = (leaf_lone x.0 h, refl)
leaf_agrees one t b (Err e) h = (b, refl)

-- an arm after its index is read node by node as it is read whole, if its fields are
arm_agrees : (child : ℕ → List ℕ → Read Refusal Tree) (one : ℕ → List ℕ → Reported) →
    ChildAgrees child one → (t : ℕ) (at b : List ℕ) (found : Option (ℕ × Arm)) →
    Agrees (fields_after_index child at found b) (own_reported one t at (arm_own at found b))
arm_agrees child one h t at b None = (at, refl)
arm_agrees child one h t at b (Some a) =
    with_agrees (λ n. n ≡ length (field_types a.1.fields)) (tree.arm a.0) t
    (head.branch (tree.arm a.0) (length (field_types a.1.fields))) _ _
    (all_agree child one h (field_types a.1.fields) b) (λ vs e. rw e refl)

-- a variant is read node by node as it is read whole, if the fields of its arms are
arms_agree : (child : ℕ → List ℕ → Read Refusal Tree) (one : ℕ → List ℕ → Reported) →
    ChildAgrees child one → (t : ℕ) (arms : List Arm) (b : List ℕ) →
    Agrees (arms_at child arms b) (own_reported one t b (arms_own arms b))
arms_agree child one h t arms [] = ([], refl)
arms_agree child one h t arms (i ∷ b) = arm_agrees child one h t (i ∷ b) b (arm_of arms i)

-- a sequence is read node by node as it is read whole, if its elements are
elements_agree : (child : ℕ → List ℕ → Read Refusal Tree) (one : ℕ → List ℕ → Reported) →
    ChildAgrees child one → (t u : ℕ) (b : List ℕ) (read : Read Reason ℕ) →
    Agrees (elements_at child u read) (own_reported one t b (length_own u read))
elements_agree child one h t u b (Err e) = (b, refl)
elements_agree child one h t u b (Ok n) =
    with_agrees (λ k. k ≡ n.0) tree.list t (head.branch tree.list n.0) _ _
    (times_agree child one h n.0 u n.1) (λ vs e. rw e refl)

-- by every layout both readings agree, if they do for each part
layout_agrees : (child : ℕ → List ℕ → Read Refusal Tree) (one : ℕ → List ℕ → Reported) →
    ChildAgrees child one → (t : ℕ) (f : Layout) (b : List ℕ) →
    Agrees (layout_at child f b) (own_reported one t b (own_at f b))
unfolding layout_at own_at
layout_agrees child one h t (layout.fields ts) b =
    with_agrees (λ n. n ≡ length ts) tree.fields t (head.branch tree.fields (length ts)) _ _
    (all_agree child one h ts b) (λ vs e. rw e refl)
layout_agrees child one h t (layout.arms arms) b = arms_agree child one h t arms b
layout_agrees child one h t (layout.sequence u) b =
    elements_agree child one h t u b (compact_at target.U32 b)
layout_agrees child one h t (layout.array n u) b =
    with_agrees (λ k. k ≡ n) tree.list t (head.branch tree.list n) _ _
    (times_agree child one h n u b) (λ vs e. rw e refl)
layout_agrees child one h t layout.unknown b =
    leaf_agrees one t b (layout_at child layout.unknown b) tt
layout_agrees child one h t layout.bit_sequence b =
    leaf_agrees one t b (layout_at child layout.bit_sequence b) tt
layout_agrees child one h t layout.bad_compact b =
    leaf_agrees one t b (layout_at child layout.bad_compact b) tt
layout_agrees child one h t (layout.plain p) b = leaf_agrees one t b (leaf_at p b) (reads_leaf p b)

-- both readings agree with one level more of room, if they do with less
room_agrees : (r : List TypeInfo) (room t : ℕ) (b : List ℕ) →
    ((u : ℕ) (c : List ℕ) → Agrees (value_at r room u c) (reported_at r room u c)) →
    Agrees (value_at r (suc room) t b) (reported_at r (suc room) t b)
unfolding reported_at
room_agrees r room t b h =
    rw (value_met r room t b)
    (layout_agrees (value_at r room) (reported_at r room) h t (met_layout r t) b)

-- where there is no room, both readings refuse the value as too deep
no_room_agrees : (r : List TypeInfo) (t : ℕ) (b : List ℕ) →
    Agrees (value_at r zero t b) (reported_at r zero t b)
unfolding value_at reported_at
no_room_agrees r t b = (b, refl)

-- a value is read node by node as it is read whole
pub reported_agrees : (r : List TypeInfo) (room t : ℕ) (b : List ℕ) →
    Agrees (value_at r room t b) (reported_at r room t b)
reported_agrees r zero t b = no_room_agrees r t b
reported_agrees r (suc room) t b = room_agrees r room t b (reported_agrees r room)

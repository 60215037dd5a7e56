-- What is read is a value, and its bytes stood on the front.
use Rattle.std.proofs.Common.{◌≡◌, ℕ, zero, suc, ◌≤◌, List, [], ◌∷◌, ◌++◌, length, Option, Some}
use Rattle.std.proofs.Common.{None, Ok, Err, refl, sym, ap, ◌∙◌, arith, inl, inr}
use Rattle.std.proofs.lemmas.List.{append-nil}
use Rattle.scale_core.specs.Compact.{IsCompact}
use Rattle.scale_core.specs.Read.{Read, compact_at, bytes_at}
use Rattle.scale_core.specs.declared.compact.Target.TheVariants as target
use Rattle.scale_core.specs.declared.fault.Reason.{Reason}
use Rattle.scale_core.proofs.Results.{Takes, cond_takes, then_takes, bind_takes, bytes_takes}
use Rattle.scale_core.proofs.Results.{compact_takes}
use Rattle.types_core.specs.declared.definition.Arm.{Arm}
use Rattle.types_core.specs.declared.type_info.TypeInfo.{TypeInfo}
use Rattle.graph_core.specs.Types.{field_types}
use Rattle.widths_core.specs.Arms.{arm_of}
use Rattle.widths_core.specs.Classes.{is_finite}
use Rattle.widths_core.specs.Layouts.{Layout, layout}
use Rattle.widths_core.specs.Layouts as layout
use Rattle.grammar_core.specs.Runs.{SpellsRun, run_leaf, run_at}
use Rattle.grammar_core.proofs.Runs.{run_takes}
use Rattle.grammar_core.specs.Tree.{Leaf, Branch, Tree, leaf, branch, fields, arm, list, Trees}
use Rattle.grammar_core.specs.Tree.{how_many, levels, most_levels}
use Rattle.grammar_core.specs.Ways.{Way, of_no_byte, of_width, of_compact, of_run, way_of, read_by}
use Rattle.grammar_core.specs.Ways.{SpelledBy, leaf_of, leaf_by, judged_leaf}
use Rattle.grammar_core.specs.Grammar.{Val, Vals, Each}
use Rattle.grammar_core.specs.Reading.{value_at, layout_at, all_at, times_at, fields_after_index}
use Rattle.grammar_core.specs.Reading.{arms_at, elements_at, as_leaf, with_children, Refusal}

-- a leaf that is made of what was read stood on the front where that did
leaf_of_takes : {X : Type 0} (P : X → List ℕ → Type 0) (Q : Leaf → List ℕ → Type 0)
    (make : X → Leaf) (b : List ℕ) (read : Read Reason X) → Takes P b read →
    ((x : X) (c : List ℕ) → P x c → Q (make x) c) → Takes Q b (leaf_of make read)
leaf_of_takes P Q make b (Ok x) h f = (h.0, h.1, f x.0 h.0 h.2)
leaf_of_takes P Q make b (Err e) h f = tt

-- a leaf that is made of so many bytes on the front stood there, and they are its bytes
leaf_by_takes : (k : ℕ) (make : List ℕ → Leaf) (fault : List ℕ → Option Reason) (b : List ℕ)
    (read : Read Reason (List ℕ)) → Takes (λ x c. (c ≡ x) × (length c ≡ k)) b read →
    Takes (SpelledBy (of_width k make fault)) b (leaf_by b make fault read)
leaf_by_takes k make fault b (Err e) h = tt
leaf_by_takes k make fault b (Ok x) h = by (fault x.0) refl where
  by : (f : Option Reason) → fault x.0 ≡ f →
      Takes (SpelledBy (of_width k make fault)) b (judged_leaf b (make x.0) x.1 f)
  by None e = (h.0, h.1, (h.2.1, ap make (sym h.2.0), ap fault h.2.0 ∙ e))
  by (Some r) e = tt

-- what is read in each way stood on the front, in the bytes that spell it
way_takes : (w : Way) (b : List ℕ) → Takes (SpelledBy w) b (read_by w b)
way_takes (of_no_byte l) b = ([], refl, (refl, refl))
way_takes (of_width k make fault) b =
    leaf_by_takes k make fault b (bytes_at k b) (bytes_takes k b)
way_takes (of_compact m make) b = leaf_of_takes (IsCompact m) (SpelledBy (of_compact m make)) make b
    (compact_at m b) (compact_takes m b) (λ n c is. (n, refl, is))
way_takes (of_run k) b = leaf_of_takes (λ x c. SpellsRun k x.0 x.1 c) (SpelledBy (of_run k))
    (run_leaf k) b (run_at k b) (run_takes k b) (λ x c is. (x, refl, is))

-- a leaf that is read stood on the front as a value
as_leaf_takes : (P : Leaf → List ℕ → Type 0) (Q : Tree → List ℕ → Type 0) (b : List ℕ)
    (read : Read Reason Leaf) → Takes P b read →
    ((l : Leaf) (c : List ℕ) → P l c → Q (leaf l) c) → Takes Q b (as_leaf read)
as_leaf_takes P Q b (Ok x) h f = (h.0, h.1, f x.0 h.0 h.2)
as_leaf_takes P Q b (Err e) h f = tt

-- a value with parts that is read stood on the front where its parts did
with_children_takes : (P : Trees → List ℕ → Type 0) (Q : Tree → List ℕ → Type 0) (k : Branch)
    (b : List ℕ) (read : Read Refusal Trees) → Takes P b read →
    ((x : Trees) (c : List ℕ) → P x c → Q (branch k x) c) → Takes Q b (with_children k read)
with_children_takes P Q k b (Ok x) h f = (h.0, h.1, f x.0 h.0 h.2)
with_children_takes P Q k b (Err e) h f = tt

-- a value with room for so many levels, a list of them, and some of one type
abbrev One : List TypeInfo → ℕ → ℕ → Tree → List ℕ → Type 0
One r room t v c = Val r t v c × (levels v ≤ room)

abbrev Some_of : List TypeInfo → ℕ → List ℕ → Trees → List ℕ → Type 0
Some_of r room ts vs c = Vals r ts vs c × (most_levels vs ≤ room)

abbrev Times : List TypeInfo → ℕ → ℕ → ℕ → Trees → List ℕ → Type 0
Times r room n t vs c = Each r t vs c × (how_many vs ≡ n) × (most_levels vs ≤ room)

abbrev ChildTakes : List TypeInfo → ℕ → (ℕ → List ℕ → Read Refusal Tree) → Type 0
ChildTakes r room child = (t : ℕ) (b : List ℕ) → Takes (One r room t) b (child t b)

-- values of these types that are read stood on the front, where each child that is read did
all_takes : (r : List TypeInfo) (room : ℕ) (child : ℕ → List ℕ → Read Refusal Tree) →
    ChildTakes r room child → (ts : List ℕ) (b : List ℕ) →
    Takes (Some_of r room ts) b (all_at child ts b)
unfolding Val
all_takes r room child h [] b = ([], refl, (refl, omega arith))
all_takes r room child h (t ∷ ts) b =
    bind_takes (One r room t) (Some_of r room (t ∷ ts)) b (child t b) _ (h t b) (λ v c val.
    bind_takes (Some_of r room ts) (λ vs d. Some_of r room (t ∷ ts) vs (c ++ d)) v.1
    (all_at child ts v.1) _ (all_takes r room child h ts v.1) (λ vs d vals.
    ([], refl, ((c, d, rw append-nil refl, val.0, vals.0), omega arith))))

-- so many values of one type that are read stood on the front, where each child that is read did
times_takes : (r : List TypeInfo) (room : ℕ) (child : ℕ → List ℕ → Read Refusal Tree) →
    ChildTakes r room child → (n t : ℕ) (b : List ℕ) →
    Takes (Times r room n t) b (times_at child n t b)
unfolding Val
times_takes r room child h zero t b = ([], refl, (refl, refl, omega arith))
times_takes r room child h (suc n) t b =
    bind_takes (One r room t) (Times r room (suc n) t) b (child t b) _ (h t b) (λ v c val.
    bind_takes (Times r room n t) (λ vs d. Times r room (suc n) t vs (c ++ d)) v.1
    (times_at child n t v.1) _ (times_takes r room child h n t v.1) (λ vs d vals. (
      [],
      refl,
      (
        (c, d, rw append-nil refl, val.0, vals.0),
        ap (λ (k : ℕ). suc k) vals.1,
        omega arith,
      ),
    )))

-- the fields of the arm found for an index stood on the front after it, as a value of the variant
arm_takes : (r : List TypeInfo) (room t : ℕ) (child : ℕ → List ℕ → Read Refusal Tree) →
    ChildTakes r room child → (arms : List Arm) → layout r t ≡ layout.arms arms →
    (i : ℕ) (b : List ℕ) (found : Option (ℕ × Arm)) → arm_of arms i ≡ found →
    Takes (One r (suc room) t) (i ∷ b) (fields_after_index child (i ∷ b) found b)
unfolding Val
arm_takes r room t child h arms f i b None e = tt
arm_takes r room t child h arms f i b (Some a) e =
    then_takes (One r (suc room) t) (i ∷ b) (i ∷ []) b _ refl
    (with_children_takes (Some_of r room (field_types a.1.fields))
    (λ v d. One r (suc room) t v (i ∷ d)) (arm a.0) b (all_at child (field_types a.1.fields) b)
    (all_takes r room child h (field_types a.1.fields) b) (λ vs c vals.
    ((arms, i, a.1, c, f, e, refl, vals.0), omega arith)))

-- a value of an arm that is read stood on the front, after its index, where each child did
arms_takes : (r : List TypeInfo) (room t : ℕ) (child : ℕ → List ℕ → Read Refusal Tree) →
    ChildTakes r room child → (arms : List Arm) → layout r t ≡ layout.arms arms → (b : List ℕ) →
    Takes (One r (suc room) t) b (arms_at child arms b)
arms_takes r room t child h arms f [] = tt
arms_takes r room t child h arms f (i ∷ b) =
    arm_takes r room t child h arms f i b (arm_of arms i) refl

-- elements that are read after a length stood on the front with it, where each child did
elements_takes : (r : List TypeInfo) (room t u : ℕ) (child : ℕ → List ℕ → Read Refusal Tree) →
    ChildTakes r room child → layout r t ≡ layout.sequence u → (b : List ℕ) (read : Read Reason ℕ) →
    Takes (IsCompact target.U32) b read → Takes (One r (suc room) t) b (elements_at child u read)
unfolding Val
elements_takes r room t u child h f b (Err e) k = tt
elements_takes r room t u child h f b (Ok n) k = then_takes (One r (suc room) t) b k.0 n.1 _ k.1
    (with_children_takes (Times r room n.0 u) (λ v d. One r (suc room) t v (k.0 ++ d)) list n.1
    (times_at child n.0 u n.1) (times_takes r room child h n.0 u n.1) (λ vs c vals.
    (inr (u, k.0, c, f, rw vals.1 k.2, refl, vals.0), omega arith)))

-- a value that is read by its type's layout stood on the front, where each child that is read did
layout_takes : (r : List TypeInfo) (room t : ℕ) (child : ℕ → List ℕ → Read Refusal Tree) →
    ChildTakes r room child → (f : Layout) → layout r t ≡ f → (b : List ℕ) →
    Takes (One r (suc room) t) b (layout_at child f b)
unfolding Val layout_at
layout_takes r room t child h layout.unknown e b = tt
layout_takes r room t child h layout.bit_sequence e b = tt
layout_takes r room t child h layout.bad_compact e b = tt
layout_takes r room t child h (layout.plain p) e b =
    as_leaf_takes (SpelledBy (way_of p)) (One r (suc room) t) b (read_by (way_of p) b)
    (way_takes (way_of p) b) (λ l c is. ((p, e, is), omega arith))
layout_takes r room t child h (layout.fields ts) e b =
    with_children_takes (Some_of r room ts) (One r (suc room) t) fields b (all_at child ts b)
    (all_takes r room child h ts b) (λ vs c vals. ((ts, e, vals.0), omega arith))
layout_takes r room t child h (layout.arms arms) e b = arms_takes r room t child h arms e b
layout_takes r room t child h (layout.sequence u) e b =
    elements_takes r room t u child h e b (compact_at target.U32 b) (compact_takes target.U32 b)
layout_takes r room t child h (layout.array n u) e b =
    with_children_takes (Times r room n u) (One r (suc room) t) list b (times_at child n u b)
    (times_takes r room child h n u b) (λ vs c vals. (inl (n, u, e, vals.1, vals.0), omega arith))

-- a value that is read stood on the front, and has room for its levels
pub value_takes : (r : List TypeInfo) (room t : ℕ) (b : List ℕ) →
    Takes (One r room t) b (value_at r room t b)
unfolding value_at
value_takes r zero t b = tt
value_takes r (suc room) t b =
    cond_takes (One r (suc room) t) b (is_finite r t) _ _
    (λ e. layout_takes r room t (value_at r room) (λ u c. value_takes r room u c) (layout r t) refl
    b) (λ e. tt)

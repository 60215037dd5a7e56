-- More bytes after the input change no value and no fault but a missing end.
use Rattle.std.proofs.Common.{ℕ, zero, suc, List, [], ◌∷◌, ◌++◌, Option, Some, None, Ok, Err, refl}
use Rattle.std.proofs.Common.{ap}
use Rattle.scale_core.specs.Read.{Read}
use Rattle.scale_core.specs.declared.compact.Target.TheVariants as target
use Rattle.scale_core.specs.declared.fault.Reason.{Reason}
use Rattle.scale_core.specs.declared.fault.Reason.TheVariants as reasons
use Rattle.scale_core.proofs.Results.{Extends, bind_extends, cond_extends, bytes_extends}
use Rattle.scale_core.proofs.Results.{compact_extends}
use Rattle.types_core.specs.declared.definition.Arm.{Arm}
use Rattle.types_core.specs.declared.type_info.TypeInfo.{TypeInfo}
use Rattle.graph_core.specs.Types.{field_types}
use Rattle.widths_core.specs.Arms.{arm_of}
use Rattle.widths_core.specs.Classes.{is_finite}
use Rattle.widths_core.specs.Layouts.{Layout, layout}
use Rattle.widths_core.specs.Layouts as layout
use Rattle.grammar_core.specs.Runs.{run_leaf}
use Rattle.grammar_core.proofs.Runs.{run_extends}
use Rattle.grammar_core.specs.Tree.{Leaf, Branch, Tree, fields, arm, list, Trees}
use Rattle.grammar_core.specs.Ways.{Way, of_no_byte, of_width, of_compact, of_run, way_of, read_by}
use Rattle.grammar_core.specs.Ways.{leaf_of, leaf_by, judged_leaf}
use Rattle.grammar_core.specs.Reading.{value_at, layout_at, all_at, times_at, fields_after_index}
use Rattle.grammar_core.specs.Reading.{arms_at, elements_at, as_leaf}
use Rattle.grammar_core.specs.Reading.{with_children, Refusal, basic, truncated}

-- a leaf that is made of what was read is read in the same way from a longer input where that is
leaf_of_extends : {X : Type 0} (make : X → Leaf) (more : List ℕ) (read read' : Read Reason X) →
    Extends reasons.Truncated more read read' →
    Extends reasons.Truncated more (leaf_of make read) (leaf_of make read')
leaf_of_extends make more (Ok x) s h = rw h refl
leaf_of_extends make more (Err e) s h = λ ne. rw (h ne) refl

-- the leaf that bytes are, or why they are refused, is the same in a longer input
judged_leaf_extends : (at rest more : List ℕ) (l : Leaf) (fault : Option Reason) →
    Extends reasons.Truncated more (judged_leaf at l rest fault)
    (judged_leaf (at ++ more) l (rest ++ more) fault)
judged_leaf_extends at rest more l None = refl
judged_leaf_extends at rest more l (Some e) = λ ne. refl

-- so many bytes are judged in the same way in a longer input where they are read alike
leaf_by_extends : (b more : List ℕ) (make : List ℕ → Leaf) (fault : List ℕ → Option Reason)
    (read read' : Read Reason (List ℕ)) → Extends reasons.Truncated more read read' →
    Extends reasons.Truncated more (leaf_by b make fault read)
    (leaf_by (b ++ more) make fault read')
leaf_by_extends b more make fault (Ok x) s h =
    rw h (judged_leaf_extends b x.1 more (make x.0) (fault x.0))
leaf_by_extends b more make fault (Err e) s h = λ ne. rw (h ne) refl

-- a leaf is read in each way alike from a longer input
way_extends : (w : Way) (b more : List ℕ) →
    Extends reasons.Truncated more (read_by w b) (read_by w (b ++ more))
way_extends (of_no_byte l) b more = refl
way_extends (of_width k make fault) b more =
    leaf_by_extends b more make fault _ _ (bytes_extends k b more)
way_extends (of_compact m make) b more = leaf_of_extends make more _ _ (compact_extends m b more)
way_extends (of_run k) b more = leaf_of_extends (run_leaf k) more _ _ (run_extends k b more)

-- a leaf is the same value in a longer input
as_leaf_extends : (more : List ℕ) (read read' : Read Reason Leaf) →
    Extends reasons.Truncated more read read' →
    Extends truncated more (as_leaf read) (as_leaf read')
as_leaf_extends more (Ok x) s h = rw h refl
as_leaf_extends more (Err e) s h = λ ne. rw (h (λ eq. ne (ap basic eq))) refl

-- a value with parts is read in the same way from a longer input where its parts are
with_children_extends : (k : Branch) (more : List ℕ) (read read' : Read Refusal Trees) →
    Extends truncated more read read' →
    Extends truncated more (with_children k read) (with_children k read')
with_children_extends k more (Ok x) s h = rw h refl
with_children_extends k more (Err e) s h = λ ne. rw (h ne) refl

abbrev ChildExtends : List ℕ → (ℕ → List ℕ → Read Refusal Tree) → Type 0
ChildExtends more child = (t : ℕ) (b : List ℕ) →
    Extends truncated more (child t b) (child t (b ++ more))

-- values of these types are read in the same way from a longer input where each child is
all_extends : (more : List ℕ) (child : ℕ → List ℕ → Read Refusal Tree) → ChildExtends more child →
    (ts : List ℕ) (b : List ℕ) →
    Extends truncated more (all_at child ts b) (all_at child ts (b ++ more))
all_extends more child h [] b = refl
all_extends more child h (t ∷ ts) b =
    bind_extends truncated more (child t b) (child t (b ++ more)) _ _ (h t b) (λ v.
    bind_extends truncated more (all_at child ts v.1) (all_at child ts (v.1 ++ more)) _ _
    (all_extends more child h ts v.1) (λ vs. refl))

-- so many values of one type are read in the same way from a longer input where each child is
times_extends : (more : List ℕ) (child : ℕ → List ℕ → Read Refusal Tree) → ChildExtends more child →
    (n t : ℕ) (b : List ℕ) →
    Extends truncated more (times_at child n t b) (times_at child n t (b ++ more))
times_extends more child h zero t b = refl
times_extends more child h (suc n) t b =
    bind_extends truncated more (child t b) (child t (b ++ more)) _ _ (h t b) (λ v.
    bind_extends truncated more (times_at child n t v.1) (times_at child n t (v.1 ++ more)) _ _
    (times_extends more child h n t v.1) (λ vs. refl))

-- the fields after an index are read in the same way from a longer input where each child is
arm_extends : (more : List ℕ) (child : ℕ → List ℕ → Read Refusal Tree) → ChildExtends more child →
    (at b : List ℕ) (found : Option (ℕ × Arm)) →
    Extends truncated more (fields_after_index child at found b)
    (fields_after_index child (at ++ more) found (b ++ more))
arm_extends more child h at b None = λ ne. refl
arm_extends more child h at b (Some a) =
    with_children_extends (arm a.0) more _ _ (all_extends more child h (field_types a.1.fields) b)

-- a value of an arm is read in the same way from a longer input where each child is
arms_extends : (more : List ℕ) (child : ℕ → List ℕ → Read Refusal Tree) → ChildExtends more child →
    (arms : List Arm) (b : List ℕ) →
    Extends truncated more (arms_at child arms b) (arms_at child arms (b ++ more))
arms_extends more child h arms [] = λ ne. absurd (ne refl)
arms_extends more child h arms (i ∷ b) = arm_extends more child h (i ∷ b) b (arm_of arms i)

-- elements after a length are read in the same way from a longer input where they and it are
elements_extends : (more : List ℕ) (child : ℕ → List ℕ → Read Refusal Tree) →
    ChildExtends more child → (t : ℕ) (read read' : Read Reason ℕ) →
    Extends reasons.Truncated more read read' →
    Extends truncated more (elements_at child t read) (elements_at child t read')
elements_extends more child h t (Err e) s k = λ ne. rw (k (λ eq. ne (ap basic eq))) refl
elements_extends more child h t (Ok n) s k =
    rw k (with_children_extends list more _ _ (times_extends more child h n.0 t n.1))

-- what any layout reads is read in the same way from a longer input where each child is
pub layout_extends : (more : List ℕ) (child : ℕ → List ℕ → Read Refusal Tree) →
    ChildExtends more child → (f : Layout) (b : List ℕ) →
    Extends truncated more (layout_at child f b) (layout_at child f (b ++ more))
unfolding layout_at
layout_extends more child h layout.unknown b = λ ne. refl
layout_extends more child h layout.bit_sequence b = λ ne. refl
layout_extends more child h layout.bad_compact b = λ ne. refl
layout_extends more child h (layout.plain p) b =
    as_leaf_extends more _ _ (way_extends (way_of p) b more)
layout_extends more child h (layout.fields ts) b =
    with_children_extends fields more _ _ (all_extends more child h ts b)
layout_extends more child h (layout.arms arms) b = arms_extends more child h arms b
layout_extends more child h (layout.sequence u) b =
    elements_extends more child h u _ _ (compact_extends target.U32 b more)
layout_extends more child h (layout.array n u) b =
    with_children_extends list more _ _ (times_extends more child h n u b)

-- a value is read, or refused other than for a cut, in the same way from a longer input
pub value_extends : (r : List TypeInfo) (room t : ℕ) (b more : List ℕ) →
    Extends truncated more (value_at r room t b) (value_at r room t (b ++ more))
unfolding value_at
value_extends r zero t b more = λ ne. refl
value_extends r (suc room) t b more =
    cond_extends truncated more (is_finite r t) _ _ _ _
    (layout_extends more (value_at r room) (λ u c. value_extends r room u c more) (layout r t) b)
    (λ ne. refl)

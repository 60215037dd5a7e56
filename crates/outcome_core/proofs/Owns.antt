-- A node's own bytes.
use Rattle.std.proofs.Common.{◌≡◌, ℕ, List, [], ◌∷◌, ◌++◌, Option, Some, None, Ok, Err, refl, ap}
use Rattle.std.proofs.Common.{◌≤◌, true, inl, inr}
use Rattle.scale_core.specs.Compact.{IsCompact}
use Rattle.scale_core.specs.Read.{Read, compact_at}
use Rattle.scale_core.specs.declared.compact.Target.TheVariants as target
use Rattle.scale_core.specs.declared.fault.Reason.{Reason}
use Rattle.scale_core.specs.declared.fault.Reason.TheVariants as reasons
use Rattle.scale_core.proofs.Results.{Extends, compact_extends, Takes, compact_takes}
use Rattle.scale_core.proofs.Again.{compact_again}
use Rattle.types_core.specs.declared.definition.Arm.{Arm}
use Rattle.types_core.specs.declared.type_info.TypeInfo.{TypeInfo}
use Rattle.widths_core.specs.Arms.{arm_of}
use Rattle.widths_core.specs.Classes.{is_finite}
use Rattle.widths_core.specs.Layouts.{Layout, layout}
use Rattle.widths_core.specs.Layouts as layout
use Rattle.grammar_core.specs.Tree.{Branch, Tree, Trees, levels}
use Rattle.grammar_core.specs.Grammar.{Val}
use Rattle.grammar_core.specs.Tree as tree
use Rattle.grammar_core.specs.Preorder as head
use Rattle.grammar_core.specs.Begun.{BranchOpens}
use Rattle.grammar_core.specs.Reading.{layout_at, leaf_at, part_at, with_children}
use Rattle.grammar_core.specs.Reading.{Refusal, basic, truncated}
use Rattle.grammar_core.proofs.Stable.{layout_extends}
use Rattle.outcome_core.specs.Met.{met_layout}
use Rattle.grammar_core.specs.Parts.{Part, how_many_left}
use Rattle.grammar_core.specs.Preorder.{Head}
use Rattle.grammar_core.specs.Reading.{Own, leaf_own}
use Rattle.outcome_core.specs.Reported.{arm_own, arms_own, length_own, shallow}
use Rattle.outcome_core.specs.Reported.{own_at}
use Rattle.outcome_core.proofs.Mets.{met_is, met_takes}
use Rattle.outcome_core.proofs.Reports.{IsLeafRead, reads_leaf}

-- a leaf's own bytes are read as before where more follow, if the leaf is
leaf_extends : (more : List ℕ) (read read' : Read Refusal Tree) →
    Extends truncated more read read' → Extends truncated more (leaf_own read) (leaf_own read')
leaf_extends more (Ok x) s h = rw h refl
leaf_extends more (Err e) s h = λ ne. rw (h ne) refl

-- a leaf of any layout is read as before where more bytes follow, unless it was cut
shallow_extends : (f : Layout) (b more : List ℕ) →
    Extends truncated more (leaf_own (layout_at shallow f b))
    (leaf_own (layout_at shallow f (b ++ more)))
shallow_extends f b more =
    leaf_extends more (layout_at shallow f b) (layout_at shallow f (b ++ more))
    (layout_extends more shallow (λ u c ne. refl) f b)

-- what an index says stays where more bytes follow
arm_own_extends : (more at b : List ℕ) (found : Option (ℕ × Arm)) →
    Extends truncated more (arm_own at found b) (arm_own (at ++ more) found (b ++ more))
arm_own_extends more at b None = λ ne. refl
arm_own_extends more at b (Some a) = refl

-- a variant's own bytes are read as before where more follow, unless the index was missing
arms_own_extends : (arms : List Arm) (b more : List ℕ) →
    Extends truncated more (arms_own arms b) (arms_own arms (b ++ more))
arms_own_extends arms [] more = λ ne. absurd (ne refl)
arms_own_extends arms (i ∷ b) more = arm_own_extends more (i ∷ b) b (arm_of arms i)

-- a sequence's own bytes are read as before where more follow, if its length is
length_own_extends : (t : ℕ) (more : List ℕ) (read read' : Read Reason ℕ) →
    Extends reasons.Truncated more read read' →
    Extends truncated more (length_own t read) (length_own t read')
length_own_extends t more (Ok x) s h = rw h refl
length_own_extends t more (Err e) s h = λ ne. rw (h (λ eq. ne (ap basic eq))) refl

-- more bytes change no node and no fault but a missing end
pub own_extends : (f : Layout) (b more : List ℕ) →
    Extends truncated more (own_at f b) (own_at f (b ++ more))
unfolding own_at
own_extends (layout.fields ts) b more = refl
own_extends (layout.arms arms) b more = arms_own_extends arms b more
own_extends (layout.sequence u) b more =
    length_own_extends u more (compact_at target.U32 b) (compact_at target.U32 (b ++ more))
    (compact_extends target.U32 b more)
own_extends (layout.array n u) b more = refl
own_extends layout.unknown b more = shallow_extends layout.unknown b more
own_extends layout.bit_sequence b more = shallow_extends layout.bit_sequence b more
own_extends layout.bad_compact b more = shallow_extends layout.bad_compact b more
own_extends (layout.plain p) b more = shallow_extends (layout.plain p) b more

-- these bytes are a node's own, whatever follows them
abbrev pub SpellsNode : List TypeInfo → ℕ → Head × Option Part → List ℕ → Type 0
SpellsNode r t x c = (more : List ℕ) → own_at (met_layout r t) (c ++ more) ≡ Ok (x, more)

-- ---- what they open

-- by its own bytes a node is a leaf of its type, or a branch that opens in the layout of its type
abbrev pub IsOpened : List TypeInfo → ℕ → List ℕ → Own → Type 0
IsOpened r t b (Ok ((head.branch k n, Some p), rest)) = (c : List ℕ) × (is_finite r t ≡ true)
    × BranchOpens (layout r t) k c p × (n ≡ how_many_left p) × (b ≡ c ++ rest)
IsOpened r t b (Ok ((head.leaf l, None), rest)) = (c : List ℕ) × Val r t (tree.leaf l) c
    × (b ≡ c ++ rest)
IsOpened r t b (Ok x) = ⊥
IsOpened r t b (Err e) = Unit {0}

-- a leaf that is read opens nothing
leaf_opened : (r : List TypeInfo) (t : ℕ) (b : List ℕ) (read : Read Refusal Tree) →
    Takes (λ v c. Val r t v c × (levels v ≤ 1)) b read → IsLeafRead read →
    IsOpened r t b (leaf_own read)
leaf_opened r t b (Ok (tree.leaf l, rest)) k h = (k.0, k.2.0, k.1)
leaf_opened r t b (Ok (tree.branch kind vs, rest)) k h = absurd h
leaf_opened r t b (Err e) k h = tt

-- an arm that is found for an index opens its fields
arm_opened : (r : List TypeInfo) (t : ℕ) (arms : List Arm) (i : ℕ) (b : List ℕ)
    (found : Option (ℕ × Arm)) → (is_finite r t ≡ true) × (layout r t ≡ layout.arms arms) →
    arm_of arms i ≡ found → IsOpened r t (i ∷ b) (arm_own (i ∷ b) found b)
arm_opened r t arms i b None m e = tt
arm_opened r t arms i b (Some a) m e =
    (i ∷ [], m.0, (arms, i, a.1, m.1, e, refl, refl), refl, refl)

-- a variant opens the fields of one of its arms
arms_opened : (r : List TypeInfo) (t : ℕ) (arms : List Arm) (b : List ℕ) →
    (is_finite r t ≡ true) × (layout r t ≡ layout.arms arms) → IsOpened r t b (arms_own arms b)
arms_opened r t arms [] m = tt
arms_opened r t arms (i ∷ b) m = arm_opened r t arms i b (arm_of arms i) m refl

-- a sequence opens as many elements as its length says
length_opened : (r : List TypeInfo) (t u : ℕ) (b : List ℕ) (read : Read Reason ℕ) →
    (is_finite r t ≡ true) × (layout r t ≡ layout.sequence u) →
    Takes (IsCompact target.U32) b read → IsOpened r t b (length_own u read)
length_opened r t u b (Ok n) m h = (h.0, m.0, (n.0, u, inr (m.1, h.2), refl), refl, h.1)
length_opened r t u b (Err e) m h = tt

-- what a node's own bytes open is by the layout that is met
pub own_opened : (r : List TypeInfo) (t : ℕ) (f : Layout) (b : List ℕ) → met_layout r t ≡ f →
    IsOpened r t b (own_at f b)
unfolding own_at layout_at
own_opened r t (layout.fields ts) b e = let m = met_is r t (layout.fields ts) (λ no. absurd cc) e in
    ([], m.0, (ts, m.1, refl, refl), refl, refl)
own_opened r t (layout.arms arms) b e =
    arms_opened r t arms b (met_is r t (layout.arms arms) (λ no. absurd cc) e)
own_opened r t (layout.sequence u) b e =
    length_opened r t u b (compact_at target.U32 b)
    (met_is r t (layout.sequence u) (λ no. absurd cc) e) (compact_takes target.U32 b)
own_opened r t (layout.array n u) b e =
    let m = met_is r t (layout.array n u) (λ no. absurd cc) e in
    ([], m.0, (n, u, inl (m.1, refl), refl), refl, refl)
own_opened r t layout.unknown b e = tt
own_opened r t layout.bit_sequence b e = tt
own_opened r t layout.bad_compact b e = tt
own_opened r t (layout.plain p) b e =
    leaf_opened r t b (leaf_at p b) (met_takes r t (layout.plain p) e b) (reads_leaf p b)

-- where a branch opens, its own bytes are read so, and its parts are read after them
pub opened_again : (child : ℕ → List ℕ → Read Refusal Tree) (f : Layout) (k : Branch) (c : List ℕ)
    (p : Part) (b : List ℕ) → BranchOpens f k c p →
    (own_at f (c ++ b) ≡ Ok ((head.branch k (how_many_left p), Some p), b))
    × (layout_at child f (c ++ b) ≡ with_children k (part_at child p b))
unfolding own_at layout_at
opened_again child f tree.fields c p b h = rw (h.1, h.2, h.3) (refl, refl)
opened_again child f (tree.arm q) c p b h = rw (h.3, h.5, h.6, h.4) (refl, refl)
opened_again child f tree.list c p b h = elim h.2 [
  | inl a ↦ rw (a.0, a.1, h.3) (refl, refl)
  | inr s ↦ rw (s.0, h.3, compact_again target.U32 h.0 c b s.1) (refl, refl)
]

-- The fault of a node's own bytes lies in the input.
use Rattle.std.proofs.Common.{ℕ, ◌≤◌, List, [], ◌∷◌, length, Option, Some, None, Ok, Err, arith}
use Rattle.scale_core.specs.Read.{Read, compact_at}
use Rattle.scale_core.specs.declared.compact.Target.TheVariants as target
use Rattle.scale_core.specs.declared.fault.Reason.{Reason}
use Rattle.types_core.specs.declared.definition.Arm.{Arm}
use Rattle.widths_core.specs.Arms.{arm_of}
use Rattle.widths_core.specs.Layouts.{Layout}
use Rattle.widths_core.specs.Layouts as layout
use Rattle.grammar_core.specs.Tree.{Tree}
use Rattle.grammar_core.specs.Reading.{Refusal, basic, layout_at, leaf_at, leaf_own}
use Rattle.outcome_core.specs.Reported.{arm_own, arms_own, length_own, own_at}
use Rattle.outcome_core.specs.Taken.{compact_taken, leaf_taken}
use Rattle.outcome_core.proofs.ByFault.{ReportedWithin, compact_reported, plain_reported}

-- what is left is no longer than the input
abbrev pub Within : {E X : Type 0} → List ℕ → Read E X → Type 0
Within b (Ok x) = Unit {0}
Within b (Err e) = length e.1 ≤ length b

-- a fault of which it is known what it takes lies within the input
reported_within : {E X : Type 0} (m : E → Refusal) (b : List ℕ) (k : ℕ) (read : Read E X) →
    ReportedWithin m b k read → Within b read
reported_within m b k (Ok x) h = tt
reported_within m b k (Err e) h = h.0

-- the fault of a leaf's own bytes lies within the input where that of the leaf does
leaf_within : (b : List ℕ) (read : Read Refusal Tree) → Within b read → Within b (leaf_own read)
leaf_within b (Ok x) h = tt
leaf_within b (Err e) h = h

-- the fault of an unknown index lies at the index
arm_within : (at b : List ℕ) (found : Option (ℕ × Arm)) → Within at (arm_own at found b)
arm_within at b None = omega arith
arm_within at b (Some a) = tt

-- the fault of a variant's own bytes lies within the input
arms_within : (arms : List Arm) (b : List ℕ) → Within b (arms_own arms b)
arms_within arms [] = omega arith
arms_within arms (i ∷ b) = arm_within (i ∷ b) b (arm_of arms i)

-- the fault of a sequence's own bytes lies within the input where that of its length does
length_within : (t : ℕ) (b : List ℕ) (read : Read Reason ℕ) → Within b read →
    Within b (length_own t read)
length_within t b (Ok n) h = tt
length_within t b (Err e) h = h

-- the fault of any node's own bytes lies within the input
pub own_within : (f : Layout) (b : List ℕ) → Within b (own_at f b)
unfolding own_at layout_at
own_within (layout.fields ts) b = tt
own_within (layout.arms arms) b = arms_within arms b
own_within (layout.sequence u) b =
    length_within u b (compact_at target.U32 b)
    (reported_within basic b (compact_taken target.U32 b) (compact_at target.U32 b)
    (compact_reported target.U32 b))
own_within (layout.array n u) b = tt
own_within layout.unknown b = omega arith
own_within layout.bit_sequence b = omega arith
own_within layout.bad_compact b = omega arith
own_within (layout.plain p) b =
    leaf_within b (leaf_at p b) (reported_within (λ e. e) b (leaf_taken p b) (leaf_at p b)
    (plain_reported p b))

-- Reading a value node by node: which nodes are added in preorder before the reading ends, and how
-- it ends.
use Rattle.std.specs.Prelude.{◌≡◌, ℕ, zero, suc, List, [], ◌∷◌, ◌++◌, length, map, Option, Some}
use Rattle.std.specs.Prelude.{None, Result, Ok, Err}
use Rattle.scale_core.specs.Read.{Read, compact_at}
use Rattle.scale_core.specs.declared.compact.Target.TheVariants as target
use Rattle.scale_core.specs.declared.fault.Reason.{Reason}
use Rattle.types_core.specs.declared.definition.Arm.{Arm}
use Rattle.types_core.specs.declared.type_info.TypeInfo.{TypeInfo}
use Rattle.graph_core.specs.Types.{field_types}
use Rattle.widths_core.specs.Arms.{arm_of}
use Rattle.widths_core.specs.Layouts.{Layout}
use Rattle.widths_core.specs.Layouts as layout
use Rattle.grammar_core.specs.Tree.{Tree}
use Rattle.grammar_core.specs.Preorder.{Entry}
use Rattle.grammar_core.specs.Preorder.{Head, head_of, preorder}
use Rattle.grammar_core.specs.Preorder as head
use Rattle.grammar_core.specs.Tree as tree
use Rattle.grammar_core.specs.Parts.{Part, each, times}
use Rattle.outcome_core.specs.Met.{met_layout}
use Rattle.grammar_core.specs.Reading.{layout_at, Refusal, basic, truncated, too_deep}
use Rattle.grammar_core.specs.Reading.{no_such_variant}
use Rattle.grammar_core.specs.Reading.{Own, leaf_own}

abbrev pub entry : ℕ → Head → Entry
entry t h = record { ty = t; head = h }

-- the nodes without their types
abbrev pub shown : List Entry → List Head
shown xs = map (λ e. e.head) xs

abbrev pub arm_own : List ℕ → Option (ℕ × Arm) → List ℕ → Own
arm_own at (Some found) rest =
    Ok (
      (
        head.branch (tree.arm found.0) (length (field_types found.1.fields)),
        Some (each (field_types found.1.fields)),
      ),
      rest,
    )
arm_own at None rest = Err (no_such_variant, at)

abbrev pub arms_own : List Arm → List ℕ → Own
arms_own arms [] = Err (truncated, [])
arms_own arms (index ∷ rest) = arm_own (index ∷ rest) (arm_of arms index) rest

abbrev pub length_own : ℕ → Read Reason ℕ → Own
length_own t (Ok n) = Ok ((head.branch tree.list n.0, Some (times n.0 t)), n.1)
length_own t (Err e) = Err (basic e.0, e.1)

abbrev pub shallow : ℕ → List ℕ → Read Refusal Tree
shallow t b = Err (too_deep, b)

unfoldable pub own_at : Layout → List ℕ → Own
own_at (layout.fields ts) b = Ok ((head.branch tree.fields (length ts), Some (each ts)), b)
own_at (layout.arms arms) b = arms_own arms b
own_at (layout.sequence t) b = length_own t (compact_at target.U32 b)
own_at (layout.array n t) b = Ok ((head.branch tree.list n, Some (times n t)), b)
own_at f b = leaf_own (layout_at shallow f b)

-- the fault, the bytes from its place on, and the bytes from the rejected node on
abbrev pub Fault : Type 0
Fault = (Refusal × List ℕ) × List ℕ

-- the bytes after what was added, or the fault
abbrev pub Ending : Type 0
Ending = Result (List ℕ) Fault

pub data Reported : Type 0 where
  reported : List Entry → Ending → Reported

abbrev pub added : Reported → List Entry
added (reported xs end) = xs

abbrev pub ending : Reported → Ending
ending (reported xs end) = end

-- the same reading after these nodes
abbrev pub after : List Entry → Reported → Reported
after before (reported xs end) = reported (before ++ xs) end

-- one reading after the other
abbrev pub reported_after : List Entry → Ending → (List ℕ → Reported) → Reported
reported_after xs (Ok rest) f = after xs (f rest)
reported_after xs (Err e) f = reported xs (Err e)

abbrev pub then : Reported → (List ℕ → Reported) → Reported
then (reported xs end) f = reported_after xs end f

abbrev pub all_reported : (ℕ → List ℕ → Reported) → List ℕ → List ℕ → Reported
all_reported child [] b = reported [] (Ok b)
all_reported child (t ∷ ts) b = then (child t b) (all_reported child ts)

abbrev pub times_reported : (ℕ → List ℕ → Reported) → ℕ → ℕ → List ℕ → Reported
times_reported child zero t b = reported [] (Ok b)
times_reported child (suc n) t b = then (child t b) (times_reported child n t)

abbrev pub part_reported : (ℕ → List ℕ → Reported) → Part → List ℕ → Reported
part_reported child (each ts) b = all_reported child ts b
part_reported child (times n t) b = times_reported child n t b

abbrev pub opened_reported : (ℕ → List ℕ → Reported) → Option Part → List ℕ → Reported
opened_reported child None b = reported [] (Ok b)
opened_reported child (Some p) b = part_reported child p b

abbrev pub own_reported : (ℕ → List ℕ → Reported) → ℕ → List ℕ → Own → Reported
own_reported child t b (Ok x) = after (entry t x.0.0 ∷ []) (opened_reported child x.0.1 x.1)
own_reported child t b (Err e) = reported [] (Err (e, b))

-- a value of type t, with so many levels left for it
unfoldable pub reported_at : List TypeInfo → ℕ → ℕ → List ℕ → Reported
reported_at r zero t b = reported [] (Err ((too_deep, b), b))
reported_at r (suc room) t b = own_reported (reported_at r room) t b (own_at (met_layout r t) b)

-- everything that is still to be read, the innermost part first, with `room` levels left for its
-- values
unfoldable pub rest_reported : List TypeInfo → ℕ → List Part → List ℕ → Reported
rest_reported r room [] b = reported [] (Ok b)
rest_reported r room (p ∷ ps) b =
    then (part_reported (reported_at r room) p b) (rest_reported r (suc room) ps)

-- reading node by node agrees with reading the complete value
abbrev pub Agrees : Read Refusal Tree → Reported → Type 0
Agrees (Ok x) y = (shown (added y) ≡ preorder x.0) × (ending y ≡ Ok x.1)
Agrees (Err e) y = (met : List ℕ) × (ending y ≡ Err (e, met))

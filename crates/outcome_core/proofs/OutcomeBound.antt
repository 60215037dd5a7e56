-- What is held of an input is bounded by the bytes taken.
use Rattle.std.proofs.Common.{◌≡◌, ℕ, suc, ◌+◌, ◌*◌, ◌≤◌, List, length, Some, Ok, Err, sym, ap, ◌∙◌}
use Rattle.std.proofs.Common.{arith, length-append}
use Rattle.std.proofs.Math.Nat.{mul_assoc, mul-le-mul_right}
use Rattle.scale_core.specs.Read.{Read}
use Rattle.scale_core.specs.declared.fault.Reason.{Reason}
use Rattle.scale_core.proofs.Results.{Takes}
use Rattle.graph_core.specs.Widths.{widest}
use Rattle.widths_core.specs.Layouts.{Layout, layout}
use Rattle.widths_core.specs.Layouts as layout
use Rattle.widths_core.specs.declared.run_kind.RunKind.{RunKind}
use Rattle.grammar_core.specs.Tree.{Tree, nodes, text_bytes}
use Rattle.grammar_core.specs.Runs.{IsRunLength, run_length_at}
use Rattle.grammar_core.proofs.Runs.{length_takes}
use Rattle.grammar_core.proofs.Bounds.{values_are_bounded}
use Rattle.grammar_core.specs.Begun.{Begun, begun_nodes, begun_text_bytes}
use Rattle.outcome_core.specs.HeldTree.{Holds}
use Rattle.outcome_core.specs.Bound.{node_bound, value_bound}
use Rattle.outcome_core.specs.HeldLaws.{past_length, open_run, OneBegun, HeldIsBounded}
use Rattle.outcome_core.specs.Outcome.{done, more, Query, IsOutcome}
use Rattle.outcome_core.proofs.Begins.{begun_is_missing}
use Rattle.outcome_core.proofs.BegunBound.{begun_is_bounded}

-- an input holds one begun tree and one rest
pub one_begun : OneBegun
one_begun r room t b g h e f one two =
    let same = sym (begun_is_missing r room t b g e one).1
    ∙ (begun_is_missing r room t b h f two).1 in
    (ap (λ (p : Begun × List ℕ). p.0) same, ap (λ (p : Begun × List ℕ). p.1) same)

-- the bytes after a run's length are no more than all
past-le : (k : RunKind) (e : List ℕ) (read : Read Reason ℕ) → Takes (IsRunLength k) e read →
    past_length read ≤ length e
past-le k e (Ok n) h = omega (arith, ap length h.1, length-append h.0 n.1)
past-le k e (Err x) h = omega arith

-- what an open run has of these bytes is no more than all
open-le : (f : Layout) (e : List ℕ) → open_run f e ≤ length e
open-le (layout.plain (layout.run k)) e = past-le k e (run_length_at k e) (length_takes k e)
open-le _ e = omega arith

-- the product as it is written
spread : (n depth w : ℕ) → n * (suc depth * (w + 1)) ≡ n * (depth + 1) * (w + 1)
spread n depth w = let same : suc depth ≡ depth + 1 = omega arith in
    ap (λ (k : ℕ). n * (k * (w + 1))) same ∙ sym (mul_assoc n (depth + 1) (w + 1))

-- a value that is the outcome has few nodes and bytes of texts for the bytes taken
value_le : (j : Query) (input : List ℕ) (n : ℕ) (v : Tree) → IsOutcome j input (done v) n →
    (nodes v ≤ value_bound n j.depth (widest j.registry)) × (text_bytes v ≤ n)
value_le j input n v h =
    let b = values_are_bounded j.registry (suc j.depth) j.ty v h.0 h.3 h.4 in
    let w = widest j.registry in (
      omega (arith, b.0, spread n j.depth w, ap (λ (k : ℕ). k * (suc j.depth * (w + 1))) h.5),
      omega (arith, h.5, b.1),
    )

-- a begun tree that is held while more is wanted is small, with what is there of an open run
begun_le : (j : Query) (input : List ℕ) (n : ℕ) → IsOutcome j input more n →
    (g : Begun) (e : List ℕ) (h : Holds j.registry (suc j.depth) j.ty input g e) →
    (begun_nodes g ≤ node_bound n j.depth (widest j.registry))
    × (begun_text_bytes g + open_run (layout j.registry h.2) e ≤ n)
begun_le j input n o g e h =
    let b = begun_is_bounded j.registry (suc j.depth) j.ty g h.0 (Some (h.1, h.2)) h.4 in
    let w = widest j.registry in
    let len : length input ≡ length h.0 + length e = ap length h.3 ∙ length-append h.0 e in
    let small : length h.0 + 1 ≤ n + 1 = omega (arith, len, o.2) in (
      omega (arith, b.1, spread (n + 1) j.depth w, mul-le-mul_right (suc j.depth * (w + 1)) small),
      omega (arith, b.2, len, o.2, open-le (layout j.registry h.2) e),
    )

-- what is held of an input, whole or begun, is bounded by the bytes taken
pub held_is_bounded : HeldIsBounded
held_is_bounded j input n = (value_le j input n, begun_le j input n)

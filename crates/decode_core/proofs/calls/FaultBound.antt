-- What the machine holds is a begun tree, and small.
use Rattle.std.proofs.Common.{◌≡◌, ℕ, suc, ◌+◌, ◌*◌, ◌≤◌, List, length, Some, Err, arith}
use Rattle.std.proofs.lemmas.List.{length-map}
use Rattle.std.proofs.Math.Nat.{mul-le-mul_right}
use Rattle.types_core.specs.declared.type_info.TypeInfo.{TypeInfo}
use Rattle.graph_core.specs.Widths.{widest}
use Rattle.outcome_core.specs.Bound.{node_bound}
use Rattle.grammar_core.specs.Preorder.{Entry}
use Rattle.outcome_core.specs.Reported.{Fault, shown, reported, reported_at}
use Rattle.value_core.proofs.Begun.{counts}
use Rattle.outcome_core.specs.Begins.{Begins}
use Rattle.outcome_core.proofs.BegunBound.{begun_is_bounded}

-- the bound on nodes is the same whichever way its factors are grouped
same_bound : (n depth width : ℕ) →
    (n + 1) * (suc depth * (width + 1)) ≡ (n + 1) * (depth + 1) * (width + 1)
same_bound n depth width = grind (arith)

-- before a fault no more nodes are added than the bound for the bytes of the begun tree
pub begins_small : (r : List TypeInfo) (depth t : ℕ) (b : List ℕ) (xs : List Entry) (e : Fault) →
    reported_at r (suc depth) t b ≡ reported xs (Err e) → (h : Begins r (suc depth) t b xs e) →
    length xs ≤ node_bound (length h.own) depth (widest r)
begins_small r depth t b xs e is h =
    omega (
      arith,
      length-map xs (λ (e : Entry). e.head),
      (counts h.tree (shown xs) h.shows).0,
      (begun_is_bounded r (suc depth) t h.tree h.own (Some (h.below, h.next)) h.grows).1,
      same_bound (length h.own) depth (widest r),
    )

-- for more bytes the bound on nodes is no smaller
pub more_bytes : (n m depth width : ℕ) → n ≤ m → node_bound n depth width ≤ node_bound m depth width
more_bytes n m depth width h =
    mul-le-mul_right (width + 1) (mul-le-mul_right (depth + 1) (omega (arith, h)))

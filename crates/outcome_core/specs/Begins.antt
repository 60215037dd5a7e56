-- The nodes that were added before a fault are a begun tree.
use Rattle.std.specs.Prelude.{◌≡◌, ℕ, List, [], ◌++◌, Some, Err}
use Rattle.types_core.specs.declared.type_info.TypeInfo.{TypeInfo}
use Rattle.grammar_core.specs.Begun.{Begun, IsPart, Grows, begun_preorder}
use Rattle.grammar_core.specs.Preorder.{Entry}
use Rattle.outcome_core.specs.Reported.{Fault, reported, shown, reported_at}

-- the nodes are those of a begun tree, and its next type fails on the bytes after the tree's, with
-- the levels left there
pub record Begins (r : List TypeInfo) (room t : ℕ) (b : List ℕ) (xs : List Entry) (e : Fault) : Type
    0 where
  pub tree : Begun
  pub own : List ℕ
  pub next : ℕ
  pub below : ℕ
  pub part : IsPart tree
  pub is : b ≡ own ++ e.1
  pub grows : Grows r room t tree own (Some (below, next))
  pub shows : shown xs ≡ begun_preorder tree
  pub meets : reported_at r below next e.1 ≡ reported [] (Err e)

-- the nodes that were added before a fault are a begun tree
abbrev pub FaultIsBegun : Type 0
FaultIsBegun = (r : List TypeInfo) (room t : ℕ) (b : List ℕ) (xs : List Entry) (e : Fault) →
    reported_at r room t b ≡ reported xs (Err e) → Begins r room t b xs e

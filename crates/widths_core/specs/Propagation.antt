-- Propagating a reference: its counter counts what was found for the type that it refers to.
use Rattle.std.specs.Prelude.{◌≡◌, ℕ, ◌+◌, ◌<◌, ◌≤◌, List, [], ◌∷◌, ◌++◌, length, take, true, false}
use Rattle.std.specs.Prelude.{None, ◌==◌, if◌then◌else◌}
use Rattle.types_core.specs.declared.type_info.TypeInfo.{TypeInfo}
use Rattle.widths_core.specs.declared.class.Class.TheVariants as class
use Rattle.widths_core.specs.declared.counter.Kind.TheVariants as kind
use Rattle.graph_core.specs.declared.graph.Graph.{Graph}
use Rattle.widths_core.specs.Targets.{target_of}
use Rattle.widths_core.specs.Classes.{class_of}
use Rattle.graph_core.specs.Counts.{times}
use Rattle.widths_core.specs.Rules.{rules, all_parts, numbers_from}
use Rattle.graph_core.specs.Graphs.{refs, numbers, IsLinked}
use Rattle.widths_core.specs.Progress.{Progress}
use Rattle.widths_core.specs.Consistent.{rule_at, to_at, has_settled, IsConsistent, IsClosed}

-- settled types stay settled, and more may follow them
pub record Follows (s n : Progress) : Type 0 where
  pub keeps : (t : ℕ) → has_settled s t ≡ true → has_settled n t ≡ true
  pub more : List ℕ
  pub settled : n.settled ≡ s.settled ++ more

-- the lists have all references of these types
pub record IsReady (r : List TypeInfo) (d : Graph) : Type 0 where
  pub linked : IsLinked d
  pub types : d.registry ≡ r
  pub read : refs d ≡ all_parts (rules r)
  pub counted : numbers d ≡ numbers_from 0 (rules r)

-- between the two graphs, only lists were looked at
pub record Lists (a b : Graph) : Type 0 where
  pub types : b.registry ≡ a.registry
  pub opened : b.looks.opened.entries ≡ a.looks.opened.entries
  pub read : b.looks.read.entries ≡ a.looks.read.entries

-- the counters are consistent with what was propagated, and each type whose parts have settled has
-- settled
pub record IsUpToDate (r : List TypeInfo) (d : Graph) (s : Progress) : Type 0 where
  pub ready : IsReady r d
  pub consistent : IsConsistent r d.looks.listed.entries s
  pub closed : IsClosed r s

-- type t has settled, and no reference to it was propagated
pub record IsPending (r : List TypeInfo) (d : Graph) (s : Progress) (t : ℕ) : Type 0 where
  pub steady : IsUpToDate r d s
  pub settled : has_settled s t ≡ true
  pub fresh : (e : ℕ) → e < length (all_parts (rules r)) → to_at r e ≡ t →
      times e d.looks.listed.entries ≡ 0

-- the references to type t were propagated, once each
pub record Propagates (r : List TypeInfo) (a b : Graph) (s n : Progress) (t : ℕ) : Type 0 where
  pub steady : IsUpToDate r b n
  pub follows : Follows s n
  pub lists : Lists a b
  pub propagated : (e : ℕ) → e < length (all_parts (rules r)) →
      times e b.looks.listed.entries
      ≡ times e a.looks.listed.entries + (if to_at r e == t then 1 else 0)

-- the references to the first `done` settled types were propagated, once each
pub record IsPropagatedTo (r : List TypeInfo) (d : Graph) (s : Progress) (done : ℕ) : Type 0 where
  pub steady : IsUpToDate r d s
  pub within : done ≤ length s.settled
  pub propagated : (e : ℕ) → e < length (all_parts (rules r)) →
      times e d.looks.listed.entries ≡ times (to_at r e) (take done s.settled)

-- the compacts that have not settled have no target
pub record IsBad (r : List TypeInfo) (s : Progress) : Type 0 where
  pub at : (k : ℕ) → k < length (rules r) → (rule_at r k).kind ≡ kind.Compact →
      has_settled s (rule_at r k).owner ≡ false → (class_of r (rule_at r k).owner ≡ class.Sized)
      × (target_of r (rule_at r k).owner ≡ None)
      × ((u : ℕ) → (rule_at r k).parts ≡ u ∷ [] → target_of r u ≡ None)

-- each compact has settled
pub record AreCompactsSettled (r : List TypeInfo) (s : Progress) : Type 0 where
  pub at : (k : ℕ) → k < length (rules r) → (rule_at r k).kind ≡ kind.Compact →
      has_settled s (rule_at r k).owner ≡ true

-- the references to all settled types were propagated
pub record PropagatesAll (r : List TypeInfo) (a b : Graph) (s n : Progress) (done : ℕ) : Type 0
  where
    pub propagated : IsPropagatedTo r b n done
    pub all : done ≡ length n.settled
    pub follows : Follows s n
    pub lists : Lists a b

-- nothing was propagated, and whatever has settled is right
pub record IsStart (r : List TypeInfo) (d : Graph) (s : Progress) : Type 0 where
  pub ready : IsReady r d
  pub listed : d.looks.listed.entries ≡ []
  pub consistent : IsConsistent r [] s

-- Types without a part that has to settle first, and compacts without a target.
use Rattle.std.proofs.Common.{◌≡◌, ◌≢◌, ℕ, ◌+◌, ◌<◌, ◌≤◌, Bool, true, false, List, [], ◌∷◌, length}
use Rattle.std.proofs.Common.{Some}
use Rattle.std.proofs.Common.{take, None, refl, sym, ap, ◌∙◌, arith, inl, inr}
use Rattle.std.proofs.lemmas.Bool.{cases_lt, cases_eq}
use Rattle.std.proofs.lemmas.List.{get_or_past, length-append, take-append-le}
use Rattle.types_core.specs.declared.definition.TypeDef.{TypeDef}
use Rattle.types_core.specs.declared.type_info.TypeInfo.{TypeInfo}
use Rattle.widths_core.specs.declared.counter.Kind.TheVariants as kind
use Rattle.widths_core.specs.Rules.{rules, numbers_from, found_sized}
use Rattle.widths_core.specs.Progress.{Progress, counter_at, completed, settled_as, KnowsType}
use Rattle.widths_core.specs.Consistent.{nothing, rule_at, waiting, has_settled, settles}
use Rattle.widths_core.specs.Consistent.{IsConsistent, IsClosed}
use Rattle.widths_core.specs.Steps.{references_of, IsRow}
use Rattle.widths_core.specs.Targets.{target_of}
use Rattle.graph_core.specs.declared.graph.Graph.{Graph}
use Rattle.widths_core.specs.Propagation.{Follows, IsStart, IsPropagatedTo, PropagatesAll, IsBad}
use Rattle.widths_core.specs.Propagation.{AreCompactsSettled}
use Rattle.widths_core.proofs.RuleRight.{rule_right}
use Rattle.widths_core.proofs.RuleKinds.{rule_kind, HasKind}
use Rattle.widths_core.proofs.StepsSoFar.{bad_step}
use Rattle.widths_core.proofs.Settles.{follows_on, completes_to, settles_to, CompletesStep}
use Rattle.widths_core.proofs.Waiting.{waiting_start}

-- where all is consistent, the tables have an entry for the owner of each counter
pub placed : (r : List TypeInfo) (propagated : List ℕ) (s : Progress) (k : ℕ) →
    IsConsistent r propagated s → k < length s.counters → KnowsType s (counter_at s k).owner
placed r propagated s k h lt =
    let right = rule_right r k (omega (arith, h.counters, lt)) in (
      omega (arith, h.owner k, right.owner, h.classes),
      omega (arith, h.owner k, right.owner, h.targets),
      omega (arith, h.owner k, right.owner, h.steps),
    )

-- where rules are read after the last one, it is an idle rule without parts
past_rule : (r : List TypeInfo) (k : ℕ) → length (rules r) ≤ k → rule_at r k ≡ nothing
past_rule r k le = get_or_past (rules r) k nothing le

-- the first counters were passed
pub record BeginsTo (r : List TypeInfo) (o s : Progress) (i : ℕ) : Type 0 where
  pub consistent : IsConsistent r [] s
  pub follows : Follows o s
  pub closed : (k : ℕ) → k < i → settles (rule_at r k).kind ≡ true → (counter_at s k).left ≡ 0 →
      has_settled s (rule_at r k).owner ≡ true

-- where nothing was propagated and a counter has nothing left, its rule has not one part
no_parts : (r : List TypeInfo) (s : Progress) (k u : ℕ) → IsConsistent r [] s →
    (counter_at s k).left ≡ 0 → (rule_at r k).parts ≡ u ∷ [] → ⊥
no_parts r s k u h none one =
    let at : 0 + k ≡ k = omega arith in
    let start : waiting 0 (numbers_from 0 (rules r)) k [] ≡ length (rule_at r k).parts =
    rw at at (waiting_start 0 0 (rules r) k) in
    omega (arith, h.left k, none, start, ap length one)

-- a counter that has nothing left is passed where its owner settles
pub begins_done : (r : List TypeInfo) (o s n : Progress) (i : ℕ) → i < length s.counters →
    BeginsTo r o s i → (counter_at s i).left ≡ 0 → n ≡ completed s (counter_at s i) None false →
    BeginsTo r o n (i + 1)
begins_done r o s n i lt h none is =
    let done = completes_to r [] s i None false h.consistent
    (omega (arith, h.consistent.counters, lt)) none (record {
      target_is = λ u one. absurd (no_parts r s i u h.consistent none one);
      byte_is = λ u one. absurd (no_parts r s i u h.consistent none one);
    }) in
    rw is (record {
      consistent = done.consistent;
      follows = follows_on o s (completed s (counter_at s i) None false) h.follows done.follows;
      closed = λ k lt' e left. elim (cases_eq k i) [
        | inl same ↦ let e' : settles (rule_at r i).kind ≡ true = rw same at e in
            rw same (done.settled e')
        | inr other ↦ done.follows.keeps (rule_at r k).owner
            (h.closed k (omega (arith, lt', other)) e (rw done.counters at left))
      ];
    })

-- a counter that has something left is passed as it is
pub begins_passed : (r : List TypeInfo) (o s : Progress) (i : ℕ) → BeginsTo r o s i →
    (counter_at s i).left ≢ 0 → BeginsTo r o s (i + 1)
begins_passed r o s i h some = record {
  consistent = h.consistent;
  follows = h.follows;
  closed = λ k lt' e left. elim (cases_eq k i) [
    | inl same ↦ absurd (some (ap (λ (j : ℕ). (counter_at s j).left) (sym same) ∙ left))
    | inr other ↦ h.closed k (omega (arith, lt', other)) e left
  ];
}

-- where all counters were passed, the owner of each that has nothing left has settled
pub begins_all : (r : List TypeInfo) (o s : Progress) (i : ℕ) → length s.counters ≤ i →
    BeginsTo r o s i → IsClosed r s
begins_all r o s i le h = record {
  at = λ k e left. elim (cases_lt k i) [
    | inl lt ↦ h.closed k lt e left
    | inr ge ↦ absurd (let no : settles nothing.kind ≡ true =
        rw (past_rule r k (omega (arith, h.consistent.counters, le, ge))) at e in
        let false_is : false ≡ true = no in cc)
  ];
}

-- where all counters were passed from a start, all is steady and nothing was propagated
pub begun : (r : List TypeInfo) (d : Graph) (s n : Progress) (i : ℕ) → IsStart r d s →
    length n.counters ≤ i → BeginsTo r s n i → IsPropagatedTo r d n 0
begun r d s n i h le b = record {
  steady = record {
    ready = h.ready;
    consistent = rw h.listed b.consistent;
    closed =
        begins_all r s n i le b;
  };
  within = omega arith;
  propagated = λ e small. rw h.listed refl;
}

-- ---- compacts

pub record SettlesBadTo (r : List TypeInfo) (propagated : List ℕ) (s n : Progress) (i : ℕ) : Type 0
  where
    pub consistent : IsConsistent r propagated n
    pub closed : IsClosed r n
    pub bad : IsBad r n
    pub follows : Follows s n
    pub compacts : (k : ℕ) → k < i → k < length (rules r) → (rule_at r k).kind ≡ kind.Compact →
        has_settled n (rule_at r k).owner ≡ true

-- where a test that fails follows from another one, that one fails too
unsettled_before : (b c : Bool) → (b ≡ true → c ≡ true) → c ≡ false → b ≡ false
unsettled_before true c f e = let t = f refl in let no = sym t ∙ e in absurd cc
unsettled_before false c f e = refl

-- the step of a compact without a target is complete as it is
bad_completes : (r : List TypeInfo) (s : Progress) (i : ℕ) → i < length (rules r) →
    (rule_at r i).kind ≡ kind.Compact →
    ((u : ℕ) → (rule_at r i).parts ≡ u ∷ [] → target_of r u ≡ None) →
    CompletesStep r s (rule_at r i).owner found_sized None
bad_completes r s i small kind_is none = record {
  at = λ d x known shape_is draft before.
      let own = rule_kind r i small in
      let same : own.definition ≡ d = some_is own.definition d (sym own.at ∙ shape_is) in
      let has : HasKind d kind.Compact (rule_at r i).parts = rw (kind_is, same) at own.kind in
      bad_step r (references_of r) (IsRow (references_of r) s.rows) d (rule_at r i).parts known x
      has none draft;
} where
  some_is : (a b : TypeDef) → Some a ≡ Some b → a ≡ b
  some_is a b q = cc

-- a counter of a compact is passed where its owner settles as a type that takes bytes
pub settles_bad_done : (r : List TypeInfo) (propagated : List ℕ) (s n m : Progress) (i : ℕ) →
    i < length n.counters → SettlesBadTo r propagated s n i → (counter_at n i).kind ≡ kind.Compact →
    m ≡ settled_as n (counter_at n i).owner found_sized None → SettlesBadTo r propagated s m (i + 1)
settles_bad_done r propagated s n m i lt h compact is =
    let small : i < length (rules r) = omega (arith, h.consistent.counters, lt) in
    let right = rule_right r i small in
    let kind_is : (rule_at r i).kind ≡ kind.Compact = sym (h.consistent.kind i) ∙ compact in
    let done = settles_to r propagated n (rule_at r i).owner found_sized None h.consistent
    right.owner (λ e. let bad = h.bad.at i small kind_is e in
    record { class = bad.0; target = bad.1; value = refl })
    (λ e. let bad = h.bad.at i small kind_is e in bad_completes r n i small kind_is bad.2) in
    rw (is, h.consistent.owner i) (record {
      consistent = done.consistent;
      closed = record {
        at = λ k e left. done.follows.keeps (rule_at r k).owner
            (h.closed.at k e (rw done.counters at left));
      };
      bad = record {
        at = λ k small' e unset. h.bad.at k small' e
            (unsettled_before (has_settled n (rule_at r k).owner)
            (has_settled (settled_as n (rule_at r i).owner found_sized None) (rule_at r k).owner)
            (done.follows.keeps (rule_at r k).owner) unset);
      };
      follows = follows_on s n (settled_as n (rule_at r i).owner found_sized None) h.follows
          done.follows;
      compacts = λ k lt' small' e. elim (cases_eq k i) [
        | inl same ↦ rw same done.settled
        | inr other ↦ done.follows.keeps (rule_at r k).owner
            (h.compacts k (omega (arith, lt', other)) small' e)
      ];
    })

-- a counter that is none of a compact is passed as it is
pub settles_bad_passed : (r : List TypeInfo) (propagated : List ℕ) (s n : Progress) (i : ℕ) →
    SettlesBadTo r propagated s n i → ((counter_at n i).kind ≡ kind.Compact → ⊥) →
    SettlesBadTo r propagated s n (i + 1)
settles_bad_passed r propagated s n i h other_kind = record {
  consistent = h.consistent;
  closed = h.closed;
  bad = h.bad;
  follows = h.follows;
  compacts = λ k lt' small e. elim (cases_eq k i) [
    | inl same ↦ absurd (other_kind (h.consistent.kind i
        ∙ ap (λ (j : ℕ). (rule_at r j).kind) (sym same) ∙ e))
    | inr other ↦ h.compacts k (omega (arith, lt', other)) small e
  ];
}

-- that compacts without a target settle changes nothing of what was propagated
pub bad_settled : (r : List TypeInfo) (d : Graph) (s n : Progress) (first i : ℕ) →
    IsPropagatedTo r d s first → length n.counters ≤ i →
    SettlesBadTo r d.looks.listed.entries s n i → IsPropagatedTo r d n first
bad_settled r d s n first i h le g =
    let grown : length n.settled ≡ length s.settled + length g.follows.more =
    ap length g.follows.settled ∙ length-append s.settled g.follows.more in
    let front : take first n.settled ≡ take first s.settled = ap (take first) g.follows.settled
    ∙ take-append-le first s.settled g.follows.more h.within in
    record {
      steady = record { ready = h.steady.ready; consistent = g.consistent; closed = g.closed };
      within = omega (arith, h.within, grown);
      propagated = λ e small. rw front (h.propagated e small);
    }

-- where all counters were passed, each compact has settled, whatever more settles later
pub compacts_all : (r : List TypeInfo) (propagated : List ℕ) (s n m : Progress) (i : ℕ) →
    length n.counters ≤ i → SettlesBadTo r propagated s n i → Follows n m → AreCompactsSettled r m
compacts_all r propagated s n m i le h f =
    record {
      at = λ k small e. f.keeps (rule_at r k).owner
          (h.compacts k (omega (arith, h.consistent.counters, le, small)) small e);
    }

-- all is propagated from before compacts without a target settle if it is from afterwards on
pub bad_settled_on : (r : List TypeInfo) (propagated : List ℕ) (a b : Graph) (s n m : Progress)
    (i done : ℕ) → SettlesBadTo r propagated s n i → PropagatesAll r a b n m done →
    PropagatesAll r a b s m done
bad_settled_on r propagated a b s n m i done g h =
    record {
      propagated = h.propagated;
      all = h.all;
      follows = follows_on s n m g.follows h.follows;
      lists = h.lists;
    }

-- all is propagated from an earlier state on if it is from a later one that follows
pub begun_on : (r : List TypeInfo) (a b : Graph) (s n m : Progress) (done : ℕ) → Follows s n →
    PropagatesAll r a b n m done → PropagatesAll r a b s m done
begun_on r a b s n m done g h =
    record {
      propagated = h.propagated;
      all = h.all;
      follows = follows_on s n m g h.follows;
      lists =
          h.lists;
    }

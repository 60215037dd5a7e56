-- Before anything has settled, and when nothing more settles: what has not settled has no value,
-- and is no target.
use Rattle.std.proofs.Common.{◌≡◌, ℕ, zero, suc, ◌+◌, ◌<◌, ◌≤◌, Bool, true, false, cond, List, []}
use Rattle.std.proofs.Common.{◌∷◌, length, map, get_or, replicate, take, flat_map, Option, Some}
use Rattle.std.proofs.Common.{None, refl, sym, ap, subst, ◌∙◌, arith, inl, inr}
use Rattle.std.specs.Prelude.{◌==◌, slice_get}
use Rattle.std.specs.List.{AllByRecursion, list_all, list_any}
use Rattle.std.proofs.lemmas.Bool.{cases_lt}
use Rattle.std.proofs.lemmas.List.{length-map, length-replicate, take_all}
use Rattle.std.proofs.Math.ListN.{get_or-map}
use Rattle.scale_core.specs.declared.compact.Target.{Target}
use Rattle.types_core.specs.declared.definition.Arm.{Arm}
use Rattle.types_core.specs.declared.definition.TypeDef.{TypeDef}
use Rattle.types_core.specs.declared.definition.TypeDef.TheVariants as Def
use Rattle.types_core.specs.declared.type_info.TypeInfo.{TypeInfo}
use Rattle.widths_core.specs.declared.class.Class.TheVariants as class
use Rattle.widths_core.specs.declared.counter.Kind.TheVariants as kind
use Rattle.widths_core.specs.declared.counter.Counter.{Counter}
use Rattle.graph_core.specs.declared.graph.Graph.{Graph}
use Rattle.graph_core.specs.Types.{shape, ids, field_types}
use Rattle.widths_core.specs.Arms.{live_arms}
use Rattle.graph_core.specs.References.{references, AreKnown, IsChecked}
use Rattle.widths_core.specs.Targets.{nowhere, leads_shape, leads_members, target_from}
use Rattle.widths_core.specs.Targets.{target_within, target_of}
use Rattle.widths_core.specs.Classes.{holds_at, finite_step, finite_within, is_finite, class_of}
use Rattle.widths_core.specs.ClassTables.{known_class, known_target, class_of_compact}
use Rattle.widths_core.specs.ClassTables.{ReportsClasses, ReportsTargets}
use Rattle.graph_core.specs.Counts.{times}
use Rattle.widths_core.specs.Rules.{Rule, rule, rules, rules_of, rules_from, arm_rules}
use Rattle.widths_core.specs.Rules.{kind_of_parts, found_sized, counter_of, all_parts, numbers_from}
use Rattle.graph_core.specs.Graphs.{refs}
use Rattle.widths_core.specs.Linking.{AreTypesLinked}
use Rattle.widths_core.specs.Progress.{Progress, counter_at}
use Rattle.widths_core.specs.Consistent.{nothing, rule_at, to_at, unsettled, waiting, has_settled}
use Rattle.widths_core.specs.Consistent.{settles, so_far, IsConsistent}
use Rattle.widths_core.specs.declared.rows.Rows.{Rows}
use Rattle.widths_core.specs.declared.type_step.TypeStep.{TypeStep}
use Rattle.widths_core.specs.Steps.{references_of, AreDrafts}
use Rattle.widths_core.specs.Propagation.{IsStart, PropagatesAll, IsBad, AreCompactsSettled}
use Rattle.graph_core.proofs.Stopped.{all_front}
use Rattle.widths_core.proofs.PartsOf.{all_references, checked_by}
use Rattle.widths_core.proofs.Ranks.{Below, finite_grows, or_parts}
use Rattle.widths_core.proofs.Stable.{has_value-class_of}
use Rattle.widths_core.proofs.RuleRight.{rule_right, shape-bound}
use Rattle.widths_core.proofs.Waiting.{waiting_start, waiting-zero, numbers-length, parts_all}
use Rattle.widths_core.proofs.Settles.{no_value}

-- ---- before anything has settled

-- whatever place of a list of copies is read, with the copied thing as default, it gives that
same_all : {X : Type 0} (n t : ℕ) (x : X) → get_or (replicate n x) t x ≡ x
same_all zero t x = refl
same_all (suc n) zero x = refl
same_all (suc n) (suc t) x = same_all n t x

-- where each of n types is without a value so far, n have not settled
unsettled_all : (n : ℕ) → unsettled (replicate n class.NoValue) ≡ n
unsettled_all zero = refl
unsettled_all (suc n) = omega (arith, unsettled_all n)

abbrev fresh : List TypeInfo → List TypeStep → Rows → Progress
fresh r xs rows = record {
  counters = map counter_of (rules r);
  classes =
      replicate (length r) class.NoValue;
  targets = replicate (length r) None;
  settled = [];
  steps = xs;
  rows = rows;
}

-- at the start no type has settled
none_settled : (r : List TypeInfo) (xs : List TypeStep) (rows : Rows) (t : ℕ) →
    has_settled (fresh r xs rows) t ≡ false
none_settled r xs rows t = rw (same_all (length r) t class.NoValue) refl

-- before a type and its parts have settled, its step is what it was
so_far_first : (r : List TypeInfo) (d : TypeDef) (x : TypeStep) →
    so_far r class.NoValue false d x ≡ x
so_far_first r (Def.Composite fs) x = refl
so_far_first r (Def.Variant arms) x = refl
so_far_first r (Def.Sequence u) x = refl
so_far_first r (Def.Array n u) x = refl
so_far_first r (Def.Tuple ts) x = refl
so_far_first r (Def.Primitive p) x = refl
so_far_first r (Def.Compact u) x = refl
so_far_first r (Def.BitSequence store order form) x = refl

-- at each place within the table stands a step
get_some : (xs : List TypeStep) (t : ℕ) → t < length xs → (x : TypeStep) × (slice_get xs t ≡ Some x)
get_some [] t lt = absurd (omega (arith, lt))
get_some (x ∷ xs) zero lt = (x, refl)
get_some (x ∷ xs) (suc t) lt = get_some xs t (omega (arith, lt))

-- at the start, where nothing was propagated, counters and tables are consistent
start_consistent : (r : List TypeInfo) (xs : List TypeStep) (rows : Rows) →
    AreDrafts r (references_of r) rows xs → IsConsistent r [] (fresh r xs rows)
start_consistent r xs rows drafts = record {
  classes = length-replicate (length r) class.NoValue;
  targets = length-replicate (length r) (let nothing_there : Option Target = None in nothing_there);
  counters = length-map (rules r) counter_of;
  owner = λ k. ap (λ (c : Counter). c.owner) (get_or-map counter_of (rules r) k nothing);
  kind = λ k. ap (λ (c : Counter). c.kind) (get_or-map counter_of (rules r) k nothing);
  left = λ k. let at : 0 + k ≡ k = omega arith in
      let start : waiting 0 (numbers_from 0 (rules r)) k [] ≡ length (rule_at r k).parts =
      rw at at (waiting_start 0 0 (rules r) k) in
      ap (λ (c : Counter). c.left) (get_or-map counter_of (rules r) k nothing) ∙ sym start;
  sized = λ k. ap (λ (c : Counter). c.sized) (get_or-map counter_of (rules r) k nothing);
  known = λ e lt. absurd (omega (arith, lt));
  part_settled = λ e lt. absurd (omega (arith, lt));
  right = λ t e. let no = sym (none_settled r xs rows t) ∙ e in absurd cc;
  unset = λ t e. same_all (length r) t None;
  queue = λ t. rw (none_settled r xs rows t) refl;
  room = omega (arith, unsettled_all (length r));
  paired = drafts.paired;
  steps = drafts.count;
  step = λ t d e.
      let lt = shape-bound r t d e in
      let x = get_some xs t (omega (arith, lt, drafts.count)) in (
        x.0,
        drafts.own t d x.0 e x.1,
        rw (same_all (length r) t class.NoValue) (x.1
            ∙ ap (λ (y : TypeStep). Some y) (sym (so_far_first r d x.0))),
      );
}

-- linked types with tables in which nothing was found are a start
pub start : (r : List TypeInfo) (cs : List Counter) (xs : List TypeStep) (rows : Rows) (d : Graph)
    (s : Progress) → AreTypesLinked r cs d → AreDrafts r (refs d) rows xs → s
    ≡ record {
      counters = cs;
      classes = replicate (length r) class.NoValue;
      targets =
          replicate (length r) None;
      settled = [];
      steps = xs;
      rows = rows;
    } → IsStart r d s
start r cs xs rows d s h drafts is = record {
  ready = record { linked = h.linked; types = h.types; read = h.read; counted = h.counted };
  listed = h.listed;
  consistent = rw (is, h.counters) (start_consistent r xs rows
      (subst (λ (ys : List ℕ). AreDrafts r ys rows xs) (h.read ∙ all_references r) drafts));
}

-- ---- where all references were propagated

-- a rule whose parts have all settled has settled its owner
pub record ClosesRule (f : ℕ → Bool) (x : Rule) : Type 0 where
  pub at : settles x.kind ≡ true → list_all f x.parts ≡ true → f x.owner ≡ true

-- a number that is 1 where a test holds and else 0 is above 0 where it holds
one_is : (b : Bool) (n : ℕ) → n ≡ cond b 1 0 → b ≡ true → 0 < n
one_is true n e f = omega (arith, e)
one_is false n e f = absurd cc

-- in the end a reference was looked at once where its type has settled, and else never
pub propagated_if : (r : List TypeInfo) (a b : Graph) (s n : Progress) (done e : ℕ) →
    PropagatesAll r a b s n done → e < length (all_parts (rules r)) →
    times e b.looks.listed.entries ≡ cond (has_settled n (to_at r e)) 1 0
propagated_if r a b s n done e h small =
    let all : take done n.settled ≡ n.settled = take_all done n.settled (omega (arith, h.all)) in
    h.propagated.propagated e small ∙ ap (times (to_at r e)) all
    ∙ h.propagated.steady.consistent.queue (to_at r e)

-- in the end, a rule that settles and whose parts have all settled has settled its owner
closes : (r : List TypeInfo) (a b : Graph) (s n : Progress) (done : ℕ) →
    PropagatesAll r a b s n done → (k : ℕ) → k < length (rules r) →
    ClosesRule (has_settled n) (rule_at r k)
closes r a b s n done h k lt =
    record { at = λ e all. h.propagated.steady.closed.at k e (left all) } where
      left : list_all (has_settled n) (rule_at r k).parts ≡ true → (counter_at n k).left ≡ 0
      left all = h.propagated.steady.consistent.left k
          ∙ waiting-zero 0 (numbers_from 0 (rules r)) k b.looks.listed.entries (λ j small is.
          let small' : j < length (all_parts (rules r)) =
          omega (arith, small, numbers-length 0 (rules r)) in
          let settled : has_settled n (to_at r j) ≡ true =
          parts_all (has_settled n) 0 (rules r) j k small' (is ∙ omega arith) all in
          let at : 0 + j ≡ j = omega arith in
          rw at (one_is (has_settled n (to_at r j)) (times j b.looks.listed.entries)
          (propagated_if r a b s n done j h small') settled))

-- what holds at each place of a list holds of all that is in it
pub all_from : {X : Type 0} (P : X → Type 0) (xs : List X) (d : X) →
    ((k : ℕ) → k < length xs → P (get_or xs k d)) → AllByRecursion P xs
all_from P [] d h = tt
all_from P (x ∷ xs) d h =
    (h 0 (omega arith), all_from P xs d (λ k lt. h (suc k) (omega (arith, lt))))

-- ---- the rules of one type

-- what holds of all rules of a registry holds of all rules of each of its types
pub rules_at : (P : Rule → Type 0) (r : List TypeInfo) (i t : ℕ) (d : TypeDef) →
    AllByRecursion P (rules_from i r) → shape r t ≡ Some d → AllByRecursion P (rules_of (i + t) d)
rules_at P [] i t d h e = absurd cc
rules_at P (x ∷ r) i zero d h e =
    let is : x.shape ≡ d = cc in
    let at : i + zero ≡ i = omega arith in
    rw (at, ← is) (all_front P (rules_of i x.shape) (rules_from (i + 1) r) h).0
rules_at P (x ∷ r) i (suc t) d h e =
    let at : i + 1 + t ≡ i + suc t = omega arith in
    rw at at (rules_at P r (i + 1) t d (all_front P (rules_of i x.shape) (rules_from (i + 1) r) h).1
    e)

-- the rule for fields or members settles its owner, however many they are
settles_parts : (n : ℕ) → settles (kind_of_parts n) ≡ true
settles_parts zero = refl
settles_parts (suc zero) = refl
settles_parts (suc (suc n)) = refl

-- a variant has settled where the fields of a live arm have, if the rules of its arms are closed
arms_close : (f : ℕ → Bool) (t : ℕ) (seen : List ℕ) (arms : List Arm) →
    AllByRecursion (ClosesRule f) (arm_rules t seen arms) →
    list_any (λ a. list_all f (field_types a.fields)) (live_arms seen arms) ≡ true → f t ≡ true
arms_close f t seen [] h e = absurd cc
arms_close f t seen (a ∷ arms) h e =
    go (list_any (λ i. i == a.index) seen) refl h e (λ s. arms_close f t s arms) where
      go : (b : Bool) → list_any (λ i. i == a.index) seen ≡ b →
          AllByRecursion (ClosesRule f)
          (cond b (rule t kind.Idle (field_types a.fields) ∷ arm_rules t seen arms)
          (rule t (kind.Fixed found_sized) (field_types a.fields)
          ∷ arm_rules t (a.index ∷ seen) arms))
          → list_any (λ x. list_all f (field_types x.fields))
          (cond b (live_arms seen arms) (a ∷ live_arms (a.index ∷ seen) arms)) ≡ true →
          ((s : List ℕ) → AllByRecursion (ClosesRule f) (arm_rules t s arms) →
          list_any (λ x. list_all f (field_types x.fields)) (live_arms s arms)
          ≡ true → f t ≡ true) →
          f t ≡ true
      go true p k e' more = more seen k.1 e'
      go false p k e' more = elim (or_parts (list_all f (field_types a.fields))
          (list_any (λ x. list_all f (field_types x.fields))
          (live_arms (a.index ∷ seen) arms)) e') [
            | inl here ↦ k.0.at refl here
            | inr there ↦ more (a.index ∷ seen) k.1 there
          ]

-- a compact settles
pub record SettlesCompact (f : ℕ → Bool) (x : Rule) : Type 0 where
  pub at : x.kind ≡ kind.Compact → f x.owner ≡ true

-- a type that has a value by those that settled has settled, by its rules and if compacts do
step_closed : (f : ℕ → Bool) (t : ℕ) (d : TypeDef) → AllByRecursion (ClosesRule f) (rules_of t d) →
    AllByRecursion (SettlesCompact f) (rules_of t d) → finite_step f d ≡ true → f t ≡ true
step_closed f t (Def.Composite fs) h k e = h.0.at (settles_parts (length fs)) e
step_closed f t (Def.Variant arms) h k e = arms_close f t [] arms h e
step_closed f t (Def.Sequence u) h k e = h.0.at refl refl
step_closed f t (Def.Array zero u) h k e = h.0.at refl refl
step_closed f t (Def.Array (suc n) u) h k e = h.0.at refl (rw e refl)
step_closed f t (Def.Tuple ts) h k e = h.0.at (settles_parts (length ts)) e
step_closed f t (Def.Primitive p) h k e = h.0.at refl refl
step_closed f t (Def.Compact u) h k e = k.0.at refl
step_closed f t (Def.BitSequence store order form) h k e = h.0.at refl refl

-- a test that holds at a position holds of the definition that stands there
by_shape : (r : List TypeInfo) (t : ℕ) (P : Type 0) (test : TypeDef → Bool) →
    holds_at r test t ≡ true → ((d : TypeDef) → shape r t ≡ Some d → test d ≡ true → P) → P
by_shape r t P test e h = go (shape r t) refl e where
  go : (o : Option TypeDef) → shape r t ≡ o → elim o [ Some d ↦ test d | None ↦ false ] ≡ true → P
  go (Some d) p q = h d p q
  go None p q = absurd cc

-- where rules are closed and compacts settle, a type that has a value of any depth has settled
finite_settled : (r : List TypeInfo) (f : ℕ → Bool) → AllByRecursion (ClosesRule f) (rules r) →
    AllByRecursion (SettlesCompact f) (rules r) → (k : ℕ) → Below (finite_within r k) f
unfolding finite_within
finite_settled r f h c zero = record { at = λ t e. absurd cc }
finite_settled r f h c (suc k) = record {
  at = λ t e. by_shape r t (f t ≡ true) (finite_step (finite_within r k)) e (λ d is q.
      let at : 0 + t ≡ t = omega arith in
      let hs : AllByRecursion (ClosesRule f) (rules_of t d) =
      rw at at (rules_at (ClosesRule f) r 0 t d h is) in
      let cs : AllByRecursion (SettlesCompact f) (rules_of t d) =
      rw at at (rules_at (SettlesCompact f) r 0 t d c is) in
      step_closed f t d hs cs (finite_grows (finite_within r k) f (finite_settled r f h c k) d q));
}

-- ---- targets

-- where parts lead to a target, their type settles if it does with them and they do by theirs
members_closed : (f : ℕ → Bool) (t : ℕ) (below : ℕ → Option Target) (m : Target) (ps : List ℕ) →
    ((u : ℕ) → below u ≡ Some m → f u ≡ true) → (list_all f ps ≡ true → f t ≡ true) →
    target_from below (leads_members ps) ≡ Some m → f t ≡ true
members_closed f t below m [] h k e = k refl
members_closed f t below m (u ∷ []) h k e = k (rw (h u e) refl)
members_closed f t below m (u ∷ v ∷ ps) h k e = absurd cc

-- a type that leads to a target has settled, by its rules, if those after it with one have
target_closed : (f : ℕ → Bool) (t : ℕ) (d : TypeDef) (below : ℕ → Option Target) (m : Target) →
    AllByRecursion (ClosesRule f) (rules_of t d) → ((u : ℕ) → below u ≡ Some m → f u ≡ true) →
    target_from below (leads_shape d) ≡ Some m → f t ≡ true
target_closed f t (Def.Composite fs) below m h k e =
    members_closed f t below m (field_types fs) k (h.0.at (settles_parts (length fs))) e
target_closed f t (Def.Variant arms) below m h k e = absurd cc
target_closed f t (Def.Sequence u) below m h k e = absurd cc
target_closed f t (Def.Array zero u) below m h k e = absurd cc
target_closed f t (Def.Array (suc n) u) below m h k e = absurd cc
target_closed f t (Def.Tuple ts) below m h k e =
    members_closed f t below m (ids ts) k (h.0.at (settles_parts (length ts))) e
target_closed f t (Def.Primitive p) below m h k e = h.0.at refl refl
target_closed f t (Def.Compact u) below m h k e = absurd cc
target_closed f t (Def.BitSequence store order form) below m h k e = absurd cc

-- where all rules are closed, each type that has a target has settled
target_settled : (r : List TypeInfo) (f : ℕ → Bool) → AllByRecursion (ClosesRule f) (rules r) →
    (k t : ℕ) (m : Target) → target_within r k t ≡ Some m → f t ≡ true
target_settled r f h zero t m e = absurd cc
target_settled r f h (suc k) t m e = go (shape r t) refl e (target_settled r f h k) where
  go : (o : Option TypeDef) → shape r t ≡ o →
      target_from (target_within r k) (elim o [ Some d ↦ leads_shape d | None ↦ nowhere ])
      ≡ Some m → ((u : ℕ) (n : Target) → target_within r k u ≡ Some n → f u ≡ true) → f t ≡ true
  go (Some d) p q more =
      let at : 0 + t ≡ t = omega arith in
      let hs : AllByRecursion (ClosesRule f) (rules_of t d) =
      rw at at (rules_at (ClosesRule f) r 0 t d h p) in
      target_closed f t d (target_within r k) m hs (λ u. more u m) q
  go None p q more = absurd cc

-- ---- before the compacts without a target settle

-- when nothing more settles, a compact that has not settled takes bytes and has no target
pub bad : (r : List TypeInfo) (a b : Graph) (s n : Progress) (done : ℕ) →
    PropagatesAll r a b s n done → IsBad r n
bad r a b s n done h = record { at = λ k lt e unset. go k lt e unset } where
  all : AllByRecursion (ClosesRule (has_settled n)) (rules r)
  all = all_from (ClosesRule (has_settled n)) (rules r) nothing (closes r a b s n done h)

  compact : (k u : ℕ) → (rule_at r k).kind ≡ kind.Compact → (rule_at r k).parts ≡ u ∷ [] →
      k < length (rules r) → has_settled n (rule_at r k).owner ≡ false → (o : Option Target) →
      target_of r u ≡ o → target_of r u ≡ None
  compact k u e one lt unset None is = is
  compact k u e one lt unset (Some m) is =
      let there : has_settled n u ≡ true = target_settled r (has_settled n) all (length r) u m is in
      let yes : has_settled n (rule_at r k).owner ≡ true =
      (closes r a b s n done h k lt).at (rw e refl) (rw (one, there) refl) in
      absurd (let no = sym unset ∙ yes in cc)

  go : (k : ℕ) → k < length (rules r) → (rule_at r k).kind ≡ kind.Compact →
      has_settled n (rule_at r k).owner ≡ false → (class_of r (rule_at r k).owner ≡ class.Sized)
      × (target_of r (rule_at r k).owner ≡ None)
      × ((u : ℕ) → (rule_at r k).parts ≡ u ∷ [] → target_of r u ≡ None)
  go k lt e unset =
      let right = rw e at (rule_right r k lt).right in
      let none : target_of r right.0 ≡ None =
      compact k right.0 e right.1 lt unset (target_of r right.0) refl in (
        right.2 ∙ ap class_of_compact none,
        right.3,
        (λ u one. compact k u e one lt unset (target_of r u) refl),
      )

-- ---- where nothing more settles

-- when nothing more settles and each compact has, the tables report all classes and targets
pub classes_reported : (r : List TypeInfo) (a b : Graph) (s n : Progress) (done : ℕ) →
    PropagatesAll r a b s n done → AreCompactsSettled r n → ReportsClasses r n.classes
    × ReportsTargets r n.targets
classes_reported r a b s n done h c =
    ((st.classes, λ t. class_at t (has_settled n t) refl), λ t. target_at t (has_settled n t) refl)
  where
    st : IsConsistent r b.looks.listed.entries n
    st = h.propagated.steady.consistent

    all : AllByRecursion (ClosesRule (has_settled n)) (rules r)
    all = all_from (ClosesRule (has_settled n)) (rules r) nothing (closes r a b s n done h)

    compacts : AllByRecursion (SettlesCompact (has_settled n)) (rules r)
    compacts = all_from (SettlesCompact (has_settled n)) (rules r) nothing
        (λ k lt. record { at = c.at k lt })

    class_at : (t : ℕ) (x : Bool) → has_settled n t ≡ x → known_class n.classes t ≡ class_of r t
    class_at t true e = (h.propagated.steady.consistent.right t e).0
    class_at t false e = no_value (known_class n.classes t) e
        ∙ sym (no_value (class_of r t) (has_value-class_of r t ∙ go (is_finite r t) refl)) where
          go : (x : Bool) → is_finite r t ≡ x → is_finite r t ≡ false
          go false p = p
          go true p = let yes = (finite_settled r (has_settled n)
              (all_from (ClosesRule (has_settled n)) (rules r) nothing (closes r a b s n done h))
              (all_from (SettlesCompact (has_settled n)) (rules r) nothing
              (λ k lt. record { at = c.at k lt })) (length r)).at t p in
              absurd (let no = sym e ∙ yes in cc)

    target_at : (t : ℕ) (x : Bool) → has_settled n t ≡ x → known_target n.targets t ≡ target_of r t
    target_at t true e = (h.propagated.steady.consistent.right t e).1
    target_at t false e = h.propagated.steady.consistent.unset t e
        ∙ sym (go (target_of r t) refl) where
          go : (o : Option Target) → target_of r t ≡ o → target_of r t ≡ None
          go None p = p
          go (Some m) p = let yes =
              target_settled r (has_settled n)
              (all_from (ClosesRule (has_settled n)) (rules r) nothing (closes r a b s n done h))
              (length r) t m p in absurd (let no = sym e ∙ yes in cc)

-- ---- references and looks

-- in a registry whose types are all linked, each reference is a position
pub types_linked_checked : (r : List TypeInfo) (cs : List Counter) (d : Graph) →
    AreTypesLinked r cs d → IsChecked r
types_linked_checked r cs d h =
    let known : AreKnown (length d.registry) (refs d) = h.linked.known in
    let known' : AreKnown (length r) (flat_map (λ i. references i.shape) r) =
    rw (h.types, h.read ∙ all_references r) at known in
    checked_by (length r) r known'

-- a number that is 1 where a test holds and else 0 is at most 1
pub few : (b : Bool) (n : ℕ) → n ≡ cond b 1 0 → n ≤ 1
few true n e = omega (arith, e)
few false n e = omega (arith, e)

-- in the end each reference was looked at once at most in its list
pub listed_once : (r : List TypeInfo) (a b : Graph) (s n : Progress) (done : ℕ) →
    PropagatesAll r a b s n done → (e : ℕ) → times e b.looks.listed.entries ≤ 1
listed_once r a b s n done h e = elim (cases_lt e (length (all_parts (rules r)))) [
  | inl small ↦ few (has_settled n (to_at r e)) (times e b.looks.listed.entries)
      (propagated_if r a b s n done e h small)
  | inr past ↦ elim (cases_lt 0 (times e b.looks.listed.entries)) [
    | inl more ↦ absurd (omega (arith, past, h.propagated.steady.consistent.known e more))
    | inr none ↦ omega (arith, none)
  ]
]

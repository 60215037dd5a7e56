-- A type settles.
use Rattle.std.proofs.Common.{◌≡◌, ◌≢◌, ℕ, zero, suc, ◌+◌, ◌<◌, Bool, true, false, cond, List, []}
use Rattle.std.proofs.Common.{◌∷◌, ◌++◌, length, set, Option, Some, None, refl, sym, ap, ◌∙◌, ◌⊎◌}
use Rattle.std.proofs.Common.{arith, inl, inr}
use Rattle.std.specs.Prelude.{◌==◌, ◌&&◌, ◌||◌, not, slice_get}
use Rattle.std.specs.List.{list_all, list_any}
use Rattle.std.proofs.lemmas.Bool.{eqb-true, eq-eqb, cases_eq}
use Rattle.std.proofs.lemmas.List.{append_assoc, append-nil, length-set, length_push}
use Rattle.std.proofs.lemmas.List.{get_or-set_same, get_or-set_other}
use Rattle.scale_core.specs.declared.compact.Target.{Target}
use Rattle.types_core.specs.declared.definition.TypeDef.{TypeDef}
use Rattle.types_core.specs.declared.type_info.TypeInfo.{TypeInfo}
use Rattle.graph_core.specs.Types.{shape}
use Rattle.widths_core.specs.declared.class.Class.{Class}
use Rattle.widths_core.specs.declared.class.Class.TheVariants as class
use Rattle.widths_core.specs.declared.counter.Found.{Found}
use Rattle.widths_core.specs.declared.counter.Kind.{Kind}
use Rattle.widths_core.specs.declared.counter.Kind.TheVariants as kind
use Rattle.widths_core.specs.Targets.{target_of}
use Rattle.widths_core.specs.Classes.{class_of, is_unit}
use Rattle.widths_core.specs.ClassTables.{joined, class_of_parts, class_of_compact, known_class}
use Rattle.widths_core.specs.ClassTables.{known_target, has_value}
use Rattle.graph_core.specs.Counts.{times}
use Rattle.widths_core.specs.Rules.{rules, class_by, outcome, all_parts, numbers_from}
use Rattle.widths_core.specs.declared.counter.Counter.{Counter}
use Rattle.widths_core.specs.declared.type_step.TypeStep.{TypeStep}
use Rattle.widths_core.specs.Completing.{settled_step, step_at, written}
use Rattle.widths_core.specs.Progress.{Progress, counter_at, is_sized, settled_as, settled_by}
use Rattle.widths_core.specs.Progress.{completed}
use Rattle.widths_core.specs.Consistent.{rule_at, to_at, rule_number, unsettled, has_settled}
use Rattle.widths_core.specs.Consistent.{settles, so_far, told, IsStepSoFar, IsConsistent}
use Rattle.widths_core.specs.Steps.{references_of, IsDraft, IsRow}
use Rattle.widths_core.proofs.RuleKinds.{rule_kind, HasKind}
use Rattle.widths_core.proofs.StepsSoFar.{chosen, written_same, written_other, written-length}
use Rattle.widths_core.proofs.StepsSoFar.{step_is, settles_step, KnowsLast}
use Rattle.widths_core.specs.Propagation.{Follows}
use Rattle.widths_core.proofs.Ranks.{and_parts, or_parts}
use Rattle.widths_core.proofs.RuleRight.{IsRightBy, rule_right, joined-empty}
use Rattle.widths_core.proofs.Waiting.{times-append, times-other, waiting-none, numbers-length}
use Rattle.widths_core.proofs.Waiting.{parts_any, parts_each}

-- each state follows itself
pub follows_same : (s : Progress) → Follows s s
follows_same s = record { keeps = λ t e. e; more = []; settled = sym (append-nil s.settled) }

-- a state that follows one that follows a first follows the first
pub follows_on : (a b c : Progress) → Follows a b → Follows b c → Follows a c
follows_on a b c h k = record {
  keeps = λ t e. k.keeps t (h.keeps t e);
  more = h.more ++ k.more;
  settled = k.settled ∙ ap (λ (xs : List ℕ). xs ++ k.more) h.settled
      ∙ append_assoc a.settled h.more k.more;
}

-- this is what type t is
pub record IsFound (r : List TypeInfo) (t : ℕ) (f : Found) : Type 0 where
  pub class : class_of r t ≡ f.class
  pub target : target_of r t ≡ f.target
  pub value : has_value f.class ≡ true

abbrev with_type_found : Progress → ℕ → Found → Option TypeStep → Progress
with_type_found s t f o = record {
  counters = s.counters;
  classes = set s.classes t f.class;
  targets =
      set s.targets t f.target;
  settled = s.settled ++ t ∷ [];
  steps = written s.steps t o;
  rows = s.rows;
}

-- where this was found of a type that has not settled, its step becomes the one so far
pub record CompletesStep (r : List TypeInfo) (s : Progress) (t : ℕ) (f : Found)
    (o : Option TypeStep) : Type 0 where
  pub at : (d : TypeDef) (x : TypeStep) (known : Bool) → shape r t ≡ Some d →
      IsDraft (references_of r) (IsRow (references_of r) s.rows) d x →
      slice_get s.steps t ≡ Some (so_far r class.NoValue known d x) →
      chosen o (so_far r class.NoValue known d x) ≡ so_far r f.class known d x

-- a class without a value is NoValue
pub no_value : (c : Class) → has_value c ≡ false → c ≡ class.NoValue
no_value class.NoValue e = refl
no_value class.Empty e = absurd cc
no_value class.Sized e = absurd cc

-- a class that was put at a type's place is known as the type's
pub class_same : (cs : List Class) (t : ℕ) (c : Class) → t < length cs →
    known_class (set cs t c) t ≡ c
class_same cs t c lt = get_or-set_same cs t c class.NoValue lt

-- a class that is put at one type's place leaves the others as they are
pub class_other : (cs : List Class) (t u : ℕ) (c : Class) → u ≢ t →
    known_class (set cs t c) u ≡ known_class cs u
class_other cs t u c ne = get_or-set_other cs t u c class.NoValue ne

-- where a type that had not settled gets a class with a value, one less has not settled
unsettled-set : (cs : List Class) (t : ℕ) (c : Class) → t < length cs →
    has_value (known_class cs t) ≡ false → has_value c ≡ true →
    unsettled (set cs t c) + 1 ≡ unsettled cs
unsettled-set [] t c lt e f = absurd (omega arith)
unsettled-set (d ∷ cs) zero c lt e f = rw (e, f) (omega arith)
unsettled-set (d ∷ cs) (suc t) c lt e f =
    omega (arith, unsettled-set cs t c (omega (arith, lt)) e f)

-- no test both holds and fails
both : (b : Bool) → b ≡ true → b ≡ false → ⊥
both b e f = let no = sym e ∙ f in cc

-- what had settled has settled after a further type gets a class with a value
with_keeps : (s : Progress) (t : ℕ) (f : Found) (o : Option TypeStep) → t < length s.classes →
    has_value f.class ≡ true → (u : ℕ) → has_settled s u ≡ true →
    has_settled (with_type_found s t f o) u ≡ true
with_keeps s t f o lt v u e = elim (cases_eq u t) [
  | inl same ↦ rw (same, class_same s.classes t f.class lt) v
  | inr other ↦ rw (class_other s.classes t u f.class other) e
]

-- all stays consistent where a type settles as what it is and had not settled before
with_consistent : (r : List TypeInfo) (propagated : List ℕ) (s : Progress) (t : ℕ) (f : Found)
    (o : Option TypeStep) → IsConsistent r propagated s → t < length r → has_settled s t ≡ false →
    IsFound r t f → CompletesStep r s t f o →
    IsConsistent r propagated (with_type_found s t f o)
with_consistent r propagated s t f o h lt e found completes =
    let in_classes : t < length s.classes = omega (arith, h.classes, lt) in
    let in_targets : t < length s.targets = omega (arith, h.targets, lt) in
    record {
      classes = length-set s.classes t f.class ∙ h.classes;
      targets = length-set s.targets t f.target ∙ h.targets;
      counters = h.counters;
      owner = h.owner;
      kind = h.kind;
      left = h.left;
      sized = h.sized;
      known = h.known;
      part_settled = λ x more. with_keeps s t f o in_classes found.value (to_at r x)
          (h.part_settled x more);
      right = λ u v. right in_classes in_targets u (cases_eq u t) v;
      unset = λ u v. unset in_classes in_targets u (cases_eq u t) v;
      queue = λ u. queue in_classes u (cases_eq u t);
      room = omega (
        arith,
        h.room,
        length_push s.settled t,
        unsettled-set s.classes t f.class in_classes e found.value,
      );
      paired = h.paired;
      steps = written-length s.steps t o ∙ h.steps;
      step = λ u d shape_is. step in_classes u d (cases_eq u t) (h.step u d shape_is) shape_is;
    } where
      step : t < length s.classes → (u : ℕ) (d : TypeDef) → (u ≡ t) ⊎ (u ≢ t) →
          IsStepSoFar r propagated s u d → shape r u ≡ Some d →
          IsStepSoFar r propagated (with_type_found s t f o) u d
      step a u d (inl same) k shape_is =
          let known = told r propagated t in
          let none : known_class s.classes t ≡ class.NoValue =
          no_value (known_class s.classes t) e in
          let before : slice_get s.steps t ≡ Some (so_far r class.NoValue known d k.0) =
          rw none at (rw same at k.2) in
          let shape_t : shape r t ≡ Some d = rw same at shape_is in
          let becomes = completes.at d k.0 known shape_t k.1 before in (
            k.0,
            k.1,
            rw (same, class_same s.classes t f.class a)
                (written_same s.steps t o (so_far r class.NoValue known d k.0) before
                ∙ ap (λ (y : TypeStep). Some y) becomes),
          )
      step a u d (inr other) k shape_is = (
        k.0,
        k.1,
        rw (class_other s.classes t u f.class other) (written_other s.steps t u o other ∙ k.2),
      )

      right : t < length s.classes → t < length s.targets → (u : ℕ) → (u ≡ t) ⊎ (u ≢ t) →
          has_settled (with_type_found s t f o) u ≡ true →
          (known_class (set s.classes t f.class) u ≡ class_of r u)
          × (known_target (set s.targets t f.target) u ≡ target_of r u)
      right a b u (inl same) v =
          rw (same, class_same s.classes t f.class a, get_or-set_same s.targets t f.target None b)
          (sym found.class, sym found.target)
      right a b u (inr other) v = let v' : has_settled s u ≡ true =
          rw (class_other s.classes t u f.class other) at v in
          rw (
            class_other s.classes t u f.class other,
            get_or-set_other s.targets t u f.target None other,
          ) (h.right u v')

      unset : t < length s.classes → t < length s.targets → (u : ℕ) → (u ≡ t) ⊎ (u ≢ t) →
          has_settled (with_type_found s t f o) u ≡ false →
          known_target (set s.targets t f.target) u ≡ None
      unset a b u (inl same) v =
          absurd (both (has_settled (with_type_found s t f o) u)
          (rw (same, class_same s.classes t f.class a) found.value) v)
      unset a b u (inr other) v = let v' : has_settled s u ≡ false =
          rw (class_other s.classes t u f.class other) at v in
          rw (get_or-set_other s.targets t u f.target None other) (h.unset u v')

      queue : t < length s.classes → (u : ℕ) → (u ≡ t) ⊎ (u ≢ t) →
          times u (s.settled ++ t ∷ []) ≡ cond (has_settled (with_type_found s t f o) u) 1 0
      queue a u (inl same) = let none : times u s.settled ≡ 0 = h.queue u ∙ rw (same, e) refl in
          rw (
            times-append u s.settled (t ∷ []),
            none,
            same,
            class_same s.classes t f.class a,
            found.value,
            eq-eqb t t refl,
          ) refl
      queue a u (inr other) = rw (
        times-append u s.settled (t ∷ []),
        times-other u t [] (λ is. other (sym is)),
        class_other s.classes t u f.class other,
      )
          (omega (arith, h.queue u))

-- what a type that settles does
pub record SettlesTo (r : List TypeInfo) (propagated : List ℕ) (s n : Progress) (t : ℕ) : Type 0
  where
    pub consistent : IsConsistent r propagated n
    pub follows : Follows s n
    pub counters : n.counters ≡ s.counters
    pub settled : has_settled n t ≡ true

-- a type settles, or has settled before, and all stays consistent if what was found is right
pub settles_to : (r : List TypeInfo) (propagated : List ℕ) (s : Progress) (t : ℕ) (f : Found)
    (o : Option TypeStep) → IsConsistent r propagated s → t < length r →
    (has_settled s t ≡ false → IsFound r t f) →
    (has_settled s t ≡ false → CompletesStep r s t f o) →
    SettlesTo r propagated s (settled_as s t f o) t
settles_to r propagated s t f o h lt found completes = go (has_settled s t) refl where
  go : (b : Bool) → has_settled s t ≡ b →
      SettlesTo r propagated s (cond b s (with_type_found s t f o)) t
  go true e = record { consistent = h; follows = follows_same s; counters = refl; settled = e }
  go false e =
      let is = found e in
      let in_classes : t < length s.classes = omega (arith, h.classes, lt) in
      record {
        consistent = with_consistent r propagated s t f o h lt e is (completes e);
        follows = record {
          keeps = with_keeps s t f o in_classes is.value;
          more = t ∷ [];
          settled =
              refl;
        };
        counters = refl;
        settled = rw (class_same s.classes t f.class in_classes) is.value;
      }

-- ---- parts that all have values

-- where all parts have values, they are Sized together if one is, and else Empty
parts_sized : (f : ℕ → Class) (ps : List ℕ) → list_all (λ p. has_value (f p)) ps ≡ true →
    class_of_parts f ps ≡ class_by (list_any (λ p. is_sized (f p)) ps)
parts_sized f [] h = refl
parts_sized f (p ∷ ps) h = let parts =
    and_parts (has_value (f p)) (list_all (λ q. has_value (f q)) ps) h in
    go (f p) (list_any (λ q. is_sized (f q)) ps) parts.0 (parts_sized f ps parts.1) where
      go : (c : Class) (b : Bool) → has_value c ≡ true → class_of_parts f ps ≡ class_by b →
          joined c (class_of_parts f ps) ≡ class_by (is_sized c || b)
      go class.NoValue b v e = absurd cc
      go class.Empty b v e = e
      go class.Sized true v e = rw e refl
      go class.Sized false v e = rw e refl

-- where a test fails for each in a list, it holds for none
any_not : (test : ℕ → Bool) (ps : List ℕ) → list_all (λ p. not (test p)) ps ≡ true →
    list_any test ps ≡ false
any_not test [] h = refl
any_not test (p ∷ ps) h = let parts =
    and_parts (not (test p)) (list_all (λ q. not (test q)) ps) h in
    go (test p) parts.0 (any_not test ps parts.1) where
      go : (b : Bool) → not b ≡ true → list_any test ps ≡ false → (b || list_any test ps) ≡ false
      go true v e = absurd cc
      go false v e = e

-- one of these that passes
some_propagated : (test : ℕ → Bool) (xs : List ℕ) → list_any test xs ≡ true → (e : ℕ)
    × (0 < times e xs) × (test e ≡ true)
some_propagated test [] h = absurd cc
some_propagated test (x ∷ xs) h = elim (or_parts (test x) (list_any test xs) h) [
  | inl here ↦ (x, rw (eq-eqb x x refl) (omega arith), here)
  | inr there ↦ let s = some_propagated test xs there in (s.0, omega (arith, s.1), s.2)
]

-- where a test holds for none in a list, it fails for what is in it
none_propagated : (test : ℕ → Bool) (xs : List ℕ) (e : ℕ) → list_any test xs ≡ false →
    0 < times e xs → test e ≡ false
none_propagated test [] e h lt = absurd (omega (arith, lt))
none_propagated test (x ∷ xs) e h lt =
    go (test x) (list_any test xs) refl refl (cases_eq x e) h (none_propagated test xs e) where
      go : (a b : Bool) → test x ≡ a → list_any test xs ≡ b → (x ≡ e) ⊎ (x ≢ e) → (a || b) ≡ false →
          (list_any test xs ≡ false → 0 < times e xs → test e ≡ false) → test e ≡ false
      go true b p q c f rest = absurd cc
      go false true p q c f rest = absurd cc
      go false false p q (inl same) f rest = rw same at p
      go false false p q (inr other) f rest = rest q (omega (arith, lt, times-other e x xs other))

-- ---- a counter none of whose parts is left

pub record AreAllPartsFound (r : List TypeInfo) (propagated : List ℕ) (s : Progress)
    (k : ℕ) : Type 0 where
  pub values : list_all (λ p. has_value (class_of r p)) (rule_at r k).parts ≡ true
  pub sized : (counter_at s k).sized ≡ list_any (λ p. is_sized (class_of r p)) (rule_at r k).parts

-- a counter that has nothing left has only parts with values, and knows whether one takes bytes
pub whole : (r : List TypeInfo) (propagated : List ℕ) (s : Progress) (k : ℕ) →
    IsConsistent r propagated s → (counter_at s k).left ≡ 0 → AreAllPartsFound r propagated s k
whole r propagated s k h none =
    record { values = values; sized = h.sized k ∙ sized (list_any for_k propagated) refl } where
      for_k : ℕ → Bool
      for_k e = (rule_number r e == k) && is_sized (class_of r (to_at r e))

      all_propagated : (j : ℕ) → j < length (all_parts (rules r)) → rule_number r j ≡ k →
          0 < times j propagated
      all_propagated j lt is =
          let more : 0 < times (0 + j) propagated =
          waiting-none 0 (numbers_from 0 (rules r)) k propagated (sym (h.left k) ∙ none) j
          (omega (arith, lt, numbers-length 0 (rules r))) is in
          let at : 0 + j ≡ j = omega arith in
          rw at at more

      class_at : (j : ℕ) → 0 < times j propagated → has_value (class_of r (to_at r j)) ≡ true
      class_at j more = let s_at = h.part_settled j more in rw (h.right (to_at r j) s_at).0 at s_at

      values : list_all (λ p. has_value (class_of r p)) (rule_at r k).parts ≡ true
      values = parts_each (λ p. has_value (class_of r p)) 0 (rules r) k
          (λ j lt is. class_at j (all_propagated j lt (is ∙ omega arith)))

      sized : (b : Bool) → list_any for_k propagated ≡ b →
          b ≡ list_any (λ p. is_sized (class_of r p)) (rule_at r k).parts
      sized true e =
          let s = some_propagated for_k propagated e in
          let parts = and_parts (rule_number r s.0 == k)
          (is_sized (class_of r (to_at r s.0))) s.2 in
          sym (parts_any (λ p. is_sized (class_of r p)) 0 (rules r) s.0 k (h.known s.0 s.1)
          (eqb-true (rule_number r s.0) k parts.0 ∙ omega arith) parts.1)
      sized false e = sym (any_not (λ p. is_sized (class_of r p)) (rule_at r k).parts
          (parts_each (λ p. not (is_sized (class_of r p))) 0 (rules r) k
          (λ j lt is. one j (is ∙ omega arith)
          (none_propagated for_k propagated j e (all_propagated j lt (is ∙ omega arith)))))) where
            one : (j : ℕ) → rule_number r j ≡ k → for_k j ≡ false →
                not (is_sized (class_of r (to_at r j))) ≡ true
            one j is f = go (is_sized (class_of r (to_at r j)))
                (rw (eq-eqb (rule_number r j) k is) at f)
              where
                go : (b : Bool) → b ≡ false → not b ≡ true
                go true p = sym p
                go false p = refl

-- parts that all have values have one together, whether they take bytes or not
class_by-value : (b : Bool) → has_value (class_by b) ≡ true
class_by-value true = refl
class_by-value false = refl

-- a compact always has a value by its class
pub compact-value : (o : Option Target) → has_value (class_of_compact o) ≡ true
compact-value o = go (is_unit o) where
  go : (b : Bool) → has_value (cond b class.Empty class.Sized) ≡ true
  go true = refl
  go false = refl

-- what a right rule finds of its owner is so, where all parts have values
found_by : (r : List TypeInfo) (t : ℕ) (ps : List ℕ) (k : Kind) (b : Bool) (last : Option Target) →
    IsRightBy r t ps k → list_all (λ p. has_value (class_of r p)) ps ≡ true →
    b ≡ list_any (λ p. is_sized (class_of r p)) ps →
    ((u : ℕ) → ps ≡ u ∷ [] → last ≡ target_of r u) → (f : Found) → outcome k b last ≡ Some f →
    IsFound r t f
found_by r t ps kind.Idle b last h v s m f e = absurd cc
found_by r t ps kind.Parts b last h v s m f e =
    let is : record { class = class_by b; target = None } ≡ f = cc in
    let class : class_of r t ≡ class_by b = h.0 ∙ parts_sized (class_of r) ps v
    ∙ ap class_by (sym s) in
    rw (← is) (record { class = class; target = h.1; value = class_by-value b })
found_by r t ps kind.Array b last h v s m f e =
    let is : record { class = class_by b; target = None } ≡ f = cc in
    let class : class_of r t ≡ class_by b = h.0 ∙ parts_sized (class_of r) ps v
    ∙ ap class_by (sym s) in
    rw (← is) (record { class = class; target = h.1; value = class_by-value b })
found_by r t ps kind.Sequence b last h v s m f e = absurd cc
found_by r t ps kind.Wrap b last h v s m f e =
    let is : record { class = class_by b; target = last } ≡ f = cc in
    let one : class_of_parts (class_of r) ps ≡ class_of r h.0 =
    rw h.1 (joined-empty (class_of r h.0)) in
    let class : class_of r t ≡ class_by b = h.2 ∙ sym one ∙ parts_sized (class_of r) ps v
    ∙ ap class_by (sym s) in
    rw (← is) (record { class = class; target = h.3 ∙ sym (m h.0 h.1); value = class_by-value b })
found_by r t ps kind.Compact b last h v s m f e =
    let is : record { class = class_of_compact last; target = None } ≡ f = cc in
    rw (← is) (record {
      class = h.2 ∙ ap class_of_compact (sym (m h.0 h.1));
      target = h.3;
      value =
          compact-value last;
    })
found_by r t ps (kind.Fixed g) b last h v s m f e =
    let is : g ≡ f = cc in
    rw (← is) (record { class = h.1 v; target = h.2; value = h.0 })

-- a counter none of whose parts is left settles its owner
pub record CompletesTo (r : List TypeInfo) (propagated : List ℕ) (s n : Progress) (k : ℕ) : Type 0
  where
    pub consistent : IsConsistent r propagated n
    pub follows : Follows s n
    pub counters : n.counters ≡ s.counters
    pub settled : settles (rule_at r k).kind ≡ true → has_settled n (rule_at r k).owner ≡ true

-- where what a rule finds is right, its owner settles, unless the rule settles none
by_outcome : (r : List TypeInfo) (propagated : List ℕ) (s : Progress) (k : ℕ) (c : Counter)
    (last : Option Target) (byte : Bool) (o : Option Found) → IsConsistent r propagated s →
    c.owner ≡ (rule_at r k).owner → (rule_at r k).owner < length r →
    ((f : Found) → o ≡ Some f → IsFound r (rule_at r k).owner f) →
    ((f : Found) → o ≡ Some f → CompletesStep r s (rule_at r k).owner f
    (settled_step c.kind f.class last byte (step_at s.steps (rule_at r k).owner))) →
    (o ≡ None → settles (rule_at r k).kind ≡ false) →
    CompletesTo r propagated s (settled_by s c o last byte) k
by_outcome r propagated s k c last byte None h own lt found completes idle =
    record {
      consistent = h;
      follows = follows_same s;
      counters = refl;
      settled =
          λ e. absurd (both (settles (rule_at r k).kind) e (idle refl));
    }
by_outcome r propagated s k c last byte (Some f) h own lt found completes idle =
    let done = settles_to r propagated s (rule_at r k).owner f
    (settled_step c.kind f.class last byte (step_at s.steps (rule_at r k).owner)) h lt
    (λ _. found f refl) (λ _. completes f refl) in
    rw own (record {
      consistent = done.consistent;
      follows = done.follows;
      counters = done.counters;
      settled = λ _. done.settled;
    })

-- a rule that finds nothing settles no owner
idle_only : (k : Kind) (b : Bool) (last : Option Target) → outcome k b last ≡ None →
    settles k ≡ false
idle_only kind.Idle b last e = refl
idle_only kind.Parts b last e = absurd cc
idle_only kind.Array b last e = absurd cc
idle_only kind.Sequence b last e = refl
idle_only kind.Wrap b last e = absurd cc
idle_only kind.Compact b last e = absurd cc
idle_only (kind.Fixed f) b last e = absurd cc

-- the step of an owner is completed by its rule
completes_step : (r : List TypeInfo) (s : Progress) (k : ℕ) (sized : Bool) (last : Option Target)
    (byte : Bool) → k < length (rules r) → KnowsLast r (rule_at r k).parts last byte →
    (f : Found) → outcome (rule_at r k).kind sized last ≡ Some f → has_value f.class ≡ true →
    CompletesStep r s (rule_at r k).owner f
    (settled_step (rule_at r k).kind f.class last byte (step_at s.steps (rule_at r k).owner))
completes_step r s k sized last byte lt m f e v = record {
  at = λ d x known shape_is draft before.
      let own = rule_kind r k lt in
      let same : own.definition ≡ d = some_is own.definition d (sym own.at ∙ shape_is) in
      let has : HasKind d (rule_at r k).kind (rule_at r k).parts = rw same at own.kind in
      rw (step_is s.steps (rule_at r k).owner (so_far r class.NoValue known d x) before)
      (settles_step r (references_of r) (IsRow (references_of r) s.rows) d (rule_at r k).kind
      (rule_at r k).parts sized last byte f known x has m e v draft);
} where
  some_is : (a b : TypeDef) → Some a ≡ Some b → a ≡ b
  some_is a b q = cc

-- a counter that has nothing left settles its owner, as what that is
pub completes_to : (r : List TypeInfo) (propagated : List ℕ) (s : Progress) (k : ℕ)
    (last : Option Target) (byte : Bool) → IsConsistent r propagated s → k < length (rules r) →
    (counter_at s k).left ≡ 0 → KnowsLast r (rule_at r k).parts last byte →
    CompletesTo r propagated s (completed s (counter_at s k) last byte) k
completes_to r propagated s k last byte h lt none m =
    let right = rule_right r k lt in
    let all = whole r propagated s k h none in
    let sized = (counter_at s k).sized in
    let found = found_by r (rule_at r k).owner (rule_at r k).parts (rule_at r k).kind
    sized last right.right all.values all.sized m.target_is in
    by_outcome r propagated s k (counter_at s k) last byte
    (outcome (counter_at s k).kind sized last) h (h.owner k) right.owner
    (λ f e. found f (rw (h.kind k) at e))
    (λ f e. let e' : outcome (rule_at r k).kind sized last ≡ Some f = rw (h.kind k) at e in
    rw (h.kind k) (completes_step r s k sized last byte lt m f e' (found f e').value))
    (λ e. idle_only (rule_at r k).kind sized last (rw (h.kind k) at e))

-- A counter counts a part that has settled.
use Rattle.std.proofs.Common.{◌≡◌, ◌≢◌, ℕ, ◌+◌, ◌<◌, Bool, true, false, cond, List, [], ◌∷◌, length}
use Rattle.std.proofs.Common.{Some, refl, sym, ap, subst, ◌∙◌, ◌⊎◌, arith, inl, inr}
use Rattle.std.specs.Prelude.{◌==◌, ◌&&◌, ◌||◌, slice_get}
use Rattle.std.specs.List.{list_any}
use Rattle.std.proofs.lemmas.Bool.{eqb-true, eq-eqb, cases_eq, ne_eqb}
use Rattle.std.proofs.lemmas.List.{append-nil, length-set, get_or-set_same, get_or-set_other}
use Rattle.types_core.specs.declared.definition.TypeDef.{TypeDef}
use Rattle.types_core.specs.declared.type_info.TypeInfo.{TypeInfo}
use Rattle.graph_core.specs.Types.{shape}
use Rattle.widths_core.specs.declared.class.Class.{Class}
use Rattle.widths_core.specs.declared.counter.Kind.TheVariants as kind
use Rattle.widths_core.specs.declared.type_step.TypeStep.{TypeStep}
use Rattle.widths_core.specs.declared.counter.Found.{Found}
use Rattle.widths_core.specs.declared.counter.Counter.{Counter}
use Rattle.widths_core.specs.Targets.{target_of}
use Rattle.widths_core.specs.Classes.{class_of}
use Rattle.graph_core.specs.Counts.{times}
use Rattle.widths_core.specs.Rules.{rules, all_parts, numbers_from}
use Rattle.widths_core.specs.Progress.{Progress, counter_at, no_counter, is_sized, counter_after}
use Rattle.widths_core.specs.Progress.{completed, counted, part_settled}
use Rattle.widths_core.specs.ClassTables.{known_class}
use Rattle.widths_core.specs.Completing.{told_step, written}
use Rattle.widths_core.specs.Consistent.{rule_at, to_at, rule_number, waiting, has_settled, settles}
use Rattle.widths_core.specs.Consistent.{so_far, tells, told, IsStepSoFar, IsConsistent, IsClosed}
use Rattle.widths_core.specs.Layouts.{is_byte}
use Rattle.widths_core.specs.Steps.{references_of, IsDraft, IsRow}
use Rattle.widths_core.proofs.RuleKinds.{rule_kind, HasKind}
use Rattle.widths_core.proofs.StepsSoFar.{written_same, written_other, written-length, tells_is}
use Rattle.widths_core.proofs.StepsSoFar.{told_none, tells_step}
use Rattle.widths_core.specs.Propagation.{Follows}
use Rattle.widths_core.proofs.Settles.{completes_to}
use Rattle.widths_core.proofs.Waiting.{times-other, waiting-propagated, numbers-length, and_false}
use Rattle.widths_core.proofs.Waiting.{numbers-within, parts_any}

-- each reference of a registry is a part of one of its rules
pub number-lt : (r : List TypeInfo) (e : ℕ) → e < length (all_parts (rules r)) →
    rule_number r e < length (rules r)
number-lt r e lt = omega (arith, (numbers-within 0 (rules r) e lt).1)

-- one part fewer is left where reference e is propagated
propagated_left : (r : List TypeInfo) (propagated : List ℕ) (e k : ℕ) →
    e < length (all_parts (rules r)) → times e propagated ≡ 0 →
    waiting 0 (numbers_from 0 (rules r)) k propagated ≡ cond (rule_number r e == k)
    1 0 + waiting 0 (numbers_from 0 (rules r)) k (e ∷ propagated)
propagated_left r propagated e k lt none =
    let at : 0 + e ≡ e = omega arith in
    rw at at (waiting-propagated e 0 (numbers_from 0 (rules r)) k propagated
    (omega (arith, lt, numbers-length 0 (rules r))) (rw at none))

-- where a reference was not propagated, its counter has something left
pub left_some : (r : List TypeInfo) (propagated : List ℕ) (s : Progress) (e : ℕ) →
    IsConsistent r propagated s → e < length (all_parts (rules r)) → times e propagated ≡ 0 →
    0 < (counter_at s (rule_number r e)).left
left_some r propagated s e h lt none =
    let one : ◌≡◌ {A = ℕ} (cond (rule_number r e == rule_number r e) 1 0) 1 =
    rw (eq-eqb (rule_number r e) (rule_number r e) refl) refl in
    omega (
      arith,
      h.left (rule_number r e),
      propagated_left r propagated e (rule_number r e) lt none,
      one,
    )

-- which of two tests comes first in an or makes no difference
or_comm : (a b : Bool) → (a || b) ≡ (b || a)
or_comm true true = refl
or_comm true false = refl
or_comm false true = refl
or_comm false false = refl

-- a counter that was put at a place is read there
counter_same : (s : Progress) (k : ℕ) (c : Counter) (part : Class) (byte : Bool) →
    k < length s.counters → counter_at (counted s k c part byte) k ≡ c
counter_same s k c part byte lt = get_or-set_same s.counters k c no_counter lt

-- a counter that is put at one place leaves the others as they are
counter_other : (s : Progress) (k j : ℕ) (c : Counter) (part : Class) (byte : Bool) → j ≢ k →
    counter_at (counted s k c part byte) j ≡ counter_at s j
counter_other s k j c part byte ne = get_or-set_other s.counters k j c no_counter ne

abbrev part_counted : List TypeInfo → Progress → ℕ → Found → Bool → Progress
part_counted r s e f byte = counted s (rule_number r e)
    (counter_after (counter_at s (rule_number r e)) f.class) f.class byte

-- the one part of a rule is what each reference for it is to
only_part : (r : List TypeInfo) (e u : ℕ) → e < length (all_parts (rules r)) →
    (rule_at r (rule_number r e)).parts ≡ u ∷ [] → to_at r e ≡ u
only_part r e u lt one =
    let among : list_any (λ p. p == to_at r e) (rule_at r (rule_number r e)).parts ≡ true =
    parts_any (λ p. p == to_at r e) 0 (rules r) e (rule_number r e) lt (omega arith)
    (eq-eqb (to_at r e) (to_at r e) refl) in
    let here : ((u == to_at r e) || false) ≡ true = rw one at among in
    go (u == to_at r e) refl here where
      go : (b : Bool) → (u == to_at r e) ≡ b → (b || false) ≡ true → to_at r e ≡ u
      go true p q = sym (eqb-true u (to_at r e) p)
      go false p q = absurd cc

-- steps of other types than the owner of a rule are not told by its part, nor are those of other
-- rules than that of a sequence's element
told_other : (r : List TypeInfo) (propagated : List ℕ) (e t : ℕ) →
    (((rule_at r (rule_number r e)).owner == t) && tells (rule_at r (rule_number r e)).kind)
    ≡ false → told r (e ∷ propagated) t ≡ told r propagated t
told_other r propagated e t fails = rw fails refl

-- all stays consistent where the counter of a reference counts a part that has settled
counted_consistent : (r : List TypeInfo) (propagated : List ℕ) (s : Progress) (e : ℕ) (f : Found)
    (byte : Bool) → IsConsistent r propagated s → e < length (all_parts (rules r)) →
    times e propagated ≡ 0 → has_settled s (to_at r e) ≡ true →
    f.class ≡ class_of r (to_at r e) → byte ≡ is_byte (shape r (to_at r e)) →
    IsConsistent r (e ∷ propagated)
    (part_counted r s e f byte)
counted_consistent r propagated s e f byte h lt none settled is byte_is = record {
  classes = h.classes;
  targets = h.targets;
  counters = length-set s.counters (rule_number r e)
      (counter_after (counter_at s (rule_number r e)) f.class) ∙ h.counters;
  owner = λ k. owner k (cases_eq k (rule_number r e));
  kind = λ k. kind k (cases_eq k (rule_number r e));
  left = λ k. left k (cases_eq k (rule_number r e));
  sized = λ k. sized k (cases_eq k (rule_number r e));
  known = λ x more. known x (cases_eq e x) more;
  part_settled = λ x more. propagated_settled x (cases_eq e x) more;
  right = h.right;
  unset = h.unset;
  queue = h.queue;
  room = h.room;
  paired = h.paired;
  steps = written-length s.steps (counter_at s (rule_number r e)).owner
      (told_step (counter_at s (rule_number r e)).kind f.class byte) ∙ h.steps;
  step = λ t d shape_is. rw (h.owner (rule_number r e), h.kind (rule_number r e))
      (step t d (tells (rule_at r (rule_number r e)).kind) refl
      (cases_eq t (rule_at r (rule_number r e)).owner) (h.step t d shape_is) shape_is);
} where
  some_is : (a b : TypeDef) → Some a ≡ Some b → a ≡ b
  some_is a b q = cc

  step : (t : ℕ) (d : TypeDef) (b : Bool) → tells (rule_at r (rule_number r e)).kind ≡ b →
      (t ≡ (rule_at r (rule_number r e)).owner) ⊎ (t ≢ (rule_at r (rule_number r e)).owner) →
      IsStepSoFar r propagated s t d → shape r t ≡ Some d → (x : TypeStep)
      × IsDraft (references_of r) (IsRow (references_of r) s.rows) d x
      × (slice_get (written s.steps (rule_at r (rule_number r e)).owner
      (told_step (rule_at r (rule_number r e)).kind f.class byte)) t
      ≡ Some (so_far r (known_class s.classes t) (told r (e ∷ propagated) t) d x))
  step t d b kind_is (inr other) k shape_is =
      let no : (((rule_at r (rule_number r e)).owner == t)
      && tells (rule_at r (rule_number r e)).kind) ≡ false =
      rw (ne_eqb (rule_at r (rule_number r e)).owner t (λ same. other (sym same))) refl in (
        k.0,
        k.1,
        rw (told_other r propagated e t no)
            (written_other s.steps (rule_at r (rule_number r e)).owner t
            (told_step (rule_at r (rule_number r e)).kind f.class byte) other ∙ k.2),
      )
  step t d false kind_is (inl same) k shape_is =
      let no : (((rule_at r (rule_number r e)).owner == t)
      && tells (rule_at r (rule_number r e)).kind) ≡ false =
      rw kind_is (and_false ((rule_at r (rule_number r e)).owner == t)) in (
        k.0,
        k.1,
        rw (
          told_other r propagated e t no,
          told_none (rule_at r (rule_number r e)).kind f.class byte kind_is,
        ) k.2,
      )
  step t d true kind_is (inl same) k shape_is =
      let own = rule_kind r (rule_number r e) (number-lt r e lt) in
      let at : shape r t ≡ Some own.definition = ap (shape r) same ∙ own.at in
      let same_definition : own.definition ≡ d = some_is own.definition d (sym at ∙ shape_is) in
      let sequence : (rule_at r (rule_number r e)).kind ≡ kind.Sequence =
      tells_is (rule_at r (rule_number r e)).kind kind_is in
      let has : HasKind d kind.Sequence (rule_at r (rule_number r e)).parts =
      rw (sequence, same_definition) at own.kind in
      let yes : told r (e ∷ propagated) t ≡ true =
      rw (eq-eqb (rule_at r (rule_number r e)).owner t (sym same), kind_is) refl in (
        k.0,
        k.1,
        rw (yes, sequence) (rw (← same) (written_same s.steps t
            (told_step kind.Sequence f.class byte)
            (so_far r (known_class s.classes t) (told r propagated t) d k.0) k.2)
            ∙ ap (λ (y : TypeStep). Some y) (tells_step r (references_of r)
            (IsRow (references_of r) s.rows) d (rule_at r (rule_number r e)).parts (to_at r e)
            f.class (known_class s.classes t) byte (told r propagated t) k.0 has
            (λ u one. only_part r e u lt one) is byte_is k.1)),
      )

  small : rule_number r e < length s.counters
  small = omega (arith, h.counters, number-lt r e lt)

  owner : (k : ℕ) → (k ≡ rule_number r e) ⊎ (k ≢ rule_number r e) →
      (counter_at (part_counted r s e f byte) k).owner ≡ (rule_at r k).owner
  owner k (inl same) = rw (
    same,
    counter_same s (rule_number r e) (counter_after (counter_at s (rule_number r e)) f.class)
        f.class byte small,
  )
      (h.owner (rule_number r e))
  owner k (inr other) = rw (counter_other s (rule_number r e) k
      (counter_after (counter_at s (rule_number r e)) f.class) f.class byte other) (h.owner k)

  kind : (k : ℕ) → (k ≡ rule_number r e) ⊎ (k ≢ rule_number r e) →
      (counter_at (part_counted r s e f byte) k).kind ≡ (rule_at r k).kind
  kind k (inl same) = rw (
    same,
    counter_same s (rule_number r e) (counter_after (counter_at s (rule_number r e)) f.class)
        f.class byte small,
  )
      (h.kind (rule_number r e))
  kind k (inr other) = rw (counter_other s (rule_number r e) k
      (counter_after (counter_at s (rule_number r e)) f.class) f.class byte other) (h.kind k)

  left : (k : ℕ) → (k ≡ rule_number r e) ⊎ (k ≢ rule_number r e) →
      (counter_at (part_counted r s e f byte) k).left
      ≡ waiting 0 (numbers_from 0 (rules r)) k (e ∷ propagated)
  left k (inl same) =
      let one : ◌≡◌ {A = ℕ} (cond (rule_number r e == rule_number r e) 1 0) 1 =
      rw (eq-eqb (rule_number r e) (rule_number r e) refl) refl in
      rw (
        same,
        counter_same s (rule_number r e) (counter_after (counter_at s (rule_number r e)) f.class)
            f.class byte
            small,
      ) (omega (
        arith,
        h.left (rule_number r e),
        propagated_left r propagated e (rule_number r e) lt none,
        one,
      ))
  left k (inr other) =
      let no : ◌≡◌ {A = ℕ} (cond (rule_number r e == k) 1 0) 0 =
      rw (ne_eqb (rule_number r e) k (λ i. other (sym i))) refl in
      rw (counter_other s (rule_number r e) k
      (counter_after (counter_at s (rule_number r e)) f.class) f.class byte
      other) (omega (arith, h.left k, propagated_left r propagated e k lt none, no))

  sized : (k : ℕ) → (k ≡ rule_number r e) ⊎ (k ≢ rule_number r e) →
      (counter_at (part_counted r s e f byte) k).sized
      ≡ list_any (λ x. (rule_number r x == k) && is_sized (class_of r (to_at r x))) (e ∷ propagated)
  sized k (inl same) =
      let P : ℕ → Type 0 = λ j. (counter_at
      (part_counted r s e f byte)
      j).sized ≡ list_any (λ x. (rule_number r x == j) && is_sized (class_of r (to_at r x)))
      (e ∷ propagated) in
      let there : P (rule_number r e) =
      rw (
        counter_same s (rule_number r e) (counter_after (counter_at s (rule_number r e)) f.class)
            f.class byte
            small,
        eq-eqb (rule_number r e) (rule_number r e) refl,
        is,
        h.sized (rule_number r e),
      )
      (or_comm (list_any (λ x. (rule_number r x == rule_number r e) && is_sized
      (class_of r (to_at r x))) propagated) (is_sized (class_of r (to_at r e)))) in
      subst P (sym same) there
  sized k (inr other) = rw (
    counter_other s (rule_number r e) k
        (counter_after (counter_at s (rule_number r e)) f.class) f.class byte other,
    ne_eqb (rule_number r e) k (λ i. other (sym i)),
  ) (h.sized k)

  known : (x : ℕ) → (e ≡ x) ⊎ (e ≢ x) → 0 < times x (e ∷ propagated) →
      x < length (all_parts (rules r))
  known x (inl same) more = omega (arith, lt, same)
  known x (inr other) more = h.known x (omega (arith, more, times-other x e propagated other))

  propagated_settled : (x : ℕ) → (e ≡ x) ⊎ (e ≢ x) → 0 < times x (e ∷ propagated) →
      has_settled s (to_at r x) ≡ true
  propagated_settled x (inl same) more = rw same at settled
  propagated_settled x (inr other) more =
      h.part_settled x (omega (arith, more, times-other x e propagated other))

-- reference e was propagated
pub record SettlesPart (r : List TypeInfo) (propagated : List ℕ) (e : ℕ) (s n : Progress) : Type 0
  where
    pub consistent : IsConsistent r (e ∷ propagated) n
    pub closed : IsClosed r n
    pub follows : Follows s n

-- a reference is propagated where its counter counts it and, with nothing left, settles its owner
pub settles_part : (r : List TypeInfo) (propagated : List ℕ) (s : Progress) (e : ℕ) (f : Found)
    (byte : Bool) → IsConsistent r propagated s → IsClosed r s →
    e < length (all_parts (rules r)) → times e propagated ≡ 0 →
    has_settled s (to_at r e) ≡ true → f.class ≡ class_of r (to_at r e) →
    f.target ≡ target_of r (to_at r e) → byte ≡ is_byte (shape r (to_at r e)) →
    SettlesPart r propagated e s (part_settled s (rule_number r e) f byte)
settles_part r propagated s e f byte h closed lt none settled is target byte_is =
    go ((counter_after (counter_at s (rule_number r e)) f.class).left == 0) refl where
      st : IsConsistent r (e ∷ propagated)
          (part_counted r s e f byte)
      st = counted_consistent r propagated s e f byte h lt none settled is byte_is

      at : counter_at (part_counted r s e f byte) (rule_number r e)
          ≡ counter_after (counter_at s (rule_number r e)) f.class
      at = counter_same s (rule_number r e)
          (counter_after (counter_at s (rule_number r e)) f.class) f.class byte
          (omega (arith, h.counters, number-lt r e lt))

      others : (j : ℕ) → j ≢ rule_number r e → settles (rule_at r j).kind ≡ true →
          (counter_at (part_counted r s e f byte) j).left ≡ 0 →
          has_settled s (rule_at r j).owner ≡ true
      others j other e' left =
          closed.at j e' (rw (counter_other s (rule_number r e) j
          (counter_after (counter_at s (rule_number r e)) f.class) f.class byte other) at left)

      go : (b : Bool) → ((counter_after (counter_at s (rule_number r e)) f.class).left == 0) ≡ b →
          SettlesPart r propagated e s
          (cond b (completed (part_counted r s e f byte)
          (counter_after (counter_at s (rule_number r e)) f.class) f.target byte)
          (part_counted r s e f byte))
      go true p =
          let zero_is : (counter_after (counter_at s (rule_number r e)) f.class).left ≡ 0 =
          eqb-true (counter_after (counter_at s (rule_number r e)) f.class).left 0 p in
          let left : (counter_at (part_counted r s e f byte) (rule_number r e)).left ≡ 0 =
          rw at zero_is in
          let done = rw at at (completes_to r (e ∷ propagated)
          (part_counted r s e f byte)
          (rule_number r e) f.target byte st (number-lt r e lt) left (record {
            target_is = λ u one. target ∙ ap (target_of r) (only_part r e u lt one);
            byte_is = λ u one. byte_is
                ∙ ap (λ (w : ℕ). is_byte (shape r w)) (only_part r e u lt one);
          })) in
          record {
            consistent = done.consistent;
            closed = record {
              at = λ j e' none'. elim (cases_eq j (rule_number r e)) [
                | inl same ↦ let e'' : settles (rule_at r (rule_number r e)).kind ≡ true =
                    rw same at e' in rw same (done.settled e'')
                | inr other ↦ done.follows.keeps (rule_at r j).owner
                    (others j other e' (rw done.counters at none'))
              ];
            };
            follows = record {
              keeps = done.follows.keeps;
              more = done.follows.more;
              settled =
                  done.follows.settled;
            };
          }
      go false p = record {
        consistent = st;
        closed = record {
          at = λ j e' none'. elim (cases_eq j (rule_number r e)) [
            | inl same ↦ absurd (let zero_is = rw (same, at) at none' in let no = sym p
                ∙ eq-eqb (counter_after (counter_at s (rule_number r e)) f.class).left
                0 zero_is in cc)
            | inr other ↦ others j other e' none'
          ];
        };
        follows = record { keeps = λ t x. x; more = []; settled = sym (append-nil s.settled) };
      }

-- The list of the references to a type, one by one.
use Rattle.std.proofs.Common.{◌≡◌, ◌≢◌, ℕ, zero, suc, ◌+◌, ◌-◌, ◌<◌, ◌≤◌, Bool, true, false, cond}
use Rattle.std.proofs.Common.{List, [], ◌∷◌, ◌++◌, length, get_or, take, reverse, Some, refl, sym}
use Rattle.std.proofs.Common.{ap, subst, ◌∙◌, ◌⊎◌, arith, inl, inr}
use Rattle.std.specs.Prelude.{◌==◌, slice_get}
use Rattle.std.proofs.lemmas.Bool.{eq-eqb, cases_lt, cases_eq, ne_eqb}
use Rattle.std.proofs.lemmas.List.{take-append-le, take_more, length-append, get_or_past}
use Rattle.types_core.specs.declared.type_info.TypeInfo.{TypeInfo}
use Rattle.widths_core.specs.declared.class.Class.TheVariants as class
use Rattle.widths_core.specs.declared.counter.Found.{Found}
use Rattle.graph_core.specs.declared.graph.Graph.{Graph}
use Rattle.widths_core.specs.Targets.{target_of}
use Rattle.widths_core.specs.Classes.{class_of}
use Rattle.widths_core.specs.ClassTables.{known_class, known_target, has_value}
use Rattle.graph_core.specs.Counts.{times}
use Rattle.widths_core.specs.Rules.{rules, all_parts}
use Rattle.graph_core.specs.Graphs.{refs, numbers, befores, IsLast, IsListed}
use Rattle.widths_core.specs.Progress.{Progress, counter_at, part_settled, KnowsType}
use Rattle.widths_core.specs.Consistent.{to_at, rule_number, has_settled, so_far, told}
use Rattle.widths_core.specs.Consistent.{IsConsistent}
use Rattle.widths_core.specs.Propagation.{Follows, Lists, IsUpToDate, IsPending, Propagates}
use Rattle.widths_core.specs.Propagation.{IsPropagatedTo}
use Rattle.widths_core.proofs.RuleRight.{rule_right}
use Rattle.widths_core.proofs.Settles.{follows_same, follows_on}
use Rattle.widths_core.proofs.Waiting.{times-same, times-other, times-append}
use Rattle.graph_core.proofs.Linked.{linked_kept}
use Rattle.graph_core.specs.Types.{shape}
use Rattle.widths_core.specs.Completing.{is_byte_step, step_at}
use Rattle.widths_core.specs.Layouts.{is_byte}
use Rattle.widths_core.specs.Steps.{references_of, IsRow}
use Rattle.widths_core.proofs.StepReads.{shape_some}
use Rattle.widths_core.proofs.StepsSoFar.{byte_so_far, step_is}
use Rattle.widths_core.proofs.PartSettles.{SettlesPart, settles_part, number-lt, left_some}
use Rattle.widths_core.proofs.Complete.{few}

-- those from the end of the list on were propagated; reference at - 1 is next, where at is not 0
pub record PropagatesSo (r : List TypeInfo) (a b : Graph) (s n : Progress) (t : ℕ) (f : Found)
    (byte : Bool) (at : ℕ) : Type 0 where
  pub steady : IsUpToDate r b n
  pub follows : Follows s n
  pub lists : Lists a b
  pub settled : has_settled n t ≡ true
  pub class : f.class ≡ class_of r t
  pub target : f.target ≡ target_of r t
  pub byte_is : byte ≡ is_byte (shape r t)
  pub within : at ≤ length (all_parts (rules r))
  pub next : (b : ℕ) → at ≡ suc b → to_at r b ≡ t
  pub propagated : (e : ℕ) → e < length (all_parts (rules r)) → to_at r e ≡ t → at ≤ e →
      times e b.looks.listed.entries ≡ times e a.looks.listed.entries + 1
  pub left : (e : ℕ) → e < length (all_parts (rules r)) → to_at r e ≡ t → e < at →
      times e b.looks.listed.entries ≡ 0
  pub fresh : (e : ℕ) → e < length (all_parts (rules r)) → to_at r e ≡ t →
      times e a.looks.listed.entries ≡ 0
  pub others : (e : ℕ) → to_at r e ≢ t →
      times e b.looks.listed.entries ≡ times e a.looks.listed.entries

-- where no look was taken, nothing but lists was looked at
lists_same : (a : Graph) → Lists a a
lists_same a = record { types = refl; opened = refl; read = refl }

-- where twice nothing but lists was looked at, nothing else was altogether
lists_on : (a b c : Graph) → Lists a b → Lists b c → Lists a c
lists_on a b c h k = record {
  types = k.types ∙ h.types;
  opened = k.opened ∙ h.opened;
  read = k.read ∙ h.read;
}

-- where a list was looked at, nothing else was
pub lists_listed : (a b c : Graph) (e : ℕ) → Lists a b → IsListed b c e → Lists a c
lists_listed a b c e h k = record {
  types = k.types ∙ h.types;
  opened = k.opened ∙ h.opened;
  read = k.read ∙ h.read;
}

-- a type that has settled is a position
settled-lt : (r : List TypeInfo) (propagated : List ℕ) (s : Progress) (t : ℕ) →
    IsConsistent r propagated s → has_settled s t ≡ true → t < length r
settled-lt r propagated s t h e = elim (cases_lt t (length r)) [
  | inl lt ↦ lt
  | inr ge ↦ let past : known_class s.classes t ≡ class.NoValue =
      get_or_past s.classes t class.NoValue (omega (arith, h.classes, ge)) in
      absurd (let no : has_value class.NoValue ≡ true = rw past at e in cc)
]

-- a type whose references are to be propagated is a position
pub pending-lt : (r : List TypeInfo) (d : Graph) (s : Progress) (t : ℕ) → IsPending r d s t →
    t < length r
pending-lt r d s t h = settled-lt r d.looks.listed.entries s t h.steady.consistent h.settled

-- a type that has settled is u8 by its step exactly where it is by its definition
byte_known : (r : List TypeInfo) (propagated : List ℕ) (s : Progress) (t : ℕ) →
    IsConsistent r propagated s → has_settled s t ≡ true → t < length r →
    is_byte_step (step_at s.steps t) ≡ is_byte (shape r t)
byte_known r propagated s t h e lt =
    let d = shape_some r t lt in
    let k = h.step t d.0 d.1 in
    let known = told r propagated t in
    let right : known_class s.classes t ≡ class_of r t = (h.right t e).0 in
    let there : slice_get s.steps t ≡ Some (so_far r (class_of r t) known d.0 k.0) =
    rw right at k.2 in
    rw (step_is s.steps t (so_far r (class_of r t) known d.0 k.0) there, d.1)
    (byte_so_far r (references_of r) (IsRow (references_of r) s.rows) t d.0 known k.0 d.1 k.1)

-- for a type that is pending, the newest reference to it is the next, and none was propagated
pub propagates_first : (r : List TypeInfo) (d : Graph) (s : Progress) (t : ℕ) (f : Found)
    (byte : Bool) (at : ℕ) → IsPending r d s t → f.class ≡ known_class s.classes t →
    f.target ≡ known_target s.targets t → byte ≡ is_byte_step (step_at s.steps t) →
    at ≡ get_or d.newest.items t 0 → PropagatesSo r d d s s t f byte at
propagates_first r d s t f byte at h c m b is =
    let ready = h.steady.ready in
    let lt : t < length d.registry = omega (arith, pending-lt r d s t h, ap length ready.types) in
    let last : IsLast (all_parts (rules r)) (length (all_parts (rules r))) t at =
    rw (is, ← ready.read) (ready.linked.newest t lt) in
    let right = h.steady.consistent.right t h.settled in
    record {
      steady = h.steady;
      follows = follows_same s;
      lists = lists_same d;
      settled = h.settled;
      class = c ∙ right.0;
      target = m ∙ right.1;
      byte_is = b ∙ byte_known r d.looks.listed.entries s t h.steady.consistent h.settled
          (pending-lt r d s t h);
      within = last.within;
      next = last.found;
      propagated = λ e small to ge. absurd (omega (arith, last.last e small to, ge));
      left = λ e small to lt'. h.fresh e small to;
      fresh = h.fresh;
      others = λ e ne. refl;
    }

-- what the next reference is
pub record IsNext (r : List TypeInfo) (b : Graph) (n : Progress) (t e : ℕ) : Type 0 where
  pub small : e < length (all_parts (rules r))
  pub to : to_at r e ≡ t
  pub fresh : times e b.looks.listed.entries ≡ 0
  pub linked : e < length b.links.items
  pub number : get_or (numbers b) e 0 ≡ rule_number r e
  pub counter : rule_number r e < length n.counters
  pub owner : KnowsType n (counter_at n (rule_number r e)).owner
  pub left : 0 < (counter_at n (rule_number r e)).left
  pub before : IsLast (all_parts (rules r)) e t (get_or (befores b) e 0)

-- the next reference is to the type, was not propagated, and its counter has something left
pub next_is : (r : List TypeInfo) (a b : Graph) (s n : Progress) (t : ℕ) (f : Found)
    (byte : Bool) (e : ℕ) → PropagatesSo r a b s n t f byte (suc e) → IsNext r b n t e
next_is r a b s n t f byte e h =
    let ready = h.steady.ready in
    let st = h.steady.consistent in
    let small : e < length (all_parts (rules r)) = omega (arith, h.within) in
    let to : to_at r e ≡ t = h.next e refl in
    let count : length (refs b) ≡ length (all_parts (rules r)) = ap length ready.read in
    let number : rule_number r e < length (rules r) = number-lt r e small in
    let fresh = h.left e small to (omega arith) in
    let right = rule_right r (rule_number r e) number in
    let before : IsLast (refs b) e (get_or (refs b) e 0) (get_or (befores b) e 0) =
    ready.linked.before e (omega (arith, small, count)) in
    record {
      small = small;
      to = to;
      fresh = fresh;
      linked = omega (arith, ready.linked.links, small, count);
      number = ap (λ (xs : List ℕ). get_or xs e 0) ready.counted;
      counter = omega (arith, st.counters, number);
      owner = (
        omega (arith, st.owner (rule_number r e), right.owner, st.classes),
        omega (arith, st.owner (rule_number r e), right.owner, st.targets),
        omega (arith, st.owner (rule_number r e), right.owner, st.steps),
      );
      left = left_some r b.looks.listed.entries n e st small fresh;
      before = rw (← to, ← ready.read) before;
    }

-- when the next reference was counted, the one before it in the list is the next
pub propagates_more : (r : List TypeInfo) (a b c : Graph) (s n m : Progress) (t : ℕ) (f : Found)
    (byte : Bool) (e to : ℕ) → PropagatesSo r a b s n t f byte (suc e) → IsListed b c e →
    m ≡ part_settled n (rule_number r e) f byte → to ≡ get_or (befores b) e 0 →
    PropagatesSo r a c s m t f byte to
propagates_more r a b c s n m t f byte e to h listed is before =
    let it = next_is r a b s n t f byte e h in
    let done : SettlesPart r b.looks.listed.entries e n m =
    rw is (settles_part r b.looks.listed.entries n e f byte h.steady.consistent h.steady.closed
    it.small it.fresh (rw it.to h.settled) (rw it.to h.class) (rw it.to h.target)
    (rw it.to h.byte_is)) in
    let last : IsLast (all_parts (rules r)) e t to = rw before it.before in
    let ready = h.steady.ready in
    record {
      steady = record {
        ready = record {
          linked = linked_kept b c ready.linked listed.types (ap reverse listed.read)
              listed.lists;
          types = listed.types ∙ ready.types;
          read = rw listed.read ready.read;
          counted = rw listed.lists.links ready.counted;
        };
        consistent = rw listed.listed done.consistent;
        closed = done.closed;
      };
      follows = follows_on s n m h.follows done.follows;
      lists = lists_listed a b c e h.lists listed;
      settled = done.follows.keeps t h.settled;
      class = h.class;
      target = h.target;
      byte_is = h.byte_is;
      within = omega (arith, last.within, it.small);
      next = last.found;
      propagated = λ x small is' ge. rw listed.listed
          (propagated x small is' ge (cases_eq e x) (last.last x));
      left = λ x small is' lt. rw listed.listed
          (times-other x e b.looks.listed.entries (omega (arith, lt, last.within))
          ∙ h.left x small is' (omega (arith, lt, last.within)));
      fresh = h.fresh;
      others = λ x ne. rw listed.listed
          (times-other x e b.looks.listed.entries (λ same. ne (ap (to_at r) (sym same) ∙ it.to))
          ∙ h.others x ne);
    } where
      propagated : (x : ℕ) → x < length (all_parts (rules r)) → to_at r x ≡ t → to ≤ x → (e ≡ x)
          ⊎ (e ≢ x) → (x < e → to_at r x ≡ t → x < to) →
          times x (e ∷ b.looks.listed.entries) ≡ times x a.looks.listed.entries + 1
      propagated x small is' ge (inl same) last =
          rw same (omega (
            arith,
            times-same x b.looks.listed.entries,
            h.fresh x small is',
            h.left x small is' (omega (arith, same)),
          ))
      propagated x small is' ge (inr other) last = elim (cases_lt x e) [
        | inl lt ↦ absurd (omega (arith, last lt is', ge))
        | inr le ↦ times-other x e b.looks.listed.entries other
            ∙ h.propagated x small is' (omega (arith, le, other))
      ]

-- ---- type by type

-- the references to the first types that have settled were propagated
pub record PropagatesSoFar (r : List TypeInfo) (a b : Graph) (s n : Progress) (done : ℕ) : Type 0
  where
    pub propagated : IsPropagatedTo r b n done
    pub follows : Follows s n
    pub lists : Lists a b

-- a number is at least once more in the list than before a place at which it stands
times_at : (xs : List ℕ) (i : ℕ) → i < length xs →
    times (get_or xs i 0) (take i xs) + 1 ≤ times (get_or xs i 0) xs
times_at [] i lt = absurd (omega arith)
times_at (x ∷ xs) zero lt = omega (arith, times-same x xs)
times_at (x ∷ xs) (suc i) lt = omega (arith, times_at xs i (omega (arith, lt)))

-- a test holds where a number that is 1 if it holds and else 0 is above 0
settled_if : (b : Bool) (n : ℕ) → n ≡ cond b 1 0 → 0 < n → b ≡ true
settled_if true n e lt = refl
settled_if false n e lt = absurd (omega (arith, e, lt))

-- the next type in the order of settling has settled, and no reference to it was propagated
pub pending_is : (r : List TypeInfo) (d : Graph) (s : Progress) (done : ℕ) →
    IsPropagatedTo r d s done → done < length s.settled → IsPending r d s (get_or s.settled done 0)
pending_is r d s done h lt =
    let t = get_or s.settled done 0 in
    let more = times_at s.settled done lt in
    let queue = h.steady.consistent.queue t in
    record {
      steady = h.steady;
      settled = settled_if (has_settled s t) (times t s.settled) queue (omega (arith, more));
      fresh = λ e small to. let one = few (has_settled s t) (times t s.settled) queue in
          h.propagated e small ∙ ap (λ (u : ℕ). times u (take done s.settled)) to
          ∙ omega (arith, more, one);
    }

-- with the references to the next settled type propagated, one type more is done
pub so_far_more : (r : List TypeInfo) (a b c : Graph) (s n m : Progress) (done : ℕ) →
    PropagatesSoFar r a b s n done → done < length n.settled →
    Propagates r b c n m (get_or n.settled done 0) → PropagatesSoFar r a c s m (done + 1)
so_far_more r a b c s n m done h lt k =
    let grown : length m.settled ≡ length n.settled + length k.follows.more =
    ap length k.follows.settled ∙ length-append n.settled k.follows.more in
    let front : take (done + 1) m.settled ≡ take done n.settled ++ get_or n.settled done 0 ∷ [] =
    ap (take (done + 1)) k.follows.settled
    ∙ take-append-le (done + 1) n.settled k.follows.more (omega (arith, lt))
    ∙ take_more n.settled done 0 lt in
    record {
      propagated = record {
        steady = k.steady;
        within = omega (arith, grown, lt);
        propagated = λ e small. rw front (propagated e small);
      };
      follows = follows_on s n m h.follows k.follows;
      lists = lists_on a b c h.lists k.lists;
    } where
      swap : (x y : ℕ) → (x == y) ≡ (y == x)
      swap x y = elim (cases_eq x y) [
        | inl same ↦ eq-eqb x y same ∙ sym (eq-eqb y x (sym same))
        | inr other ↦ ne_eqb x y other ∙ sym (ne_eqb y x (λ is. other (sym is)))
      ]

      propagated : (e : ℕ) → e < length (all_parts (rules r)) →
          times e c.looks.listed.entries ≡ times (to_at r e)
          (take done n.settled ++ get_or n.settled done 0 ∷ [])
      propagated e small = rw (
        times-append (to_at r e) (take done n.settled)
            (get_or n.settled done 0 ∷ []),
        swap (get_or n.settled done 0) (to_at r e),
      )
          (omega (arith, k.propagated e small, h.propagated.propagated e small))

-- ---- at the reference before at

-- at a place above 0, the reference one below is the next: to the type, and not propagated
pub next_at : (r : List TypeInfo) (a b : Graph) (s n : Progress) (t : ℕ) (f : Found) (byte : Bool)
    (at : ℕ) → PropagatesSo r a b s n t f byte at → 0 < at → IsNext r b n t (at - 1)
next_at r a b s n t f byte at h some = let is : at ≡ suc (at - 1) = omega (arith, some) in
    next_is r a b s n t f byte (at - 1)
    (subst (λ (i : ℕ). PropagatesSo r a b s n t f byte i) is h)

-- when the reference one below a place above 0 was counted, the one before it is the next
pub propagates_at : (r : List TypeInfo) (a b c : Graph) (s n m : Progress) (t : ℕ) (f : Found)
    (byte : Bool) (at to : ℕ) → PropagatesSo r a b s n t f byte at → 0 < at →
    IsListed b c (at - 1) → m ≡ part_settled n (rule_number r (at - 1)) f byte →
    to ≡ get_or (befores b) (at - 1) 0 → PropagatesSo r a c s m t f byte to
propagates_at r a b c s n m t f byte at to h some listed is before =
    let i : at ≡ suc (at - 1) = omega (arith, some) in
    propagates_more r a b c s n m t f byte (at - 1) to
    (subst (λ (j : ℕ). PropagatesSo r a b s n t f byte j) i h) listed is before

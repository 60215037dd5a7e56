-- One pass over the types, type by type.
use Rattle.std.proofs.Common.{◌≡◌, ℕ, zero, suc, ◌+◌, ◌<◌, ◌≤◌, Bool, true, false, cond, List, []}
use Rattle.std.proofs.Common.{◌∷◌, ◌++◌, length, map, reverse, take, Some, refl, sym, ap, subst}
use Rattle.std.proofs.Common.{◌∙◌}
use Rattle.std.proofs.Common.{arith}
use Rattle.std.specs.Prelude.{◌==◌}
use Rattle.std.proofs.lemmas.List.{append_assoc, append-nil, map-append, length-map, length-append}
use Rattle.std.proofs.lemmas.Grind.{flat_map-append}
use Rattle.types_core.specs.declared.definition.TypeDef.{TypeDef}
use Rattle.types_core.specs.declared.type_info.TypeInfo.{TypeInfo}
use Rattle.graph_core.specs.declared.graph.Graph.{Graph}
use Rattle.widths_core.specs.declared.counter.Counter.{Counter}
use Rattle.graph_core.specs.Types.{shape}
use Rattle.graph_core.specs.Counts.{times}
use Rattle.graph_core.specs.Cursors.{left}
use Rattle.widths_core.specs.Rules.{Rule, rules_of, rules_from, counter_of, all_parts, numbers_from}
use Rattle.graph_core.specs.Graphs.{refs, numbers, IsLinked, IsOpened}
use Rattle.graph_core.specs.References.{AreKnown}
use Rattle.graph_core.specs.Stops.{IsUnderWay}
use Rattle.graph_core.proofs.Linked.{no_elements}
use Rattle.graph_core.proofs.Stopped.{all_front}
use Rattle.graph_core.proofs.UnderWay.{way_opened, way_on}
use Rattle.widths_core.specs.Linking.{AddsRules}
use Rattle.widths_core.proofs.Adding.{numbers_from-append}
use Rattle.widths_core.proofs.PartsOf.{parts_of}

-- the rules of one type more come after those of the types before it
rules_more : (r : List TypeInfo) (t i : ℕ) (d : TypeDef) → shape r i ≡ Some d →
    rules_from t (take (suc i) r) ≡ rules_from t (take i r) ++ rules_of (t + i) d
rules_more [] t i d e = absurd cc
rules_more (x ∷ r) t zero d e =
    let is : x.shape ≡ d = cc in
    let at : t + zero ≡ t = omega arith in
    rw (at, ← is) (append-nil (rules_of t x.shape))
rules_more (x ∷ r) t (suc i) d e =
    let at : t + 1 + i ≡ t + suc i = omega arith in
    ap (λ (xs : List Rule). rules_of t x.shape ++ xs)
    (rules_more r (t + 1) i d e
    ∙ ap (λ (k : ℕ). rules_from (t + 1) (take i r) ++ rules_of k d) at)
    ∙ sym (append_assoc (rules_of t x.shape) (rules_from (t + 1) (take i r))
    (rules_of (t + suc i) d))

-- the first i types were read
pub record TypesLinkedTo (r : List TypeInfo) (i : ℕ) (cs : List Counter) (d : Graph) : Type 0 where
  pub linked : IsLinked d
  pub way : IsUnderWay r d
  pub place : d.cursor.types ≡ i
  pub done : left d ≡ []
  pub counters : cs ≡ map counter_of (rules_from 0 (take i r))
  pub read : refs d ≡ all_parts (rules_from 0 (take i r))
  pub counted : numbers d ≡ numbers_from 0 (rules_from 0 (take i r))
  pub seen : (t : ℕ) → t < length r → 1 ≤ times t d.looks.opened.entries

-- a type more makes no look less
seen_more : (i t : ℕ) (log : List ℕ) → 1 ≤ times t log → 1 ≤ times t (i ∷ log)
seen_more i t log h = go (i == t) where
  go : (b : Bool) → 1 ≤ cond b 1 0 + times t log
  go true = omega arith
  go false = omega (arith, h)

-- what is left when as much was read as was left before
nothing_left : (xs ys zs : List ℕ) → xs ≡ ys ++ zs → ys ≡ xs → zs ≡ []
nothing_left xs ys zs e f =
    no_elements zs (omega (arith, ap length e, ap length f, length-append ys zs))

-- with a look at the next type and its rules added, one type more is linked
pub types_linked_more : (r : List TypeInfo) (i : ℕ) (d : TypeDef) (cs ds : List Counter)
    (a b c : Graph) → shape r i ≡ Some d → TypesLinkedTo r i cs a → IsOpened a b i →
    AddsRules (rules_of i d) cs ds b c → TypesLinkedTo r (i + 1) ds c
types_linked_more r i d cs ds a b c e h o k =
    let step : i + 1 ≡ suc i = omega arith in
    let old = rules_from 0 (take i r) in
    let all : rules_from 0 (take (i + 1) r) ≡ old ++ rules_of i d =
    ap (λ (j : ℕ). rules_from 0 (take j r)) step ∙ rules_more r 0 i d e
    ∙ ap (λ (j : ℕ). old ++ rules_of j d) (omega arith) in
    let len : length cs ≡ 0 + length old = ap length h.counters ∙ length-map old counter_of
    ∙ omega arith in
    let next = way_opened r a b i d e h.way h.done (sym h.place) o in
    let known = linked_known c k.reads.linked in
    let own : AreKnown (length c.registry) (all_parts (rules_of i d)) =
    (all_front (λ t. t < length c.registry) (refs b) (all_parts (rules_of i d))
    (subst (AreKnown (length c.registry)) k.reads.on.read known)).1 in
    let count : length c.registry ≡ length r =
    ap length (k.reads.on.types ∙ o.types ∙ h.way.reading.types) in
    record {
      linked = k.reads.linked;
      way = way_on r b c (all_parts (rules_of i d)) next.way k.reads.on
          (subst (λ (n : ℕ). AreKnown n (all_parts (rules_of i d))) count own);
      place = k.reads.on.place ∙ next.place;
      done = nothing_left (left b) (all_parts (rules_of i d)) (left c) k.reads.on.left
          (parts_of i d ∙ sym next.left);
      counters = rw all (k.counters
          ∙ ap (λ (xs : List Counter). xs ++ map counter_of (rules_of i d)) h.counters
          ∙ sym (map-append counter_of old (rules_of i d)));
      read = rw all (k.reads.on.read
          ∙ ap (λ (xs : List ℕ). xs ++ all_parts (rules_of i d)) (ap reverse o.read ∙ h.read)
          ∙ sym (flat_map-append (λ (x : Rule). x.parts) old (rules_of i d)));
      counted = rw all (k.reads.counted
          ∙ ap (λ (xs : List ℕ). xs ++ numbers_from (length cs) (rules_of i d))
          (counted ∙ h.counted) ∙ ap (λ (n : ℕ). numbers_from 0 old ++ numbers_from n
          (rules_of i d)) len ∙ sym (numbers_from-append 0 old (rules_of i d)));
      seen = λ t lt. let is : c.looks.opened.entries ≡ i ∷ a.looks.opened.entries =
          k.reads.on.opened ∙ o.opened in
          rw is (seen_more i t a.looks.opened.entries (h.seen t lt));
    } where
      counted : numbers b ≡ numbers a
      counted = rw o.lists.links refl

      linked_known : (g : Graph) → IsLinked g → AreKnown (length g.registry) (refs g)
      linked_known g l = l.known

-- The second look at the types, in their order, up to the first reference that is no position.
use Rattle.std.proofs.Common.{◌≡◌, ℕ, zero, suc, ◌+◌, ◌-◌, ◌<◌, ◌≤◌, Bool, true, false, cond, List}
use Rattle.std.proofs.Common.{[]}
use Rattle.std.proofs.Common.{◌∷◌, ◌++◌, length, take, drop, flat_map, reverse, Some, None}
use Rattle.std.proofs.Common.{refl, sym, ap, subst, ◌∙◌, arith}
use Rattle.std.specs.Prelude.{◌==◌}
use Rattle.std.proofs.lemmas.Bool.{eqb-true}
use Rattle.std.proofs.lemmas.List.{append_assoc, append-nil}
use Rattle.types_core.specs.declared.definition.TypeDef.{TypeDef}
use Rattle.types_core.specs.declared.definition.TypeDef.TheVariants as Def
use Rattle.types_core.specs.declared.type_info.TypeInfo.{TypeInfo}
use Rattle.graph_core.specs.declared.graph.Graph.{Graph}
use Rattle.graph_core.specs.declared.link_stop.LinkStop.{LinkStop}
use Rattle.graph_core.specs.declared.link_stop.LinkStop.TheVariants as stop
use Rattle.graph_core.specs.Types.{shape}
use Rattle.graph_core.specs.Counts.{times}
use Rattle.graph_core.specs.Cursors.{left, open_references, arm_references, arms_of, current}
use Rattle.graph_core.specs.Cursors.{open_definition, parts_left, arms_left}
use Rattle.graph_core.specs.Outlines.{outline, IsTold}
use Rattle.graph_core.specs.Graphs.{refs, ReadsOn, IsOpened}
use Rattle.graph_core.specs.References.{references, AreKnown, first_unknown, unknown_from}
use Rattle.graph_core.specs.References.{first_fault}
use Rattle.graph_core.specs.Stops.{IsReadTo, IsReading, IsUnderWay, HasFewLooksUntil, fault_in}
use Rattle.graph_core.specs.Stops.{StopsLinking, IsRefusedFor}
use Rattle.graph_core.proofs.Arms.{type_has, type_lacks}
use Rattle.graph_core.proofs.FirstFault.{known_none, split_some}
use Rattle.graph_core.proofs.Stopped.{all_front, all_joined}
use Rattle.graph_core.proofs.Unknown.{first_unknown-append_none}

abbrev refs_of : List TypeInfo → List ℕ
refs_of r = flat_map (λ x. references x.shape) r

-- ---- the types that were opened

-- the references of one type more come after those of the types before it
pub refs_more : (r : List TypeInfo) (i : ℕ) (d : TypeDef) → shape r i ≡ Some d →
    refs_of (take (suc i) r) ≡ refs_of (take i r) ++ references d
refs_more [] i d e = absurd cc
refs_more (x ∷ r) zero d e = let is : x.shape ≡ d = cc in rw is (append-nil (references d))
refs_more (x ∷ r) (suc i) d e = ap (λ (xs : List ℕ). references x.shape ++ xs) (refs_more r i d e)
    ∙ sym (append_assoc (references x.shape) (refs_of (take i r)) (references d))

-- all references are those of the types up to one and those of the types after it
pub refs_split : (r : List TypeInfo) (k : ℕ) → refs_of r ≡ refs_of (take k r) ++ refs_of (drop k r)
refs_split [] zero = refl
refs_split [] (suc k) = refl
refs_split (x ∷ r) zero = refl
refs_split (x ∷ r) (suc k) = ap (λ (xs : List ℕ). references x.shape ++ xs) (refs_split r k)
    ∙ sym (append_assoc (references x.shape) (refs_of (take k r)) (refs_of (drop k r)))

-- where nothing is left of the open type, the references of the types that were opened were read
pub read_all : (r : List TypeInfo) (k : ℕ) (read rest : List ℕ) → IsReadTo r k read rest →
    rest ≡ [] → read ≡ refs_of (take k r)
read_all r zero read rest h e = h.0
read_all r (suc i) read rest h e =
    let all : references h.0 ≡ h.2 = h.4 ∙ ap (λ (xs : List ℕ). h.2 ++ xs) e ∙ append-nil h.2 in
    h.3 ∙ ap (λ (xs : List ℕ). refs_of (take i r) ++ xs) (sym all) ∙ sym (refs_more r i h.0 h.1)

-- what was read and what is left of the open type are the first of all references
read_front : (r : List TypeInfo) (k : ℕ) (read rest : List ℕ) → IsReadTo r k read rest →
    refs_of r ≡ read ++ (rest ++ refs_of (drop k r))
read_front r zero read rest h = rw (h.0, h.1) refl
read_front r (suc i) read rest h =
    let back = refs_of (drop (suc i) r) in
    let before = refs_of (take i r) in
    refs_split r (suc i) ∙ ap (λ (xs : List ℕ). xs ++ back) (refs_more r i h.0 h.1)
    ∙ ap (λ (xs : List ℕ). (before ++ xs) ++ back) h.4
    ∙ ap (λ (xs : List ℕ). xs ++ back) (sym (append_assoc before h.2 rest))
    ∙ ap (λ (xs : List ℕ). (xs ++ rest) ++ back) (sym h.3) ∙ append_assoc read rest back

-- when more is read, less is left
read_on : (r : List TypeInfo) (k : ℕ) (read rest more less : List ℕ) → IsReadTo r k read rest →
    rest ≡ more ++ less → IsReadTo r k (read ++ more) less
read_on r zero read rest [] less h e = (rw h.0 refl, sym e ∙ h.1)
read_on r zero read rest (x ∷ more) less h e = absurd (let no = sym h.1 ∙ e in cc)
read_on r (suc i) read rest more less h e = (
  h.0,
  h.1,
  h.2 ++ more,
  ap (λ (xs : List ℕ). xs ++ more) h.3 ∙ append_assoc (refs_of (take i r)) h.2 more,
  h.4 ∙ ap (λ (xs : List ℕ). h.2 ++ xs) e ∙ sym (append_assoc h.2 more less),
)

-- the same with equal numbers and lists
moved : (r : List TypeInfo) (k j : ℕ) (read now rest : List ℕ) → k ≡ j → read ≡ now →
    IsReadTo r k read rest → IsReadTo r j now rest
moved r k j read now rest e f h =
    subst (λ (x : ℕ). IsReadTo r x now rest) e (subst (λ (xs : List ℕ). IsReadTo r k xs rest) f h)

-- ---- the graph

-- a reading goes on where references of the open type are read
pub reading_on : (r : List TypeInfo) (a b : Graph) (us : List ℕ) → IsReading r a → ReadsOn a b us →
    IsReading r b
reading_on r a b us h k = record {
  types = k.types ∙ h.types;
  read = moved r a.cursor.types b.cursor.types (refs a ++ us) (refs b) (left b) (sym k.place)
      (sym k.read) (read_on r a.cursor.types (refs a) (left a) us (left b) h.read k.left);
  opened = λ t. rw (k.place, k.opened) (h.opened t);
  listed = k.listed ∙ h.listed;
}

-- and stays under way where these are positions
pub way_on : (r : List TypeInfo) (a b : Graph) (us : List ℕ) → IsUnderWay r a → ReadsOn a b us →
    AreKnown (length r) us → IsUnderWay r b
way_on r a b us h k known = record {
  reading = reading_on r a b us h.reading k;
  known = rw k.read (all_joined (λ t. t < length r) (refs a) us h.known known);
}

-- what is left of a type that was just opened are all its references
opened_left : (r : List TypeInfo) (a b : Graph) (i : ℕ) (d : TypeDef) → shape r i ≡ Some d →
    a.registry ≡ r → IsOpened a b i → left b ≡ references d
opened_left r a b i d e types o =
    let step : i + 1 ≡ suc i = omega arith in
    rw (o.cursor, o.types, types, step, e) (go d) where
      go : (x : TypeDef) →
          drop 0 (open_references x 0) ++ arm_references (drop 0 (arms_of x)) ≡ references x
      go (Def.Composite fs) = append-nil _
      go (Def.Variant arms) = refl
      go (Def.Sequence t) = refl
      go (Def.Array n t) = refl
      go (Def.Tuple ts) = append-nil _
      go (Def.Primitive p) = refl
      go (Def.Compact t) = refl
      go (Def.BitSequence s x form) = refl

-- what is reported for a type that was just opened
pub told_opened : (r : List TypeInfo) (a b : Graph) (i : ℕ) (d : TypeDef) → shape r i ≡ Some d →
    a.registry ≡ r → IsOpened a b i → IsTold b (outline d) × (open_definition (current b) ≡ d)
told_opened r a b i d e types o =
    let step : i + 1 ≡ suc i = omega arith in
    let now : current b ≡ Some d = rw (o.cursor, o.types, types, step) e in
    let parts : parts_left b ≡ open_references d 0 =
    rw (now, o.cursor) refl in
    let arms : arms_left b ≡ arms_of d = rw (now, o.cursor) refl in
    (go d now parts arms, rw now refl) where
      go : (x : TypeDef) → current b ≡ Some x → parts_left b ≡ open_references x 0 →
          arms_left b ≡ arms_of x → IsTold b (outline x)
      go (Def.Composite fs) n p q = (fs, rw n refl, p, refl)
      go (Def.Variant arms) n p q = (arms, rw n refl, p, q, refl)
      go (Def.Sequence t) n p q = (t, rw n refl, p)
      go (Def.Array k t) n p q = (t, rw n refl, p)
      go (Def.Tuple ts) n p q = (ts, rw n refl, p, refl)
      go (Def.Primitive k) n p q = rw n refl
      go (Def.Compact t) n p q = (t, rw n refl, p)
      go (Def.BitSequence s x form) n p q = (s, x, rw n refl)

-- after a second look at type i there were two at most at each type, and one at those after it
pub again : (i t : ℕ) (log : List ℕ) → (times t log ≤ 2) × (i ≤ t → times t log ≤ 1) →
    (times t (i ∷ log) ≤ 2) × (i + 1 ≤ t → times t (i ∷ log) ≤ 1)
again i t log h = go (i == t) refl where
  go : (b : Bool) → (i == t) ≡ b → (cond b 1 0 + times t log ≤ 2)
      × (i + 1 ≤ t → cond b 1 0 + times t log ≤ 1)
  go true e = let same : i ≡ t = eqb-true i t e in
      (omega (arith, h.1 (omega arith), same), λ le. absurd (omega (arith, same, le)))
  go false e = (omega (arith, h.0), λ le. omega (arith, h.1 (omega arith)))

-- the next type is opened when nothing is left of the one before it
pub record IsOpenedNext (r : List TypeInfo) (b : Graph) (i : ℕ) (d : TypeDef) : Type 0 where
  pub way : IsUnderWay r b
  pub place : b.cursor.types ≡ i + 1
  pub left : left b ≡ references d

-- the types stay under way when the next one is opened
pub way_opened : (r : List TypeInfo) (a b : Graph) (i : ℕ) (d : TypeDef) → shape r i ≡ Some d →
    IsUnderWay r a → left a ≡ [] → i ≡ a.cursor.types → IsOpened a b i → IsOpenedNext r b i d
way_opened r a b i d e h done place o =
    let step : i + 1 ≡ suc i = omega arith in
    let all = opened_left r a b i d e h.reading.types o in
    let read : refs b ≡ refs_of (take i r) ++ [] = ap reverse o.read
    ∙ read_all r a.cursor.types (refs a) (left a) h.reading.read done
    ∙ ap (λ (k : ℕ). refs_of (take k r)) (sym place) ∙ sym (append-nil (refs_of (take i r))) in
    let now : b.cursor.types ≡ suc i = rw o.cursor step in
    record {
      way = record {
        reading = record {
          types = o.types ∙ h.reading.types;
          read = moved r (suc i) b.cursor.types (refs b) (refs b) (left b) (sym now) refl
              (d, e, [], read, sym all);
          opened = λ t. rw (o.opened, o.cursor) (again i t a.looks.opened.entries
              (rw place (h.reading.opened t)));
          listed = o.listed ∙ h.reading.listed;
        };
        known = rw o.read h.known;
      };
      place = rw o.cursor refl;
      left = all;
    }

-- ---- faults

-- a reading takes few looks
pub few_looks : (r : List TypeInfo) (g : Graph) → IsReading r g → HasFewLooksUntil r g.looks
few_looks r g h = record {
  types = λ t. (h.opened t).0;
  back = left g ++ refs_of (drop g.cursor.types r);
  read = read_front r g.cursor.types (refs g) (left g) h.read;
  listed = h.listed;
}

-- types whose references are positions leave the first fault to those after them
passed : (n k i : ℕ) (r : List TypeInfo) (d : TypeDef) → shape r i ≡ Some d →
    AreKnown n (refs_of (take i r)) → unknown_from n k r ≡ unknown_from n (k + i) (drop i r)
passed n k i [] d e h = absurd cc
passed n k zero (x ∷ r) d e h = let same : k + zero ≡ k = omega arith in rw same refl
passed n k (suc i) (x ∷ r) d e h =
    let parts = all_front (λ t. t < n) (references x.shape) (refs_of (take i r)) h in
    let step : k + 1 + i ≡ k + suc i = omega arith in
    rw (known_none n (references x.shape) parts.0)
    (passed n (k + 1) i r d e parts.1 ∙ ap (λ (j : ℕ). unknown_from n j (drop i r)) step)

-- what the references that are left of the open type say of the first fault
pub record FaultFrom (r : List TypeInfo) (g : Graph) : Type 0 where
  pub found : (u : ℕ) → first_unknown (length r) (left g) ≡ Some u →
      (1 ≤ g.cursor.types) × (first_fault r ≡ Some (g.cursor.types - 1, u))
  pub none : first_unknown (length r) (left g) ≡ None →
      unknown_from (length r) g.cursor.types (drop g.cursor.types r) ≡ first_fault r

-- an unknown reference that is left is the first fault, and without one that is after the open type
fault_by : (r : List TypeInfo) (k : ℕ) (read rest : List ℕ) → IsReadTo r k read rest →
    AreKnown (length r) read →
    ((u : ℕ) → first_unknown (length r) rest ≡ Some u →
    (1 ≤ k) × (first_fault r ≡ Some (k - 1, u)))
    × (first_unknown (length r) rest ≡ None → unknown_from (length r) k (drop k r) ≡ first_fault r)
fault_by r zero read rest h known =
    ((λ u e. absurd (let no : first_unknown (length r) [] ≡ Some u = rw h.1 at e in cc)), λ e. refl)
fault_by r (suc i) read rest h known =
    let n = length r in
    let all : AreKnown n (refs_of (take i r) ++ h.2) = rw h.3 at known in
    let parts = all_front (λ t. t < n) (refs_of (take i r)) h.2 all in
    let own : first_unknown n (references h.0) ≡ first_unknown n rest =
    ap (first_unknown n) h.4
    ∙ first_unknown-append_none n h.2 rest (known_none n h.2 parts.1) in
    let from : unknown_from n i (drop i r) ≡ first_fault r =
    sym (passed n 0 i r h.0 h.1 parts.0 ∙ ap (λ (j : ℕ). unknown_from n j (drop i r)) (omega arith))
    in
    let step : i + 1 ≡ suc i = omega arith in
    let back : suc i - 1 ≡ i = omega arith in (
      (λ u e. (
        omega arith,
        rw back (sym (type_has n i r h.0 u (first_fault r) h.1 (sym (own ∙ e)) from)),
      )),
      λ e. rw step at (type_lacks n i r h.0 (first_fault r) h.1 (sym (own ∙ e)) from),
    )

-- the same of a graph
pub fault_from : (r : List TypeInfo) (g : Graph) → IsUnderWay r g → FaultFrom r g
fault_from r g h =
    let f = fault_by r g.cursor.types (refs g) (left g) h.reading.read h.known in
    record { found = f.0; none = f.1 }

-- where linking stops in a type, the fault is the registry's first, and few looks were taken
pub refused_for : (r : List TypeInfo) (i : ℕ) (d : TypeDef) (tos : List ℕ) (b c : Graph)
    (o : LinkStop) → IsOpenedNext r b i d → tos ≡ references d → StopsLinking tos b c o →
    IsRefusedFor r c (fault_in i o)
refused_for r i d tos b c (stop.Memory _) h e k =
    way_on r b c k.front h.way k.on (rw h.way.reading.types at k.known)
refused_for r i d tos b c (stop.TooMany _) h e k =
    way_on r b c k.front h.way k.on (rw h.way.reading.types at k.known)
refused_for r i d tos b c (stop.Unknown u) h e k =
    let known : AreKnown (length r) k.front = rw h.way.reading.types at k.known in
    let past : length r ≤ u = rw h.way.reading.types at k.unknown in
    let is : first_unknown (length r) (left b) ≡ Some u =
    ap (first_unknown (length r)) (h.left ∙ sym e ∙ k.tos_are)
    ∙ split_some (length r) k.front u k.back known past in
    let place : b.cursor.types - 1 ≡ i = omega (arith, h.place) in (
      rw place at ((fault_from r b h.way).found u is).1,
      few_looks r c (reading_on r b c (k.front ++ u ∷ []) h.way.reading k.on),
      k.on.types ∙ h.way.reading.types,
    )

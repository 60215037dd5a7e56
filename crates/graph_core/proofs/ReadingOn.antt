-- Reading on for the first reference that is no position.
use Rattle.std.proofs.Common.{◌≡◌, ℕ, zero, suc, ◌-◌, ◌<◌, ◌≤◌, true, false, List}
use Rattle.std.proofs.Common.{[]}
use Rattle.std.proofs.Common.{◌∷◌, ◌++◌, length, drop, Option, Some, None, refl, sym, ap}
use Rattle.std.proofs.Common.{subst}
use Rattle.std.proofs.Common.{◌∙◌, arith}
use Rattle.std.specs.Prelude.{is_some}
use Rattle.types_core.specs.declared.definition.TypeDef.{TypeDef}
use Rattle.types_core.specs.declared.type_info.TypeInfo.{TypeInfo}
use Rattle.graph_core.specs.declared.graph.Graph.{Graph}
use Rattle.graph_core.specs.Types.{shape}
use Rattle.graph_core.specs.Cursors.{left, parts_left, arms_left, arm_references}
use Rattle.graph_core.specs.Graphs.{ReadsOn, BeginsArm, IsOpened}
use Rattle.graph_core.specs.References.{AreKnown, first_unknown, unknown_from, first_fault}
use Rattle.graph_core.specs.Stops.{IsUnderWay, HasFewLooksUntil}
use Rattle.graph_core.specs.Unknown.{FindsUnknown, FindsUnknownPart}
use Rattle.graph_core.proofs.FirstFault.{none_known}
use Rattle.graph_core.proofs.Linked.{on_more}
use Rattle.graph_core.proofs.Stopped.{all_front}
use Rattle.graph_core.proofs.UnderWay.{reading_on, way_on, way_opened, few_looks, fault_from}
use Rattle.graph_core.proofs.Unknown.{first_unknown-append_none, first_unknown-append_some}

-- ---- answers

-- an answer that has no number is none
pub none_is : (o : Option ℕ) → is_some o ≡ false → o ≡ None
none_is None e = refl
none_is (Some u) e = absurd cc

-- an answer that has a number is not none
pub some_is : (o : Option ℕ) → is_some o ≡ true → o ≡ None → ⊥
some_is None e f = cc
some_is (Some u) e f = cc

-- ---- what is open

-- some references that were open were read, all of which are positions
pub record PartsSoFar (a b : Graph) : Type 0 where
  pub front : List ℕ
  pub on : ReadsOn a b front
  pub parts : parts_left a ≡ front ++ parts_left b
  pub arms : arms_left b ≡ arms_left a
  pub unknown : first_unknown (length a.registry) (parts_left a)
      ≡ first_unknown (length a.registry) (parts_left b)

-- ---- what is left of the open definition

-- what was open and some arms were read, and all that was read are positions
pub record LeftSoFar (a b : Graph) : Type 0 where
  pub front : List ℕ
  pub on : ReadsOn a b front
  pub ended : parts_left b ≡ []
  pub unknown : first_unknown (length a.registry) (left a)
      ≡ first_unknown (length a.registry) (left b)

-- an unknown reference that is open is the first that is left
part_found : (a b : Graph) (u : ℕ) → FindsUnknownPart a b (Some u) → FindsUnknown a b (Some u)
part_found a b u h = record {
  unknown = sym (first_unknown-append_some (length a.registry) (parts_left a)
      (arm_references (arms_left a)) u (sym h.unknown));
  front = h.front;
  on = h.on;
  ended = λ no. absurd cc;
}

-- an answer that is not none is the first unknown reference that is left
pub part_answers : (a b : Graph) (o : Option ℕ) → FindsUnknownPart a b o → (o ≡ None → ⊥) →
    FindsUnknown a b o
part_answers a b None h e = absurd (e refl)
part_answers a b (Some u) h e = part_found a b u h

-- where what was open has no unknown reference, it is passed
pub part_passed : (a b : Graph) (o : Option ℕ) → FindsUnknownPart a b o → o ≡ None → LeftSoFar a b
part_passed a b (Some u) h e = absurd cc
part_passed a b None h e = record {
  front = h.front;
  on = h.on;
  ended = h.ended refl;
  unknown = first_unknown-append_none (length a.registry) (parts_left a)
      (arm_references (arms_left a)) (sym h.unknown)
      ∙ ap (λ (xs : List ℕ). first_unknown (length a.registry) xs)
      (sym (ap (λ (xs : List ℕ). xs ++ arm_references (arms_left b)) (h.ended refl)
      ∙ ap arm_references h.arms));
}

-- what was left after an arm was begun was left before
begun_left : (b c : Graph) (index count : ℕ) → BeginsArm b c index count → left b ≡ left c
begun_left b c index count k = k.on.left

-- where the fields of the next arm are read, more was passed
pub left_more : (a b c d : Graph) (index count : ℕ) (o : Option ℕ) → LeftSoFar a b →
    BeginsArm b c index count → FindsUnknownPart c d o → o ≡ None → LeftSoFar a d
left_more a b c d index count o h k f e =
    let same : c.registry ≡ a.registry = k.on.types ∙ h.on.types in
    let p = part_passed c d o f e in
    record {
      front = h.front ++ ([] ++ p.front);
      on = on_more a b d h.front ([] ++ p.front) h.on (on_more b c d [] p.front k.on p.on);
      ended = p.ended;
      unknown = h.unknown ∙ ap (first_unknown (length a.registry)) (begun_left b c index count k)
          ∙ subst (λ (q : List TypeInfo). first_unknown (length q) (left c)
          ≡ first_unknown (length q) (left d)) same p.unknown;
    }

-- where they have an unknown reference, it is the first
pub left_found : (a b c d : Graph) (index count : ℕ) (o : Option ℕ) → LeftSoFar a b →
    BeginsArm b c index count → FindsUnknownPart c d o → (o ≡ None → ⊥) → FindsUnknown a d o
left_found a b c d index count o h k f e =
    let same : c.registry ≡ a.registry = k.on.types ∙ h.on.types in
    let p = part_answers c d o f e in
    record {
      unknown = subst (λ (q : List TypeInfo). o ≡ first_unknown (length q) (left c)) same p.unknown
          ∙ ap (first_unknown (length a.registry)) (sym (begun_left b c index count k))
          ∙ sym h.unknown;
      front = h.front ++ ([] ++ p.front);
      on = on_more a b d h.front ([] ++ p.front) h.on (on_more b c d [] p.front k.on p.on);
      ended = λ no. absurd (e no);
    }

-- ---- type by type

-- all that was read are positions, and the first fault is in what was not read
pub record FaultAhead (r : List TypeInfo) (g : Graph) : Type 0 where
  pub way : IsUnderWay r g
  pub done : left g ≡ []
  pub fault_ahead : unknown_from (length r) g.cursor.types (drop g.cursor.types r) ≡ first_fault r

-- an unknown reference that is left of the open type is the first
pub ahead_found : (r : List TypeInfo) (a b : Graph) (u : ℕ) → IsUnderWay r a →
    FindsUnknown a b (Some u) → (1 ≤ a.cursor.types)
    × (first_fault r ≡ Some (a.cursor.types - 1, u)) × (b.registry ≡ r) × HasFewLooksUntil r b.looks
ahead_found r a b u h f =
    let is : first_unknown (length r) (left a) ≡ Some u =
    sym (subst (λ (q : List TypeInfo). Some u ≡ first_unknown (length q) (left a)) h.reading.types
    f.unknown) in
    let found = (fault_from r a h).found u is in (
      found.0,
      found.1,
      f.on.types ∙ h.reading.types,
      few_looks r b (reading_on r a b f.front h.reading f.on),
    )

-- without one the first fault is after it
pub ahead_passed : (r : List TypeInfo) (a b : Graph) → IsUnderWay r a → FindsUnknown a b None →
    FaultAhead r b
ahead_passed r a b h f =
    let n = length r in
    let is : first_unknown n (left a) ≡ None =
    sym (subst (λ (q : List TypeInfo). None ≡ first_unknown (length q) (left a)) h.reading.types
    f.unknown) in
    let all : AreKnown n (f.front ++ left b) = rw f.on.left at (none_known n (left a) is) in
    let front = (all_front (λ t. t < n) f.front (left b) all).0 in
    record {
      way = way_on r a b f.front h f.on front;
      done = f.ended refl;
      fault_ahead = rw f.on.place ((fault_from r a h).none is);
    }

-- a type that is opened has the first fault, or it is after it
pub ahead_opened : (r : List TypeInfo) (a b : Graph) (i : ℕ) (d : TypeDef) → FaultAhead r a →
    shape r i ≡ Some d → i ≡ a.cursor.types → IsOpened a b i → IsUnderWay r b
ahead_opened r a b i d h e place o = (way_opened r a b i d e h.way h.done place o).way

-- where all types were opened, there is no fault
pub ahead_none : (r : List TypeInfo) (g : Graph) → FaultAhead r g → length r ≤ g.cursor.types →
    (first_fault r ≡ None) × (g.registry ≡ r) × HasFewLooksUntil r g.looks
ahead_none r g h le = (
  sym h.fault_ahead ∙ go g.cursor.types r le,
  h.way.reading.types,
  few_looks r g h.way.reading,
) where
  go : (k : ℕ) (s : List TypeInfo) → length s ≤ k →
      unknown_from (length r) g.cursor.types (drop k s) ≡ None
  go zero [] f = refl
  go (suc k) [] f = refl
  go zero (x ∷ s) f = absurd (omega (arith, f))
  go (suc k) (x ∷ s) f = go k s (omega (arith, f))

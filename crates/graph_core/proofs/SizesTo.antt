-- The references and arms of the types that were passed.
use Rattle.std.proofs.Common.{◌≡◌, ◌≢◌, ℕ, zero, suc, ◌+◌, ◌<◌, ◌≤◌, max, Bool, true, false, cond}
use Rattle.std.proofs.Common.{List, [], ◌∷◌, length, take, flat_map, Some, refl, ◌∙◌, ◌⊎◌, arith}
use Rattle.std.proofs.Common.{inl, inr}
use Rattle.std.specs.Prelude.{◌==◌}
use Rattle.std.proofs.lemmas.Bool.{eqb-true, eq-eqb, cases_eq}
use Rattle.std.proofs.lemmas.List.{length-append}
use Rattle.types_core.specs.declared.definition.TypeDef.{TypeDef}
use Rattle.types_core.specs.declared.type_info.TypeInfo.{TypeInfo}
use Rattle.graph_core.specs.declared.graph.Graph.{Graph}
use Rattle.graph_core.specs.Types.{shape}
use Rattle.graph_core.specs.References.{references}
use Rattle.graph_core.specs.Counts.{times}
use Rattle.graph_core.specs.Graphs.{IsGlanced}
use Rattle.graph_core.specs.Sizes.{arm_count, arm_counts, AreSizesOf}
use Rattle.graph_core.specs.Widths.{width, widest}
use Rattle.graph_core.specs.declared.sizes.Sizes.{Sizes}

-- as types are looked at in order, each has one look at most, and those after have none
pub one_more : (i t : ℕ) (log : List ℕ) → (times t log ≤ 1) × (i ≤ t → times t log ≡ 0) →
    (times t (i ∷ log) ≤ 1) × (i + 1 ≤ t → times t (i ∷ log) ≡ 0)
one_more i t log h = go (i == t) refl where
  go : (b : Bool) → (i == t) ≡ b → (cond b 1 0 + times t log ≤ 1)
      × (i + 1 ≤ t → cond b 1 0 + times t log ≡ 0)
  go true e = let same : i ≡ t = eqb-true i t e in
      (omega (arith, h.1 (omega arith), same), λ le. absurd (omega (arith, same, le)))
  go false e = (omega (arith, h.0), λ le. omega (arith, h.1 (omega (arith, le))))

-- one more type has its references counted with those of the types before it
references_more : (r : List TypeInfo) (i : ℕ) (d : TypeDef) → shape r i ≡ Some d →
    length (flat_map (λ x. references x.shape) (take (suc i) r))
    ≡ length (flat_map (λ x. references x.shape) (take i r)) + length (references d)
references_more [] i d e = absurd cc
references_more (x ∷ r) zero d e =
    let is : x.shape ≡ d = cc in
    rw (length-append (references x.shape) [], is) (omega arith)
references_more (x ∷ r) (suc i) d e =
    let more = references_more r i d e in
    rw (
      length-append (references x.shape) (flat_map (λ y. references y.shape) (take (suc i) r)),
      length-append (references x.shape) (flat_map (λ y. references y.shape) (take i r)),
    )
    (omega (arith, more))

-- one more type has its arms counted with those of the types before it
arms_more : (r : List TypeInfo) (i : ℕ) (d : TypeDef) → shape r i ≡ Some d →
    arm_counts (take (suc i) r) ≡ arm_counts (take i r) + arm_count d
arms_more [] i d e = absurd cc
arms_more (x ∷ r) zero d e = let is : x.shape ≡ d = cc in rw is (omega arith)
arms_more (x ∷ r) (suc i) d e = let more = arms_more r i d e in omega (arith, more)

-- the width of one more type is joined to those of the types before it
widest_more : (r : List TypeInfo) (i : ℕ) (d : TypeDef) → shape r i ≡ Some d →
    widest (take (suc i) r) ≡ max (widest (take i r)) (width d)
widest_more [] i d e = absurd cc
widest_more (x ∷ r) zero d e = let is : x.shape ≡ d = cc in rw is (omega arith)
widest_more (x ∷ r) (suc i) d e = let more = widest_more r i d e in omega (arith, more)

-- the first i types were measured
pub record SizesTo (r : List TypeInfo) (i n m w : ℕ) (d : Graph) : Type 0 where
  pub types : d.registry ≡ r
  pub place : d.cursor.types ≡ 0
  pub references_are : n ≡ length (flat_map (λ x. references x.shape) (take i r))
  pub arms_are : m ≡ arm_counts (take i r)
  pub widest_is : w ≡ widest (take i r)
  pub opened : (t : ℕ) → (times t d.looks.opened.entries ≤ 1)
      × (i ≤ t → times t d.looks.opened.entries ≡ 0)
  pub seen : (t : ℕ) → t < i → 1 ≤ times t d.looks.opened.entries
  pub read : d.looks.read.entries ≡ []
  pub listed : d.looks.listed.entries ≡ []

-- one more type that is looked at is measured with those before it
pub sizes_more : (r : List TypeInfo) (i n m w : ℕ) (d : TypeDef) (s : Sizes) (a b : Graph) →
    shape r i ≡ Some d → AreSizesOf d s → SizesTo r i n m w a → IsGlanced a b i →
    SizesTo r (i + 1) (n + s.references) (m + s.arms) (max w s.widest) b
sizes_more r i n m w d s a b e is h o =
    let step : i + 1 ≡ suc i = omega arith in
    let refs = references_more r i d e in
    let arms = arms_more r i d e in
    let wide = widest_more r i d e in
    record {
      types = o.types ∙ h.types;
      place = rw o.cursor h.place;
      references_are = rw step (omega (arith, h.references_are, is.references, refs));
      arms_are = rw step (omega (arith, h.arms_are, is.arms, arms));
      widest_is = rw step (omega (arith, h.widest_is, is.widest, wide));
      opened = λ t. rw o.opened (one_more i t a.looks.opened.entries (h.opened t));
      seen = λ t lt. rw o.opened (seen t (cases_eq i t) lt);
      read = o.read ∙ h.read;
      listed = o.listed ∙ h.listed;
    } where
      seen : (t : ℕ) → (i ≡ t) ⊎ (i ≢ t) → t < i + 1 → 1 ≤ times t (i ∷ a.looks.opened.entries)
      seen t (inl same) lt = rw (eq-eqb i t same) (omega arith)
      seen t (inr other) lt =
          let before = h.seen t (omega (arith, lt, other)) in omega (arith, before)

-- Where bytes are missing, a begun tree is held.
use Rattle.std.proofs.Common.{◌≡◌, ℕ, zero, suc, Bool, true, false, cond, List, [], ◌∷◌, Ok, Err}
use Rattle.std.proofs.Common.{refl, ap, arith}
use Rattle.types_core.specs.declared.type_info.TypeInfo.{TypeInfo}
use Rattle.widths_core.specs.Classes.{is_finite}
use Rattle.widths_core.specs.Layouts.{Layout, layout}
use Rattle.widths_core.specs.Layouts as layout
use Rattle.grammar_core.specs.Reading.{value_at, layout_at, Refusal, truncated, too_deep}
use Rattle.grammar_core.specs.Reading.{no_finite_value}
use Rattle.outcome_core.specs.Met.{met_layout}
use Rattle.grammar_core.specs.Reading.{Own}
use Rattle.outcome_core.specs.Reported.{entry, own_at, Ending, Fault, Reported, reported, added}
use Rattle.outcome_core.specs.Reported.{ending, after, opened_reported, own_reported, reported_at}
use Rattle.outcome_core.specs.HeldTree.{IsShort, MissingIsBegun}
use Rattle.outcome_core.proofs.FaultBegins.{fault_is_begun}
use Rattle.outcome_core.proofs.Reports.{reported_agrees}

abbrev ends_by : Fault → Ending
ends_by e = Err e

-- two readings that end in faults and are equal have one fault
fault_is : (x y : Fault) → reported [] (ends_by x) ≡ reported [] (ends_by y) → x ≡ y
fault_is x y e = let both = ap ending e in cc

abbrev own_failed : Refusal × List ℕ → Own
own_failed e = Err e

-- two failures of a node's own bytes that are equal have one reason
own_failed_is : (x y : Refusal × List ℕ) → own_failed x ≡ own_failed y → x.0 ≡ y.0
own_failed_is x y e = cc

-- where nothing is added before a fault, it is that of the node's own bytes
own_fault : (child : ℕ → List ℕ → Reported) (t : ℕ) (b : List ℕ) (o : Own)
    (e : Refusal × List ℕ) → own_reported child t b o ≡ reported [] (Err (e, b)) → o ≡ Err e
own_fault child t b (Err x) e h =
    ap (λ (y : Fault). Err y.0) (fault_is (x, b) (e, b) h)
own_fault child t b (Ok x) e h = absurd (by (opened_reported child x.0.1 x.1) h) where
  by : (y : Reported) → after (entry t x.0.0 ∷ []) y ≡ reported [] (Err (e, b)) → ⊥
  by (reported xs end) k = let no = ap added k in cc

-- where a node's own bytes are cut, its type is finite
met_short : (t : Bool) (f : Layout) (b left : List ℕ) →
    own_at (cond t f layout.unknown) b ≡ Err (truncated, left) → (t ≡ true)
    × (own_at f b ≡ Err (truncated, left))
unfolding own_at layout_at
met_short true f b left h = (refl, h)
met_short false f b left h = let no =
    own_failed_is (no_finite_value, b) (truncated, left) h in absurd cc

-- where nothing is added before bytes are missing, the node's own are short
cut_is_short : (r : List TypeInfo) (room t : ℕ) (b left : List ℕ) →
    reported_at r room t b ≡ reported [] (Err ((truncated, left), b)) → IsShort r room t b
unfolding reported_at met_layout
cut_is_short r zero t b left h = let no =
    ap (λ (y : Fault). y.0.0) (fault_is ((too_deep, b), b) ((truncated, left), b) h) in absurd cc
cut_is_short r (suc room) t b left h =
    let short = met_short (is_finite r t) (layout r t) b left
    (own_fault (reported_at r room) t b (own_at (met_layout r t) b) (truncated, left) h) in
    (omega arith, short.0, left, short.1)

-- a reading that is known to be cut is so node by node
cut_reported : (r : List TypeInfo) (room t : ℕ) (b left : List ℕ) →
    value_at r room t b ≡ Err (truncated, left) →
    (met : List ℕ) × (ending (reported_at r room t b) ≡ Err ((truncated, left), met))
cut_reported r room t b left e = let h = reported_agrees r room t b in (rw e at h)

-- a reading is what it adds and how it ends
reported_is : (y : Reported) (e : Ending) → ending y ≡ e → y ≡ reported (added y) e
reported_is (reported xs end) e h = ap (reported xs) h

-- where bytes are missing, a begun tree and the bytes after its own are held
pub missing_is_begun : MissingIsBegun
missing_is_begun r room t b left e =
    let cut = cut_reported r room t b left e in
    let fault : Fault = ((truncated, left), cut.0) in
    let h = fault_is_begun r room t b (added (reported_at r room t b)) fault
    (reported_is (reported_at r room t b) (Err fault) cut.1) in
    let short = cut_is_short r h.below h.next cut.0 left h.meets in
    (h.tree, cut.0, h.part, (h.own, h.below, h.next, h.is, h.grows, short))

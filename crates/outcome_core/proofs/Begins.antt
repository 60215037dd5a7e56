-- Where a begun tree is held, bytes are missing, and it is the one that is computed.
use Rattle.std.proofs.Common.{◌≡◌, ℕ, zero, suc, ◌≤◌, List, [], ◌++◌, Some}
use Rattle.std.proofs.Common.{Err, refl, sym, ap, subst, ◌∙◌, append_assoc, arith}
use Rattle.types_core.specs.declared.type_info.TypeInfo.{TypeInfo}
use Rattle.widths_core.specs.Layouts.{layout}
use Rattle.grammar_core.specs.Tree.{Trees, none, and, most_levels}
use Rattle.grammar_core.specs.Parts.{Part, first_of, left_after, how_many_left}
use Rattle.grammar_core.specs.Reading.{value_at, truncated}
use Rattle.grammar_core.specs.Begun.{Begun, nothing, whole, open_branch, FirstValues, Grows}
use Rattle.grammar_core.proofs.Complete.{value_again}
use Rattle.grammar_core.proofs.OpenNodes.{child_is, one_less}
use Rattle.grammar_core.proofs.Parts.{parts_fail}
use Rattle.outcome_core.specs.Met.{met_layout}
use Rattle.outcome_core.specs.Reported.{reported, reported_at}
use Rattle.outcome_core.specs.HeldTree.{IsShort, held, parts_held}
use Rattle.outcome_core.specs.HeldTree.{BegunIsMissing}
use Rattle.outcome_core.proofs.Fed.{fault_value}
use Rattle.outcome_core.proofs.Owns.{opened_again}
use Rattle.graph_core.proofs.FirstFault.{some_is}

-- where values stand before a cut part, they and its begun tree are held
first_front : (r : List TypeInfo) (room : ℕ) (p : Part) (vs : Trees) (b : List ℕ) (left : Part)
    (u n : ℕ) (c rest : List ℕ) (g : Begun × List ℕ) → FirstValues r p vs b left →
    first_of left ≡ Some u → most_levels vs ≤ room → n ≡ how_many_left p →
    value_at r room u c ≡ Err (truncated, rest) → held r room u c ≡ g →
    parts_held (value_at r room) (held r room) n p (b ++ c) ≡ (vs, g)
first_front r room p none b left u zero c rest g h next l k e f =
    absurd (omega (arith, one_less left u next, ap how_many_left h.1))
first_front r room p (and v vs) b left u zero c rest g h next l k e f =
    absurd (omega (arith, one_less p h.0 h.3))
first_front r room p none b left u (suc n) c rest g h next l k e f =
    rw (h.0, child_is p u (ap first_of (sym h.1) ∙ next), e, f) refl
first_front r room p (and v vs) b left u (suc n) c rest g h next l k e f =
    rw (
      h.4,
      append_assoc h.1 h.2 c,
      child_is p h.0 h.3,
      value_again r room h.0 v h.1 (h.2 ++ c) h.5 (omega arith),
      first_front r room (left_after p) vs h.2 left u n c rest g h.6 next (omega arith)
          (omega (arith, one_less p h.0 h.3)) e f,
    ) refl

-- where a node's own bytes are short, the reading is cut, and nothing but these bytes is held
bare_read : (r : List TypeInfo) (room t : ℕ) (e : List ℕ) → IsShort r room t e →
    ((left : List ℕ) × (value_at r room t e ≡ Err (truncated, left)))
    × (held r room t e ≡ (nothing, e))
unfolding reported_at met_layout held
bare_read r zero t e h = absurd (omega (arith, h.0))
bare_read r (suc room) t e h =
    let cut : reported_at r (suc room) t e ≡ reported [] (Err ((truncated, h.2), e)) =
    rw (h.1, h.3) refl in
    ((h.2, fault_value r (suc room) t e [] truncated h.2 e cut), rw h.3 refl)

-- a begun tree and too few bytes after it are read as cut, and just these are held
begun_read : (r : List TypeInfo) (room t : ℕ) (g : Begun) (own e : List ℕ) (at u : ℕ) →
    Grows r room t g own (Some (at, u)) → IsShort r at u e →
    ((left : List ℕ) × (value_at r room t (own ++ e) ≡ Err (truncated, left)))
    × (held r room t (own ++ e) ≡ (g, e))
unfolding Grows value_at held
begun_read r room t nothing own e at u h k =
    let here = bare_read r room t e
    (subst (λ (p : ℕ × ℕ). IsShort r p.0 p.1 e) (some_is (at, u) (room, t) h.1) k) in
    rw h.0 here
begun_read r room t (whole v) own e at u h k = let no = h.2 in absurd cc
begun_read r zero t (open_branch kind n vs g) own e at u h k = absurd h
begun_read r (suc room) t (open_branch kind n vs g) own e at u h k =
    let o = h.5 in
    let next = begun_read r room h.1 g h.3 e at u h.10 k in
    let fails = (parts_fail r room o.0 (o.2 ++ (h.3 ++ e)) truncated next.0.0).1
    (vs, h.0, h.1, o.2, h.3 ++ e, o.6, h.7, refl, h.6, next.0.1) in
    let parts = first_front r room o.0 vs o.2 h.0 h.1 n (h.3 ++ e) next.0.0 (g, e) o.6 h.7 h.6 o.4
    next.0.1 next.1 in
    let opened = opened_again (value_at r room) (layout r t) kind o.1 o.0 (o.2 ++ (h.3 ++ e)) o.3 in
    let split : own ++ e ≡ o.1 ++ (o.2 ++ (h.3 ++ e)) = rw (h.8, o.5) (simp append_assoc) in (
      (next.0.0, rw (split, h.4, opened.1, fails) refl),
      rw (split, opened.0, ← o.4, parts) refl,
    )

-- where a begun tree is held, bytes are missing, and it is the one that is computed
pub begun_is_missing : BegunIsMissing
begun_is_missing r room t b g e h = rw h.3 (begun_read r room t g h.0 e h.1 h.2 h.4 h.5)

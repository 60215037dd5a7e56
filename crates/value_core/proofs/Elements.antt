-- An element of a list that another follows: nothing is whole after it, and the same type is next.
use Rattle.std.proofs.Common.{◌≡◌, ℕ, zero, suc, ◌+◌, ◌≤◌, List, [], ◌∷◌, length, Option, Some}
use Rattle.std.proofs.Common.{None, refl, ap, ◌∙◌, arith}
use Rattle.grammar_core.specs.Parts.{Part, each, times}
use Rattle.value_core.specs.Built.{closings, settled_in}
use Rattle.value_core.specs.Walked.{OpenPart, Walked, advanced, advanced_in}
use Rattle.node_core.specs.Remaining.{after_first}
use Rattle.value_core.specs.Walked.{after_first_in, elements_after, first_in, next_from, next_of}
use Rattle.value_core.specs.Walked.{next_type}
use Rattle.value_core.proofs.Closing.{advanced_length}

-- so many values of one type are left, two at least
both_left : (p : Part) → 1 ≤ after_first p → (n t : ℕ) × (p ≡ times (suc (suc n)) t)
both_left (each ts) h = absurd (omega (arith, h))
both_left (times zero t) h = absurd (omega (arith, h))
both_left (times (suc zero) t) h = absurd (omega (arith, h))
both_left (times (suc (suc n)) t) h = (n, t, refl)

-- the type that is next stays next
first_again : (fs : List OpenPart) → 1 ≤ after_first_in fs →
    first_in (advanced_in fs) ≡ first_in fs
first_again [] h = absurd (omega (arith, h))
first_again (f ∷ fs) h = rw (both_left f.left h).2 refl

-- no node is whole then
pub stays_open : (fs : List OpenPart) → 1 ≤ after_first_in fs →
    settled_in (advanced_in fs) ≡ advanced_in fs
stays_open [] h = absurd (omega (arith, h))
stays_open (f ∷ []) h = refl
stays_open (f ∷ g ∷ fs) h = rw (both_left f.left h).2 refl

-- and none is closed
pub none_closed : (fs : List OpenPart) (turns : ℕ) → 1 ≤ after_first_in fs →
    turns + closings (advanced_in fs) ≡ turns
none_closed fs turns h = omega (arith, ap length (stays_open fs h))

-- the same comes next
pub next_again : (w : Walked) → 1 ≤ elements_after w → next_of (advanced w) ≡ next_of w
next_again w h = ap (next_from (advanced w)) (first_again w.frames h) ∙ by (next_type w) where
  by : (o : Option ℕ) → next_from (advanced w) o ≡ next_from w o
  by None = refl
  by (Some t) = rw (advanced_length w.frames) refl

-- Each turn of the machine keeps what the whole reading says.
use Rattle.std.proofs.Common.{◌≡◌, ℕ, suc, ◌+◌, ◌<◌, List, [], ◌∷◌, ◌++◌, length, Some, None}
use Rattle.std.proofs.Common.{refl, ap, arith, length-append}
use Rattle.types_core.specs.declared.type_info.TypeInfo.{TypeInfo}
use Rattle.grammar_core.specs.Parts.{Part, each, times}
use Rattle.grammar_core.specs.Preorder.{Entry}
use Rattle.grammar_core.specs.Preorder.{Head}
use Rattle.outcome_core.specs.Reported.{entry, Reported, reported, added, after, then, all_reported}
use Rattle.outcome_core.specs.Reported.{times_reported}
use Rattle.outcome_core.specs.Reported.{reported_at, rest_reported}
use Rattle.outcome_core.specs.Machine.{State, remain, to_go}
use Rattle.outcome_core.specs.Machine.{TurnLeads}
use Rattle.outcome_core.proofs.Reports.{after-after, then-after, then-then}
use Rattle.outcome_core.proofs.Owns.{SpellsNode}

-- parts of these types are read as the first of them and then the others
pub each_first : (r : List TypeInfo) (room t : ℕ) (ts : List ℕ) (ps : List Part) (b : List ℕ) →
    rest_reported r room (each (t ∷ ts) ∷ ps) b ≡ then (reported_at r room t b)
    (rest_reported r room (each ts ∷ ps))
unfolding rest_reported
each_first r room t ts ps b =
    then-then (reported_at r room t b) (all_reported (reported_at r room) ts)
    (rest_reported r (suc room) ps)

-- parts of one type are read as one of them and then one fewer
pub times_first : (r : List TypeInfo) (room n t : ℕ) (ps : List Part) (b : List ℕ) →
    rest_reported r room (times (suc n) t ∷ ps) b ≡ then (reported_at r room t b)
    (rest_reported r room (times n t ∷ ps))
unfolding rest_reported
times_first r room n t ps b =
    then-then (reported_at r room t b) (times_reported (reported_at r room) n t)
    (rest_reported r (suc room) ps)

-- what is first of what is pending, and what is pending after it
abbrev pub IsFirstOf : List TypeInfo → ℕ → ℕ → List Part → List Part → Type 0
IsFirstOf r room t ps qs = (b : List ℕ) →
    rest_reported r room ps b ≡ then (reported_at r room t b) (rest_reported r room qs)

-- a node without children is added in a turn that takes its own bytes
pub own_leaf : (r : List TypeInfo) (nodes : List Entry) (room t : ℕ) (ps qs : List Part) (h : Head)
    (c : List ℕ) → IsFirstOf r (suc room) t ps qs → length qs ≡ length ps →
    SpellsNode r t (h, None) c →
    TurnLeads r (record { nodes = nodes; room = suc room; pending = ps })
    (record { nodes = nodes ++ entry t h ∷ []; room = suc room; pending = qs }) c
unfolding reported_at
own_leaf r nodes room t ps qs h c f len is =
    record {
      reports = λ more. rw (f (c ++ more), is more, after-after) refl;
      level = rw len refl;
      paid = omega (arith, len, length-append nodes (entry t h ∷ []));
    }

-- a node with children is added and its parts are opened in a turn that takes its own bytes
pub own_opens : (r : List TypeInfo) (nodes : List Entry) (room t : ℕ) (ps qs : List Part) (h : Head)
    (p : Part) (c : List ℕ) → IsFirstOf r (suc room) t ps qs → length qs ≡ length ps →
    SpellsNode r t (h, Some p) c →
    TurnLeads r (record { nodes = nodes; room = suc room; pending = ps })
    (record { nodes = nodes ++ entry t h ∷ []; room = room; pending = p ∷ qs }) c
unfolding reported_at rest_reported
own_opens r nodes room t ps qs h p c f len is =
    record {
      reports = λ more. rw (f (c ++ more), is more, then-after, after-after) refl;
      level =
          omega (arith, len);
      paid = omega (arith, len, length-append nodes (entry t h ∷ []));
    }

-- what is added after nodes counts as many more
pub count_after : (xs : List Entry) (y : Reported) →
    length (added (after xs y)) ≡ length xs + length (added y)
count_after xs (reported ys end) = length-append xs ys

-- each turn leaves less to do
pub nearer : (r : List TypeInfo) (s s' : State) (c y : List ℕ) → TurnLeads r s s' c →
    to_go r s' y < to_go r s (c ++ y)
nearer r s s' c y h = omega (
  arith,
  h.paid,
  count_after s.nodes (remain r s (c ++ y)),
  count_after s'.nodes (remain r s' y),
  ap (λ (z : Reported). length (added z)) (h.reports y),
)

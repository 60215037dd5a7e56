-- A decoder as a machine over lists: nodes so far, and parts that are still to be read.
use Rattle.std.specs.Prelude.{◌≡◌, ℕ, suc, ◌+◌, ◌*◌, ◌≤◌, List, [], ◌∷◌, ◌++◌, length, Bool, true}
use Rattle.std.specs.Prelude.{false}
use Rattle.scale_core.specs.declared.fault.Reason.TheVariants as scale
use Rattle.types_core.specs.declared.type_info.TypeInfo.{TypeInfo}
use Rattle.grammar_core.specs.Reading.{Refusal, basic}
use Rattle.grammar_core.specs.Parts.{Part, times}
use Rattle.grammar_core.specs.Preorder.{Entry}
use Rattle.outcome_core.specs.Reported.{Reported, added, after, rest_reported}

-- the nodes so far, the levels left for the values of the innermost part, and the parts that are
-- still to be read, the innermost first
pub record State : Type 0 where
  pub nodes : List Entry
  pub room : ℕ
  pub pending : List Part

-- what these bytes will add to this state
abbrev pub remain : List TypeInfo → State → List ℕ → Reported
remain r s x = rest_reported r s.room s.pending x

abbrev pub start : ℕ → ℕ → State
start depth t = record { nodes = []; room = suc depth; pending = times 1 t ∷ [] }

-- a number of turns that is enough
abbrev pub to_go : List TypeInfo → State → List ℕ → ℕ
to_go r s x = 2 * length (added (remain r s x)) + length s.pending

abbrev pub is_cut : Refusal → Bool
is_cut (basic scale.Truncated) = true
is_cut _ = false

-- the bytes c lead from one state to the next, whatever follows them; the new nodes bound the new
-- frames
pub record TurnLeads (r : List TypeInfo) (s s' : State) (c : List ℕ) : Type 0 where
  pub reports : (more : List ℕ) →
      after s.nodes (remain r s (c ++ more)) ≡ after s'.nodes (remain r s' more)
  pub level : s'.room + length s'.pending ≡ s.room + length s.pending
  pub paid : length s'.pending + 2 * length s.nodes + 1 ≤ length s.pending + 2 * length s'.nodes

-- the bytes c lead from one state to another in any number of turns
pub record TurnsLead (r : List TypeInfo) (s s' : State) (c : List ℕ) : Type 0 where
  pub reports : (more : List ℕ) →
      after s.nodes (remain r s (c ++ more)) ≡ after s'.nodes (remain r s' more)
  pub level : s'.room + length s'.pending ≡ s.room + length s.pending

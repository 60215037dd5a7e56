-- What the bytes of the next node do to a value being built: they add the node, or are rejected.
use Rattle.std.specs.Prelude.{false, ◌⊎◌, ◌≡◌, ℕ, List, [], Option, Some, None, Result, Ok, Err}
use Rattle.scale_core.specs.Read.{place}
use Rattle.widths_core.specs.declared.run_kind.RunKind.{RunKind}
use Rattle.value_core.specs.Built.{Built, with_leaf, with_open, with_run_opened, next_layout}
use Rattle.value_core.specs.Walked.{next_of}
use Rattle.grammar_core.specs.Parts.{Part}
use Rattle.grammar_core.specs.Preorder.{Head}
use Rattle.grammar_core.specs.Reading.{Refusal}
use Rattle.grammar_core.specs.Runs.{run_form, run_length_at}
use Rattle.node_core.specs.Leaves.{leaf_head}
use Rattle.node_core.specs.declared.leaf.Leaf.{Leaf}
use Rattle.grammar_core.specs.declared.form.Form.{Form}
use Rattle.grammar_core.specs.declared.form.Next.TheVariants as next
use Rattle.outcome_core.specs.Machine.{is_cut}
use Rattle.machine_core.specs.Reasons.{reason_of}
use Rattle.outcome_core.specs.Reported.{own_at}
use Rattle.machine_core.specs.declared.reason.DecodeReason.{DecodeReason}
use Rattle.machine_core.specs.declared.node.NodeFault.{NodeFault}
use Rattle.machine_core.specs.declared.node.NodeFault.TheVariants as fault

-- the value with a node without children, or with one that opens these parts
abbrev pub with_own : Built → Head × Option Part → Built
with_own b (h, None) = with_leaf b h
with_own b (h, Some p) = with_open b h p

-- the bytes are exactly those of the next node, which is added
abbrev pub IsAdded : Built → Built → List ℕ → Type 0
IsAdded old new own = (x : Head × Option Part) × (own_at (next_layout old) own ≡ Ok (x, []))
    × (new ≡ with_own old x)

-- the next node is rejected with this reason, at this place from its first byte
abbrev pub IsRefused : Built → List ℕ → DecodeReason → ℕ → Type 0
IsRefused b own reported at = (e : Refusal) × (left : List ℕ)
    × (own_at (next_layout b) own ≡ Err (e, left)) × (is_cut e ≡ false) × (reported ≡ reason_of e)
    × (at ≡ place own left)

-- the bytes spell the next node, and nothing else
abbrev pub IsSpelled : Built → List ℕ → Type 0
IsSpelled b own = (x : Head × Option Part) × (own_at (next_layout b) own ≡ Ok (x, []))

-- what the next node's bytes do to a value; an allocation fails only for a node that they spell
abbrev pub AddsNode : Built → Built → List ℕ → Result (Unit {0}) NodeFault → Type 0
AddsNode old new own (Ok _) = IsAdded old new own
AddsNode old new own (Err (fault.Refused reported at)) = IsRefused old own reported at × (new ≡ old)
AddsNode old new own (Err (fault.OutOfMemory _)) = IsSpelled old own × (new ≡ old)

-- the same for bytes that spell the node
abbrev pub AddsBytes : {E : Type 0} → Built → Built → List ℕ → Result (Unit {0}) E → Type 0
AddsBytes old new own (Ok _) = IsAdded old new own
AddsBytes old new own (Err e) = IsSpelled old own × (new ≡ old)

-- the bytes are the length of the next run, which is now open and has none of its bytes yet
abbrev pub IsRunOpened : Form → Built → Built → List ℕ → Type 0
IsRunOpened f old new own = (k : RunKind) × (n : ℕ) × (f ≡ run_form k)
    × (run_length_at k own ≡ Ok (n, [])) × (new ≡ with_run_opened old k n)

-- what the next node's own bytes do to a value, whether the node is a run or not
abbrev pub TakesNode : Form → Built → Built → List ℕ → Result (Unit {0}) NodeFault → Type 0
TakesNode f old new own (Ok _) = IsAdded old new own ⊎ IsRunOpened f old new own
TakesNode f old new own (Err e) = AddsNode old new own (Err e)

-- no run is open, and these bytes spell this leaf, a value of the next type
pub record IsWholeLeaf (b : Built) (own : List ℕ) (l : Leaf) : Type 0 where
  pub form : Form
  pub wants : next_of b.walk ≡ next.Wants form
  pub closed : b.run ≡ None
  pub read : own_at (next_layout b) own ≡ Ok ((leaf_head l, None), [])

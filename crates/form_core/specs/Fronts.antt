-- A node without parts that lies whole at the start of a piece, by the form that it is read by.
use Rattle.std.specs.Prelude.{◌⊎◌, ◌≡◌, ◌<◌, ℕ, List, [], ◌∷◌, length, take, Ok, Err}
use Rattle.scale_core.specs.declared.compact.Target.{Target}
use Rattle.scale_core.specs.declared.fault.Fault.{Fault}
use Rattle.widths_core.specs.declared.run_kind.RunKind.{RunKind}
use Rattle.grammar_core.specs.Runs.{run_form}
use Rattle.grammar_core.specs.declared.form.Form.{Form}
use Rattle.grammar_core.specs.declared.form.Form.TheVariants as form
use Rattle.node_core.specs.declared.leaf.Leaf.{Leaf}
use Rattle.node_core.specs.declared.leaf.Leaf.TheVariants as leaf
use Rattle.form_core.specs.Needs.{AreOwn, need}
use Rattle.form_core.specs.NodeForms.{form_of_plain}
use Rattle.form_core.specs.PlainReads.{ReadsPlain}
use Rattle.form_core.specs.WholeCompacts.{IsCompactAtFront}
use Rattle.form_core.specs.WholeRuns.{ReadsRun}
use Rattle.form_core.specs.declared.forms.PlainForm.{PlainForm}

-- what a node without parts is read by: the form if it has few bytes, the target of a compact
-- integer, or the kind of a text or a run of bytes
pub data Front : Type 0 where
  plain : PlainForm → Front
  compact : Target → Front
  run : RunKind → Front

-- the same, as the form of a node
abbrev pub form_of_front : Front → Form
form_of_front (plain p) = form_of_plain p
form_of_front (compact m) = form.Compact m
form_of_front (run k) = run_form k

-- the leaf lies whole at the start of a piece, in `count` bytes
abbrev pub StandsWhole : Front → List ℕ → Leaf → ℕ → Type 0
StandsWhole (plain p) piece l count = AreOwn (form_of_plain p) (take count piece)
    × ReadsPlain p (take count piece) (Ok l)
StandsWhole (compact m) piece l count = (n : ℕ) × (l ≡ leaf.Compact n)
    × IsCompactAtFront m piece n count
StandsWhole (run k) piece l count = ReadsRun k piece l count

-- a piece has too few bytes for the node, or they are rejected
abbrev pub LacksPlain : PlainForm → List ℕ → Type 0
LacksPlain p [] = Unit {0}
LacksPlain p (first ∷ rest) = (length (first ∷ rest) < need (form_of_plain p) first)
    ⊎ ((f : Fault) × ReadsPlain p (take (need (form_of_plain p) first) (first ∷ rest)) (Err f))

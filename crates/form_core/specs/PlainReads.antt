-- A node without parts, read from its bytes by its form.
use Rattle.std.specs.Prelude.{◌≡◌, ℕ, List, None, Result, Ok, Err}
use Rattle.scale_core.specs.Read.{Read, place}
use Rattle.scale_core.specs.declared.fault.Fault.{Fault}
use Rattle.scale_core.specs.declared.fault.Reason.{Reason}
use Rattle.grammar_core.specs.Reading.{basic, leaf_at, leaf_own}
use Rattle.node_core.specs.Leaves.{leaf_head}
use Rattle.node_core.specs.declared.leaf.Leaf.{Leaf}
use Rattle.form_core.specs.NodeForms.{plain_layout}
use Rattle.form_core.specs.declared.forms.PlainForm.{PlainForm}

-- the answer is what is read at the start of the bytes
abbrev pub ReadsFront : {X : Type 0} → List ℕ → Result X Fault → Read Reason X → Type 0
ReadsFront own (Ok x) read = (rest : List ℕ) × (read ≡ Ok (x, rest))
ReadsFront own (Err f) read = (left : List ℕ) × (read ≡ Err (f.reason, left))
    × (f.at ≡ place own left)

-- the answer is what the layout reads at the start of the bytes
abbrev pub ReadsPlain : PlainForm → List ℕ → Result Leaf Fault → Type 0
ReadsPlain p own (Ok l) = (rest : List ℕ)
    × (leaf_own (leaf_at (plain_layout p) own) ≡ Ok ((leaf_head l, None), rest))
ReadsPlain p own (Err f) = (left : List ℕ)
    × (leaf_own (leaf_at (plain_layout p) own) ≡ Err (basic f.reason, left))
    × (f.at ≡ place own left)

-- The parts of a node, by position.
use Rattle.std.specs.Prelude.{ℕ, ◌^◌, List, [], Option, Some, None, slice_get, unwrap_or, nat_lt}
use Rattle.std.specs.Prelude.{option_and_then, if◌then◌else◌}
use Rattle.grammar_core.specs.Tree.{Tree, leaf, compact}
use Rattle.node_core.specs.Shown.{Seen, bytes_of, children_of, text_of}

abbrev pub child : ℕ → Seen → Option Seen
child k s = slice_get (children_of s) k

-- what the option at a position has
abbrev pub inner : ℕ → Seen → Option Seen
inner k s = option_and_then (child 0) (child k s)

-- the text at a position, or an empty one
abbrev pub text_at : ℕ → Seen → List ℕ
text_at k s = unwrap_or (option_and_then (λ c. text_of c.tree) (child k s)) []

abbrev pub bytes_at : ℕ → Seen → Option (List ℕ)
bytes_at k s = option_and_then (λ c. bytes_of c.tree) (child k s)

-- the position that a compact stands for
abbrev pub position_of : Tree → Option ℕ
position_of (leaf (compact n)) = if nat_lt n (2 ^ 32) then Some n else None
position_of _ = None

abbrev pub reference_of : Seen → Option ℕ
reference_of s = position_of s.tree

abbrev pub reference_at : ℕ → Seen → Option ℕ
reference_at k s = option_and_then reference_of (child k s)

abbrev pub inner_reference : ℕ → Seen → Option ℕ
inner_reference k s = option_and_then reference_of (inner k s)

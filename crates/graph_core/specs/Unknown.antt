-- What a search for a reference that is not a position finds.
use Rattle.std.specs.Prelude.{◌≡◌, ℕ, List, [], ◌++◌, length, Option, None}
use Rattle.graph_core.specs.declared.graph.Graph.{Graph}
use Rattle.graph_core.specs.Cursors.{left, parts_left, arms_left}
use Rattle.graph_core.specs.Graphs.{ReadsOn}
use Rattle.graph_core.specs.References.{first_unknown}

-- u is the first unknown reference among the open ones; if there is none, all of them were read
pub record FindsUnknownPart (a b : Graph) (u : Option ℕ) : Type 0 where
  pub unknown : u ≡ first_unknown (length a.registry) (parts_left a)
  pub front : List ℕ
  pub on : ReadsOn a b front
  pub parts : parts_left a ≡ front ++ parts_left b
  pub arms : arms_left b ≡ arms_left a
  pub ended : u ≡ None → parts_left b ≡ []

-- u is the first unknown reference in the rest of the open definition; if there is none, all of the
-- rest was read
pub record FindsUnknown (a b : Graph) (u : Option ℕ) : Type 0 where
  pub unknown : u ≡ first_unknown (length a.registry) (left a)
  pub front : List ℕ
  pub on : ReadsOn a b front
  pub ended : u ≡ None → left b ≡ []

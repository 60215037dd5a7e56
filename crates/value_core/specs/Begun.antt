-- What a builder holds: a begun tree, and how its walk describes it.
use Rattle.std.specs.Prelude.{◌≡◌, ℕ, ◌+◌, ◌-◌, nat_lt, if◌then◌else◌, List, length, map, flat_map}
use Rattle.std.specs.Prelude.{Option, Some, None, option_map}
use Rattle.scale_core.specs.Number.{AreBytes}
use Rattle.types_core.specs.declared.type_info.TypeInfo.{TypeInfo}
use Rattle.graph_core.specs.Types.{shape}
use Rattle.grammar_core.specs.Spelled.{own_bytes}
use Rattle.grammar_core.specs.Begun.{Begun, Grows, begun_preorder, begun_nodes, begun_text_bytes}
use Rattle.grammar_core.specs.Begun.{begun_depth, is_whole_tree}
use Rattle.grammar_core.specs.Forms.{next_at}
use Rattle.grammar_core.specs.declared.form.StopReason.TheVariants as stop
use Rattle.grammar_core.specs.declared.form.Next.{Next}
use Rattle.grammar_core.specs.declared.form.Next.TheVariants as next
use Rattle.value_core.specs.Walked.{Walked, next_type, next_of, depth_of}
use Rattle.value_core.specs.Built.{Built, HasFewTurns, entries_text_bytes}
use Rattle.value_core.specs.Refusals.{is_complete}

-- the levels left for the next type of a walk, and that type
abbrev pub next_with_room : Walked → Option (ℕ × ℕ)
next_with_room w = option_map (λ t. (w.limit + 2 - length w.frames, t)) (next_type w)

-- what comes next if this type is missing and so many levels are left: a value needs at least one
abbrev pub next_in : List TypeInfo → Option (ℕ × ℕ) → Next
next_in r None = next.Finished
next_in r (Some n) = if nat_lt 0 n.0 then next_at r n.1 else next.Stop stop.TooDeep

-- the bytes of the nodes, one after the other
abbrev pub built_bytes : Built → List ℕ
built_bytes b = flat_map (λ e. own_bytes (shape b.walk.types e.ty) e.head) b.entries

-- the nodes and their bytes are those of a begun tree of the type, whose levels fit the depth
-- limit; the type that is missing first is the walk's next one, at its depth; the tree is a value
-- exactly if the builder is complete; and there were no more turns than nodes to close
pub record IsBegun (b : Built) : Type 0 where
  pub tree : Begun
  pub are_bytes : AreBytes (built_bytes b)
  pub grows : Grows b.walk.types (b.walk.limit + 1) b.ty tree (built_bytes b)
      (next_with_room b.walk)
  pub shows : map (λ e. e.head) b.entries ≡ begun_preorder tree
  pub nodes : length b.entries ≡ begun_nodes tree
  pub text_bytes : entries_text_bytes b.entries ≡ begun_text_bytes tree
  pub answer : next_of b.walk ≡ next_in b.walk.types (next_with_room b.walk)
  pub depth : depth_of b.walk ≡ begun_depth tree
  pub whole : is_complete b ≡ is_whole_tree tree
  pub turns : HasFewTurns b

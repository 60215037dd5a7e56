-- What contracts see of a walk through a value, and what comes next in it.
use Rattle.std.specs.Prelude.{◌≡◌, ◌≢◌, ℕ, ◌+◌, ◌-◌, ◌≤◌, List, [], ◌∷◌, length, Option, Some, None}
use Rattle.std.specs.Prelude.{Bool, false, nat_lt, if◌then◌else◌}
use Rattle.types_core.specs.declared.type_info.TypeInfo.{TypeInfo}
use Rattle.grammar_core.specs.Parts.{Part, times, first_of, left_after}
use Rattle.grammar_core.specs.Forms.{next_at}
use Rattle.node_core.specs.Remaining.{after_first, have_one_type}
use Rattle.grammar_core.specs.declared.form.StopReason.TheVariants as stop
use Rattle.grammar_core.specs.declared.form.Next.{Next}
use Rattle.grammar_core.specs.declared.form.Next.TheVariants as next

-- an open node, by its place among the nodes, and its remaining parts
pub record OpenPart : Type 0 where
  pub node : ℕ
  pub left : Part

-- a walk through a value of these types, down to this depth: the open parts, the innermost first
-- and the root's part last
pub record Walked : Type 0 where
  pub types : List TypeInfo
  pub limit : ℕ
  pub frames : List OpenPart

-- no node is there yet, and one value of the root's type is to come; the root's part belongs to no
-- node and has the place 0
abbrev pub start_of : List TypeInfo → ℕ → ℕ → Walked
start_of types root limit =
    record { types = types; limit = limit; frames = record { node = 0; left = times 1 root } ∷ [] }

-- the limit is at most 1024, the root's part is there, and there are at most limit + 2 parts
pub record IsBounded (w : Walked) : Type 0 where
  pub limit : w.limit ≤ 1024
  pub rooted : 1 ≤ length w.frames
  pub frames : length w.frames ≤ w.limit + 2

-- the type that is next in the innermost of these
abbrev pub first_in : List OpenPart → Option ℕ
first_in [] = None
first_in (o ∷ os) = first_of o.left

abbrev pub next_type : Walked → Option ℕ
next_type w = first_in w.frames

-- whether the innermost open node is a list, or only the root's part is left
abbrev pub is_list_in : List OpenPart → Bool
is_list_in [] = false
is_list_in (o ∷ os) = have_one_type o.left

abbrev pub after_first_in : List OpenPart → ℕ
after_first_in [] = 0
after_first_in (o ∷ os) = after_first o.left

-- how many elements follow the next one in the innermost open list; 0 in a node of another kind
abbrev pub elements_after : Walked → ℕ
elements_after w = after_first_in w.frames

-- the root has depth 0, and each open node around the next one adds a level
abbrev pub depth_from : ℕ → Option ℕ → ℕ
depth_from open_parts (Some t) = open_parts - 1
depth_from open_parts None = 0

-- the depth of the next node, or 0 if nothing is next
abbrev pub depth_of : Walked → ℕ
depth_of w = depth_from (length w.frames) (next_type w)

-- what comes next: first whether it is too deep, then whether its type has a value, then its form
abbrev pub next_from : Walked → Option ℕ → Next
next_from w None = next.Finished
next_from w (Some t) = if nat_lt (w.limit + 1) (length w.frames) then next.Stop stop.TooDeep else
    next_at w.types t

abbrev pub next_of : Walked → Next
next_of w = next_from w (next_type w)

-- the next node is taken off the innermost part
abbrev pub advanced_in : List OpenPart → List OpenPart
advanced_in [] = []
advanced_in (o ∷ os) = record { node = o.node; left = left_after o.left } ∷ os

abbrev pub advanced : Walked → Walked
advanced w = record { types = w.types; limit = w.limit; frames = advanced_in w.frames }

-- one more node is open, with these parts to come
abbrev pub opened : Walked → ℕ → Part → Walked
opened w node part = record {
  types = w.types;
  limit = w.limit;
  frames =
      record { node = node; left = part } ∷ w.frames;
}

-- the innermost part, which is this node's and not the root's, had nothing left and is removed
pub record Closes (old new : Walked) (node : ℕ) : Type 0 where
  pub part : Part
  pub whole : first_of part ≡ None
  pub frames : old.frames ≡ record { node = node; left = part } ∷ new.frames
  pub not_root : new.frames ≢ []
  pub types : new.types ≡ old.types
  pub limit : new.limit ≡ old.limit

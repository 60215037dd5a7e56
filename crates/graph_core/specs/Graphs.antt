-- Types, and for each the list of the references to it.
use Rattle.std.specs.Prelude.{◌≡◌, ℕ, suc, ◌+◌, ◌<◌, ◌≤◌, ◌^◌, List, [], ◌∷◌, ◌++◌, length, map}
use Rattle.std.specs.Prelude.{reverse, slice_index, Option, Some, None}
use Rattle.types_core.specs.declared.definition.Arm.{Arm}
use Rattle.types_core.specs.declared.type_info.TypeInfo.{TypeInfo}
use Rattle.graph_core.specs.declared.graph.Graph.{Graph}
use Rattle.graph_core.specs.References.{AreKnown}
use Rattle.graph_core.specs.Counts.{times}
use Rattle.graph_core.specs.Cursors.{left, parts_left, arms_left}
use Rattle.graph_core.specs.Types.{field_types}

-- the references that were read, in order
abbrev pub refs : Graph → List ℕ
refs d = reverse d.looks.read.entries

-- the counter of each reference
abbrev pub numbers : Graph → List ℕ
numbers d = map (λ l. l.counter) d.links.items

-- for each reference, one more than the number of the one before it in its list, or 0 if it is the
-- first
abbrev pub befores : Graph → List ℕ
befores d = map (λ l. l.before) d.links.items

-- a is one more than the number of the last reference to type u among the first k, or 0 if there is
-- none
pub record IsLast (xs : List ℕ) (k u a : ℕ) : Type 0 where
  pub within : a ≤ k
  pub last : (e : ℕ) → e < k → slice_index xs e ≡ u → e < a
  pub found : (b : ℕ) → a ≡ suc b → slice_index xs b ≡ u

-- each list has the references to its type, the newest first
pub record IsLinked (d : Graph) : Type 0 where
  pub heads : length d.newest.items ≡ length d.registry
  pub links : length d.links.items ≡ length (refs d)
  pub small : length (refs d) < 2 ^ 32
  pub known : AreKnown (length d.registry) (refs d)
  pub newest : (u : ℕ) → u < length d.registry →
      IsLast (refs d) (length (refs d)) u (slice_index d.newest.items u)
  pub members : d.members.items ≡ refs d
  pub before : (e : ℕ) → e < length (refs d) →
      IsLast (refs d) e (slice_index (refs d) e) (slice_index (befores d) e)

-- between the two graphs, these references of the open definition were read, and nothing else was
-- looked at
pub record ReadsOn (a b : Graph) (tos : List ℕ) : Type 0 where
  pub types : b.registry ≡ a.registry
  pub place : b.cursor.types ≡ a.cursor.types
  pub left : left a ≡ tos ++ left b
  pub read : refs b ≡ refs a ++ tos
  pub opened : b.looks.opened.entries ≡ a.looks.opened.entries
  pub listed : b.looks.listed.entries ≡ a.looks.listed.entries

-- between the two graphs, these references were read and put into lists with these counters
pub record ReadsReferences (a b : Graph) (tos counters : List ℕ) : Type 0 where
  pub linked : IsLinked b
  pub on : ReadsOn a b tos
  pub counted : numbers b ≡ numbers a ++ counters

-- the next reference was read and put into its list with this counter
pub record ReadsNext (a b : Graph) (to counter : ℕ) : Type 0 where
  pub reads : ReadsReferences a b (to ∷ []) (counter ∷ [])
  pub parts : parts_left a ≡ to ∷ parts_left b
  pub arms : arms_left b ≡ arms_left a

-- the lists are the same
pub record KeepsLists (a b : Graph) : Type 0 where
  pub newest : b.newest.items ≡ a.newest.items
  pub links : b.links.items ≡ a.links.items
  pub members : b.members.items ≡ a.members.items

abbrev pub one_or_none : Option ℕ → List ℕ
one_or_none (Some u) = u ∷ []
one_or_none None = []

-- the next open reference was read, if one was left
pub record IsReadNext (a b : Graph) (to : Option ℕ) : Type 0 where
  pub on : ReadsOn a b (one_or_none to)
  pub parts : parts_left a ≡ one_or_none to ++ parts_left b
  pub ended : to ≡ None → parts_left b ≡ []
  pub arms : arms_left b ≡ arms_left a
  pub lists : KeepsLists a b

-- an arm with this index and so many fields was begun
pub record BeginsArm (a b : Graph) (index count : ℕ) : Type 0 where
  pub arm : Arm
  pub arms : arms_left a ≡ arm ∷ arms_left b
  pub index_is : index ≡ arm.index
  pub count_is : count ≡ length arm.fields
  pub parts : parts_left b ≡ field_types arm.fields
  pub on : ReadsOn a b []
  pub lists : KeepsLists a b

-- the next arm was begun, if one was left
abbrev pub IsArmNext : Graph → Graph → Option (ℕ × ℕ) → Type 0
IsArmNext a b None = (arms_left a ≡ []) × (arms_left b ≡ []) × (parts_left b ≡ []) × ReadsOn a b []
IsArmNext a b (Some x) = BeginsArm a b x.0 x.1

-- nothing of these types was read, and there are no lists yet
pub record IsUnread (r : List TypeInfo) (d : Graph) : Type 0 where
  pub types : d.registry ≡ r
  pub place : d.cursor.types ≡ 0
  pub links : d.links.items ≡ []
  pub members : d.members.items ≡ []
  pub opened : d.looks.opened.entries ≡ []
  pub read : d.looks.read.entries ≡ []
  pub listed : d.looks.listed.entries ≡ []

-- no reference of these types was read, and each type was looked at no more than once
pub record IsMeasured (r : List TypeInfo) (d : Graph) : Type 0 where
  pub types : d.registry ≡ r
  pub place : d.cursor.types ≡ 0
  pub opened : (t : ℕ) → times t d.looks.opened.entries ≤ 1
  pub read : d.looks.read.entries ≡ []
  pub listed : d.looks.listed.entries ≡ []

-- each of these types was looked at
abbrev pub AreSeen : List TypeInfo → Graph → Type 0
AreSeen r d = (t : ℕ) → t < length r → 1 ≤ times t d.looks.opened.entries

-- between the two graphs, nothing was looked at and nothing was opened
pub record Waits (a b : Graph) : Type 0 where
  pub types : b.registry ≡ a.registry
  pub cursor : b.cursor ≡ a.cursor
  pub opened : b.looks.opened.entries ≡ a.looks.opened.entries
  pub read : b.looks.read.entries ≡ a.looks.read.entries
  pub listed : b.looks.listed.entries ≡ a.looks.listed.entries

-- the lists are empty, and no reference was read
pub record IsNew (d : Graph) : Type 0 where
  pub linked : IsLinked d
  pub links : d.links.items ≡ []
  pub members : d.members.items ≡ []

-- the definition of type t was looked at once more, and is open from then on
pub record IsOpened (a b : Graph) (t : ℕ) : Type 0 where
  pub opened : b.looks.opened.entries ≡ t ∷ a.looks.opened.entries
  pub types : b.registry ≡ a.registry
  pub cursor : b.cursor ≡ record { types = t + 1; arms = 0; parts = 0 }
  pub lists : KeepsLists a b
  pub read : b.looks.read.entries ≡ a.looks.read.entries
  pub listed : b.looks.listed.entries ≡ a.looks.listed.entries

-- the definition of type t was looked at once more, without being opened
pub record IsGlanced (a b : Graph) (t : ℕ) : Type 0 where
  pub opened : b.looks.opened.entries ≡ t ∷ a.looks.opened.entries
  pub types : b.registry ≡ a.registry
  pub cursor : b.cursor ≡ a.cursor
  pub read : b.looks.read.entries ≡ a.looks.read.entries
  pub listed : b.looks.listed.entries ≡ a.looks.listed.entries

-- reference e was looked at once more in its list
pub record IsListed (a b : Graph) (e : ℕ) : Type 0 where
  pub listed : b.looks.listed.entries ≡ e ∷ a.looks.listed.entries
  pub types : b.registry ≡ a.registry
  pub lists : KeepsLists a b
  pub read : b.looks.read.entries ≡ a.looks.read.entries
  pub opened : b.looks.opened.entries ≡ a.looks.opened.entries

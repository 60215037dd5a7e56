-- What the calls on the names of metadata report.
use Rattle.std.specs.Prelude.{◌≡◌, ◌-◌, ℕ, ◌⊎◌, List, length, slice_get, Option, Some, None}
use Rattle.std.specs.Prelude.{Result, Ok, Err}
use Rattle.chain_core.specs.Names.{Entry, find}
use Rattle.scale_calls.specs.Opaque.{opaque_start}
use Rattle.scale_calls.specs.declared.refusal.ValueRefusal.{ValueRefusal}
use Rattle.scaleview_c.specs.Calls.{Leaves, Writes, names_in}
use Rattle.c_answers.specs.Codes.{plain, value_answer}
use Rattle.scaleview_c.specs.Types.{WritesName}
use Rattle.c_answers.specs.declared.answer.Answer.{Answer}
use Rattle.scaleview_c.specs.declared.resource.Resource.{Resource}
use Rattle.scaleview_c.specs.declared.resource.Resource.TheVariants as held

-- 1 if the metadata has bytes for a name, and how many they are
abbrev pub one_if : Option (List ℕ) → ℕ
one_if (Some b) = 1
one_if None = 0

abbrev pub has_bytes : Entry → ℕ
has_bytes e = one_if e.bytes

abbrev pub byte_count : Option (List ℕ) → ℕ
byte_count (Some b) = length b
byte_count None = 0

-- the type of a name, and the number of its bytes; or the answer says that there is no such name
abbrev pub entry_answer : Option Entry → Answer
entry_answer (Some e) =
    record { code = 0; from = e.id; at = has_bytes e; length = byte_count e.bytes }
entry_answer None = plain 204

abbrev pub ReportsName : Option Resource → List ℕ → Answer → Type 0
ReportsName (Some (held.Registry o)) name a = a ≡ entry_answer (find (names_in o) name)
ReportsName (Some (held.Session s)) name a = a ≡ plain 5
ReportsName None name a = a ≡ plain 5

-- a name is written, with the numbers of its type, unless an allocation failed
abbrev pub WritesEntry : Entry → List ℕ → List ℕ → Answer → Type 0
WritesEntry e old new a = Leaves old new (plain 3) a
    ⊎ WritesName e.name e.id (has_bytes e) old new a

-- one of the names is written; or the answer says that there are no more
abbrev pub WritesNameAt : Option Resource → List ℕ → List ℕ → Answer → Type 0
WritesNameAt (Some (held.Registry o)) old new a = Leaves old new (plain 204) a
    ⊎ ((i : ℕ) × (e : Entry) × (slice_get (names_in o) i ≡ Some e) × WritesEntry e old new a)
WritesNameAt (Some (held.Session s)) old new a = Leaves old new (plain 5) a
WritesNameAt None old new a = Leaves old new (plain 5) a

-- the bytes of a name are written; or the answer says that it has none, or that there is no such
-- name
abbrev pub WritesOwn : Option (List ℕ) → List ℕ → List ℕ → Answer → Type 0
WritesOwn (Some b) old new a = Writes b old new a
WritesOwn None old new a = Leaves old new (plain 205) a

abbrev pub WritesSome : Option Entry → List ℕ → List ℕ → Answer → Type 0
WritesSome (Some e) old new a = WritesOwn e.bytes old new a
WritesSome None old new a = Leaves old new (plain 204) a

abbrev pub WritesBytes : Option Resource → List ℕ → List ℕ → List ℕ → Answer → Type 0
WritesBytes (Some (held.Registry o)) name old new a =
    WritesSome (find (names_in o) name) old new a
WritesBytes (Some (held.Session s)) name old new a = Leaves old new (plain 5) a
WritesBytes None name old new a = Leaves old new (plain 5) a

-- where an opaque value begins and how many bytes it has; or why its length is rejected
abbrev pub start_answer : List ℕ → Result ℕ ValueRefusal → Answer
start_answer b (Ok start) = record { code = 0; from = 0; at = start; length = length b - start }
start_answer b (Err e) = value_answer e

abbrev pub opaque_answer : List ℕ → Answer
opaque_answer b = start_answer b (opaque_start b)

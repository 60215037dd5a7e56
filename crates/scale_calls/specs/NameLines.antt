-- The lines that show the names of metadata.
use Rattle.std.specs.Prelude.{◌≡◌, ℕ, List, [], ◌∷◌, ◌++◌, Bool, decimal, flat_map, nat_lt}
use Rattle.std.specs.Prelude.{if◌then◌else◌, slice_get, Some}
use Rattle.std.specs.List.{AllByRecursion, list_any}
use Rattle.serde_json.specs.Data.{string}
use Rattle.serde_json.specs.Written.{compact_text}
use Rattle.chain_core.specs.Names.{Entry}

abbrev pub is_control : ℕ → Bool
is_control b = nat_lt b 32

-- a name as it stands, or as a JSON text if it has a control character
abbrev pub shown_name : List ℕ → List ℕ
shown_name name = if list_any is_control name then compact_text (string name) else name

-- the line of a name: the name and the position of its type
abbrev pub name_line : Entry → List ℕ
name_line e = shown_name e.name ++ 32 ∷ (decimal e.id ++ 10 ∷ [])

abbrev pub IsOneOf : List Entry → Entry → Type 0
IsOneOf names e = (i : ℕ) × (slice_get names i ≡ Some e)

-- lines of some of these names
abbrev pub AreLines : List Entry → List ℕ → Type 0
AreLines names text = (es : List Entry) × AllByRecursion (IsOneOf names) es
    × (text ≡ flat_map name_line es)

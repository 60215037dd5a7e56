-- How the values of fields are shown: the order of their names' bytes.
use Rattle.std.specs.Prelude.{◌≡◌, ℕ, suc, List, [], ◌∷◌, length, map, Bool, if◌then◌else◌}
use Rattle.std.specs.Prelude.{Option, Some, None, option_map, option_and_then, is_some}
use Rattle.std.specs.Borrow.{Bor}
use Rattle.std.specs.List.{range_with_len}
use Rattle.std.specs.Ordering.{nat_cmp}
use Rattle.std.specs.Cmp.Lexicographic.{slice_cmp}
use Rattle.std.specs.Map.{lookup}
use Rattle.std.specs.BTreeMap.{insert_entry, is_at}
use Rattle.types_core.specs.declared.definition.Field.{Field}
use Rattle.types_core.specs.declared.keys.Keys.{Keys}
use Rattle.types_core.specs.declared.keys.Keys.TheVariants as keys

-- is the name one of these?
abbrev pub is_there : List ℕ → List (List ℕ × ℕ) → Bool
is_there n es = is_some (lookup (is_at (slice_cmp nat_cmp n)) es)

-- entries whose names are lent
abbrev pub lent_entries : List (Bor (List ℕ) × ℕ) → List (List ℕ × ℕ)
lent_entries es = map (λ e. (e.0.now, e.1)) es

-- these names, with those of the fields from position i on, if each has one that is new
abbrev pub order_from : List Field → ℕ → List (List ℕ × ℕ) → Option (List (List ℕ × ℕ))
order_from [] i es = Some es
order_from (f ∷ fs) i es = option_and_then (λ n.
    if is_there n es then None
    else order_from fs (suc i) (insert_entry (slice_cmp nat_cmp) es n i)) f.name

-- the names with their positions in the order of their bytes, if there is a field, each has a name
-- and all differ
abbrev pub name_order : List Field → Option (List (List ℕ × ℕ))
name_order [] = None
name_order (f ∷ fs) = order_from (f ∷ fs) 0 []

-- the positions alone
abbrev pub positions_of : List (List ℕ × ℕ) → List ℕ
positions_of es = map (λ e. e.1) es

-- the positions of the fields in the order of their names' bytes, if they are shown by name
abbrev pub key_order : List Field → Option (List ℕ)
key_order fs = option_map positions_of (name_order fs)

-- so are the values of the fields shown
abbrev pub AreKeys : List Field → Keys → Type 0
AreKeys fs keys.Unnamed = key_order fs ≡ None
AreKeys fs keys.InOrder = key_order fs ≡ Some (range_with_len 0 (length fs))
AreKeys fs (keys.Sorted order) = key_order fs ≡ Some order.items

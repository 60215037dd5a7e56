-- The parts of storage keys (Substrate, `StorageHasher`).
use Rattle.std.specs.Prelude.{ℕ, ◌==◌, Bool, false, List, [], ◌∷◌, flat_map, length, Option}
use Rattle.std.specs.Prelude.{Some, None, slice_get}
use Rattle.std.specs.Prelude.{option_and_then, option_map, if◌then◌else◌}
use Rattle.types_core.specs.declared.definition.TypeDef.{TypeDef}
use Rattle.types_core.specs.declared.definition.TypeDef.TheVariants as def
use Rattle.types_core.specs.declared.type_id.TypeId.{TypeId}
use Rattle.types_core.specs.declared.type_info.TypeInfo.{TypeInfo}
use Rattle.grammar_core.specs.Tree.{Tree, branch, arm}
use Rattle.node_core.specs.Shown.{Seen, children_of}
use Rattle.chain_core.specs.Parts.{child, reference_at}
use Rattle.chain_core.specs.declared.keys.HashLength.{HashLength}
use Rattle.chain_core.specs.declared.keys.HashLength.TheVariants.{Bytes8, Bytes16, Bytes32}
use Rattle.chain_core.specs.declared.keys.KeyPart.{KeyPart}

abbrev pub part_with : Option HashLength → Option ℕ → KeyPart
part_with hash key = record { hash = hash; key = key }

-- the part that a hasher makes of a key of this type
abbrev pub key_part : ℕ → ℕ → KeyPart
key_part h k = if h == 0 then part_with (Some Bytes16) None
    else (if h == 1 then part_with (Some Bytes32) None
    else (if h == 2 then part_with (Some Bytes16) (Some k)
    else (if h == 3 then part_with (Some Bytes16) None
    else (if h == 4 then part_with (Some Bytes32) None
    else (if h == 5 then part_with (Some Bytes8) (Some k) else part_with None (Some k))))))

-- the position of the arm, if the value is one
abbrev pub arm_at : Tree → List ℕ
arm_at (branch (arm q) vs) = q ∷ []
arm_at _ = []

-- the positions of these hashers
abbrev pub hashers_in : List Seen → List ℕ
hashers_in ss = flat_map (λ s. arm_at s.tree) ss

-- the parts that hashers make of keys
abbrev pub parts_by : List ℕ → List TypeId → List KeyPart
parts_by [] ks = []
parts_by (h ∷ hs) [] = []
parts_by (h ∷ hs) (k ∷ ks) = key_part h k.0 ∷ parts_by hs ks

-- the members of a tuple, if there are n
abbrev pub members_by : ℕ → TypeDef → Option (List TypeId)
members_by n (def.Tuple ts) = if length ts == n then Some ts else None
members_by n _ = None

abbrev pub members_of : List TypeInfo → ℕ → ℕ → Option (List TypeId)
members_of own id n = option_and_then (λ t. members_by n t.shape) (slice_get own id)

-- the parts of the keys of a map
abbrev pub map_parts : List TypeInfo → List ℕ → ℕ → Option (List KeyPart)
map_parts own hs key = if length hs == 1 then Some (parts_by hs (record { 0 = key } ∷ []))
    else option_map (parts_by hs) (members_of own key (length hs))

abbrev pub is_arm : ℕ → Tree → Bool
is_arm n (branch (arm q) vs) = q == n
is_arm n _ = false

-- the map, if the type of an entry is one
abbrev pub map_of : Seen → Option Seen
map_of s = if is_arm 1 s.tree then child 0 s else None

-- the parts of the keys of a map, by its hashers and its key
abbrev pub parts_of_map : List TypeInfo → Seen → Option (List KeyPart)
parts_of_map own m = option_and_then (λ list. option_and_then
    (λ key. map_parts own (hashers_in (children_of list)) key) (reference_at 1 m)) (child 0 m)

-- what follows the hashes of the pallet and the entry, by the type of the entry: nothing if it is
-- of one value
abbrev pub key_parts : List TypeInfo → Seen → Option (List KeyPart)
key_parts own ty = elim (map_of ty) [ Some m ↦ parts_of_map own m | None ↦ Some [] ]

-- the type of the values of an entry, by the type of the entry
abbrev pub entry_value : Seen → Option ℕ
entry_value ty = elim (map_of ty) [ Some m ↦ reference_at 2 m | None ↦ reference_at 0 ty ]

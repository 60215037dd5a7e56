-- The names of metadata with their types, and the first thing of a name.
use Rattle.std.specs.Prelude.{ℕ, ◌+◌, List, [], ◌∷◌, map, Option, Some, None, if◌then◌else◌}
use Rattle.std.specs.Prelude.{option_map}
use Rattle.std.specs.Str.{bytes_eq}
use Rattle.chain_core.specs.Things.{Named, Stands, name_text, own, extrinsic, key, params}
use Rattle.chain_core.specs.declared.names.NamedType.{NamedType}
use Rattle.chain_core.specs.declared.names.Names.{Names}

-- a name, the position of its type, and the bytes that the metadata has for it
pub record Entry : Type 0 where
  pub name : List ℕ
  pub id : ℕ
  pub bytes : Option (List ℕ)

-- the position of a thing's type, and the next one that is free for a synthetic type
abbrev pub place : Stands → ℕ → ℕ × ℕ
place (own id) free = (id, free)
place (extrinsic types) free = (free, free + 1)
place (key parts) free = (free, free + 1)
place (params inputs) free = (free, free + 1)

-- the things with the positions of their types; the first synthetic type stands at `free`
abbrev pub placed : List Named → ℕ → List Entry
placed [] free = []
placed (t ∷ ts) free = record { name = t.name; id = (place t.stands free).0; bytes = t.bytes }
    ∷ placed ts (place t.stands free).1

-- the first that has the name
abbrev pub find : List Entry → List ℕ → Option Entry
find [] name = None
find (e ∷ es) name = if bytes_eq name e.name then Some e else find es name

abbrev pub entry_of : NamedType → Entry
entry_of t = record {
  name = name_text t.section t.path;
  id = t.id;
  bytes = option_map (λ v. v.items) t.bytes;
}

abbrev pub types_of : List NamedType → List Entry
types_of ts = map entry_of ts

abbrev pub entries_of : Names → List Entry
entries_of names = types_of names.types.items

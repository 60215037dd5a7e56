-- All things that metadata names, in order.
use Rattle.std.specs.Prelude.{ℕ, List, [], ◌∷◌, ◌++◌, codes, flat_map, Option, Some, None}
use Rattle.std.specs.Prelude.{option_and_then, if◌then◌else◌}
use Rattle.types_core.specs.declared.type_info.TypeInfo.{TypeInfo}
use Rattle.registry_core.specs.declared.version.Version.{Version}
use Rattle.node_core.specs.Shown.{Seen, children_of}
use Rattle.chain_core.specs.Extrinsics.{call_type, extrinsic_types, part_at}
use Rattle.chain_core.specs.Keys.{entry_value, is_arm, key_parts}
use Rattle.chain_core.specs.Parts.{bytes_at, child, inner, inner_reference, reference_at, text_at}
use Rattle.chain_core.specs.Things.{Named, Stands, dotted, extrinsic, key, own, params}
use Rattle.chain_core.specs.declared.extrinsics.ExtrinsicTypes.{ExtrinsicTypes}
use Rattle.chain_core.specs.declared.keys.KeyPart.{KeyPart}

-- a thing, if it is known what its name stands for
abbrev pub thing_if : List ℕ → Option Stands → Option (List ℕ) → List Named
thing_if name (Some s) bytes = record { name = name; stands = s; bytes = bytes } ∷ []
thing_if name None bytes = []

abbrev pub own_if : Option ℕ → Option Stands
own_if (Some id) = Some (own id)
own_if None = None

-- a thing of a type of the registry
abbrev pub own_thing : List ℕ → Option ℕ → Option (List ℕ) → List Named
own_thing name id bytes = thing_if name (own_if id) bytes

abbrev pub extrinsic_thing : Option ExtrinsicTypes → List Named
extrinsic_thing (Some types) = thing_if (codes "extrinsic") (Some (extrinsic types)) None
extrinsic_thing None = []

-- extrinsics, and the enums of all calls, events and errors
abbrev pub outer_things : Version → List TypeInfo → Seen → List Named
outer_things v types rest = extrinsic_thing (extrinsic_types v types rest)
    ++ own_thing (codes "call") (call_type v types rest) None
    ++ own_thing (codes "event") (part_at 4 1 rest) None
    ++ own_thing (codes "error") (part_at 4 2 rest) None

-- the children of a part that may be missing
abbrev pub children_in : Option Seen → List Seen
children_in (Some s) = children_of s
children_in None = []

-- the bytes of a storage entry's default value, if absent entries have it
abbrev pub default_if : Seen → Option Seen → Option (List ℕ)
default_if entry (Some modifier) = if is_arm 1 modifier.tree then bytes_at 3 entry else None
default_if entry None = None

abbrev pub key_thing : List ℕ → Option (List KeyPart) → List Named
key_thing path (Some parts) = thing_if (codes "key:" ++ path) (Some (key parts)) None
key_thing path None = []

-- a storage entry of this type, and its keys
abbrev pub entry_of : List TypeInfo → List ℕ → Seen → Option Seen → List Named
entry_of types pallet entry (Some ty) = let path = dotted pallet (text_at 0 entry) in
    own_thing (codes "storage:" ++ path) (entry_value ty) (default_if entry (child 1 entry))
    ++ key_thing path (key_parts types ty)
entry_of types pallet entry None = []

abbrev pub entry_things : List TypeInfo → List ℕ → Seen → List Named
entry_things types pallet entry = entry_of types pallet entry (child 2 entry)

abbrev pub constant_thing : List ℕ → Seen → List Named
constant_thing pallet c = own_thing (codes "constant:" ++ dotted pallet (text_at 0 c))
    (reference_at 1 c) (bytes_at 2 c)

-- the enums of a pallet, its storage entries, and its constants
abbrev pub pallet_things : List TypeInfo → Seen → List Named
pallet_things types p = let name = text_at 0 p in
    own_thing (codes "calls:" ++ name) (inner_reference 2 p) None
    ++ own_thing (codes "events:" ++ name) (inner_reference 3 p) None
    ++ own_thing (codes "errors:" ++ name) (inner_reference 5 p) None
    ++ flat_map (entry_things types name) (children_in (option_and_then (child 1) (inner 1 p)))
    ++ flat_map (constant_thing name) (children_in (child 4 p))

abbrev pub params_thing : List ℕ → Option Seen → List Named
params_thing path (Some inputs) = thing_if (codes "params:" ++ path) (Some (params inputs)) None
params_thing path None = []

-- the result and the parameters of a method
abbrev pub method_things : List ℕ → Seen → List Named
method_things api m = let path = dotted api (text_at 0 m) in
    own_thing (codes "result:" ++ path) (reference_at 2 m) None ++ params_thing path (child 1 m)

abbrev pub api_things : Seen → List Named
api_things api = flat_map (method_things (text_at 0 api)) (children_in (child 1 api))

abbrev pub custom_thing : Seen → List Named
custom_thing c = own_thing (codes "custom:" ++ text_at 0 c) (reference_at 1 c) (bytes_at 2 c)

-- all, by what follows the registry and by the types of the registry
abbrev pub things : Version → List TypeInfo → Seen → List Named
things v types rest = outer_things v types rest
    ++ flat_map (pallet_things types) (children_in (child 0 rest))
    ++ flat_map api_things (children_in (child 3 rest))
    ++ flat_map custom_thing (children_in (child 5 rest))

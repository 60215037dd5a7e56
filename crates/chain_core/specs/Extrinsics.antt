-- The types that an extrinsic is made of.
use Rattle.std.specs.Prelude.{ℕ, List, [], ◌∷◌, length, Option, Some, None, codes, nat_lt}
use Rattle.std.specs.Prelude.{slice_get}
use Rattle.std.specs.Prelude.{option_and_then, if◌then◌else◌}
use Rattle.std.specs.Str.{bytes_eq}
use Rattle.types_core.specs.declared.type_info.Param.{Param}
use Rattle.types_core.specs.declared.type_info.TypeInfo.{TypeInfo}
use Rattle.registry_core.specs.declared.version.Version.{Version}
use Rattle.registry_core.specs.declared.version.Version.TheVariants as version
use Rattle.node_core.specs.Shown.{Seen}
use Rattle.chain_core.specs.Parts.{child, reference_at}
use Rattle.chain_core.specs.declared.extrinsics.ExtrinsicTypes.{ExtrinsicTypes}

-- a position among n types
abbrev pub known : ℕ → ℕ → Option ℕ
known n t = if nat_lt t n then Some t else None

-- the type of the first of these parameters that has the name, if it is a position among n types
abbrev pub parameter_in : ℕ → List Param → List ℕ → Option ℕ
parameter_in n [] name = None
parameter_in n (p ∷ ps) name =
    if bytes_eq p.name name then option_and_then (λ t. known n t.0) p.ty
    else parameter_in n ps name

-- the type of the first parameter of a type that has the name
abbrev pub parameter : List TypeInfo → ℕ → List ℕ → Option ℕ
parameter own id name =
    option_and_then (λ t. parameter_in (length own) t.params name) (slice_get own id)

-- what `rest` has at a place, in a part
abbrev pub part_at : ℕ → ℕ → Seen → Option ℕ
part_at k j rest = option_and_then (reference_at j) (child k rest)

-- the type of a parameter of the type of extrinsics
abbrev pub extrinsic_parameter : List TypeInfo → Seen → List ℕ → Option ℕ
extrinsic_parameter own rest name =
    option_and_then (λ id. parameter own id name) (part_at 1 0 rest)

-- the type of calls: the extrinsic's parameter, or the first of the outer enums
abbrev pub call_type : Version → List TypeInfo → Seen → Option ℕ
call_type version.V14 own rest = extrinsic_parameter own rest (codes "Call")
call_type version.V15 own rest = part_at 4 0 rest

-- the four types, if all are there
abbrev pub four : Option ℕ → Option ℕ → Option ℕ → Option ℕ → Option ExtrinsicTypes
four (Some a) (Some c) (Some s) (Some e) =
    Some (record { address = a; call = c; signature = s; extra = e })
four _ _ _ _ = None

-- the types of an extrinsic: parameters of its type, or stated
abbrev pub extrinsic_types : Version → List TypeInfo → Seen → Option ExtrinsicTypes
extrinsic_types version.V14 own rest = four (extrinsic_parameter own rest (codes "Address"))
    (extrinsic_parameter own rest (codes "Call"))
    (extrinsic_parameter own rest (codes "Signature"))
    (extrinsic_parameter own rest (codes "Extra"))
extrinsic_types version.V15 own rest =
    four (part_at 1 1 rest) (part_at 1 2 rest) (part_at 1 3 rest) (part_at 1 4 rest)

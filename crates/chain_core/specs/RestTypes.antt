-- The types of what follows the registry in metadata.
use Rattle.std.specs.Prelude.{List, [], Ok, Err}
use Rattle.scale_core.specs.Read.{Read}
use Rattle.types_core.specs.declared.type_id.TypeId.{TypeId}
use Rattle.types_core.specs.declared.type_info.TypeInfo.{TypeInfo}
use Rattle.registry_core.specs.Reading.{registry_at}
use Rattle.registry_core.specs.declared.version.Version.{Version}
use Rattle.registry_core.specs.declared.version.Version.TheVariants as version
use Rattle.chain_core.specs.declared.rest.TheConstants.{REST_TYPES}

-- what is read, or nothing
abbrev pub types_read : {E : Type 0} → Read E (List TypeInfo) → List TypeInfo
types_read (Ok x) = x.0
types_read (Err e) = []

unfoldable pub rest_types : List TypeInfo
rest_types = types_read (registry_at REST_TYPES)

-- the type of all that follows the registry
abbrev pub rest_root : Version → TypeId
rest_root version.V14 = record { 0 = 35 }
rest_root version.V15 = record { 0 = 36 }

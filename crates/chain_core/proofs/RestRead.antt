-- The types of the rest are a registry of 37 types, which refer to these alone.
use Rattle.std.proofs.Common.{◌≡◌, List, length, None, Ok, Err, refl}
use Rattle.std.specs.Prelude.{IsOk}
use Rattle.std.specs.Str.{is_utf8, chars}
use Rattle.scale_core.specs.Compact.{compact}
use Rattle.scale_core.specs.Read.{compact_at, text_at}
use Rattle.registry_core.specs.Reading.{registry_at, type_info_at, texts_at, params_at}
use Rattle.registry_core.specs.Reading.{definition_at, arms_read_at, arm_read_at, fields_at}
use Rattle.registry_core.specs.Reading.{field_at, type_ids_at}
use Rattle.graph_core.specs.References.{first_fault}
use Rattle.chain_core.specs.declared.rest.TheConstants.{REST_TYPES}
use Rattle.chain_core.specs.RestTypes.{rest_types}

-- what is found by reading them
rest_facts : IsOk (registry_at REST_TYPES) × (length rest_types ≡ 37)
    × (first_fault rest_types ≡ None)
unfolding rest_types registry_at compact_at compact type_info_at texts_at params_at definition_at
    arms_read_at arm_read_at text_at is_utf8 chars fields_at field_at type_ids_at
rest_facts = (refl, refl, refl)

-- they are read
pub rest_read : IsOk (registry_at REST_TYPES)
rest_read = rest_facts.0

-- they are 37
pub rest_count : length rest_types ≡ 37
rest_count = rest_facts.1

-- each reference is a position
pub rest_known : first_fault rest_types ≡ None
rest_known = rest_facts.2

-- The worked registries, by computing.
use Rattle.std.proofs.Common.{refl}
use Rattle.std.specs.Str.{is_utf8, chars}
use Rattle.std.specs.Str.Lossy.{utf8_valid_len}
use Rattle.scale_core.specs.Compact.{compact}
use Rattle.scale_core.specs.Read.{compact_at, text_at}
use Rattle.registry_core.specs.Reading.{registry_at, metadata_at, prefix_at, type_info_at}
use Rattle.registry_core.specs.Reading.{params_at, param_at, definition_at, fields_at, field_at}
use Rattle.registry_core.specs.Reading.{arms_read_at, arm_read_at, type_ids_at, array_at}
use Rattle.registry_core.specs.Reading.{bit_sequence_at, texts_at}
use Rattle.registry_core.specs.Spelling.{spelling}
use Rattle.registry_core.specs.Examples.{FaultRows, MetadataRows, ReadRows}

-- those that are read
pub read_rows : ReadRows
unfolding registry_at type_info_at params_at param_at definition_at fields_at field_at arms_read_at
    arm_read_at type_ids_at array_at bit_sequence_at texts_at text_at compact_at compact is_utf8
    chars utf8_valid_len lib.Utf8.encode spelling
read_rows = record {
  byte_is_read = refl;
  option_is_spelled_again = refl;
  nested_are_short = refl;
  nested_are_spelled_again = refl;
}

-- those that are refused
pub fault_rows : FaultRows
unfolding registry_at type_info_at params_at param_at definition_at fields_at field_at arms_read_at
    arm_read_at type_ids_at array_at bit_sequence_at texts_at text_at compact_at compact is_utf8
    chars utf8_valid_len lib.Utf8.encode
fault_rows = record {
  id_is_refused_at_its_first_byte = refl;
  claimed_types_are_missing = refl;
  text_is_no_utf8 = refl;
  length_claims_too_many_bytes = refl;
}

-- those after the prefix of metadata
pub metadata_rows : MetadataRows
unfolding metadata_at prefix_at registry_at type_info_at params_at definition_at texts_at compact_at
    compact
metadata_rows = record {
  fourteen_is_read = refl;
  fifteen_is_read = refl;
  other_letter_is_refused = refl;
  thirteen_is_refused = refl;
  sixteen_is_refused = refl;
}

-- The worked rows, by computing.
use Rattle.std.proofs.Common.{refl}
use Rattle.std.specs.Str.{is_utf8, chars}
use Rattle.std.specs.Str.Lossy.{utf8_valid_len}
use Rattle.scale_core.specs.Compact.{compact}
use Rattle.scale_core.specs.Read.{compact_at, text_at}
use Rattle.scale_core.specs.Examples.{CompactRows, SpellingRows, TextRows}

-- spellings of numbers
pub spelling_rows : SpellingRows
unfolding compact
spelling_rows = record {
  zero_is_spelled = refl;
  sixty_nine_is_spelled = refl;
  largest_of_four_bytes_is_spelled = refl;
  least_after_a_count_is_spelled = refl;
  hundred_trillion_is_spelled = refl;
}

-- readings of compact integers
pub compact_rows : CompactRows
unfolding compact_at compact
compact_rows = record {
  unit_takes_nothing = refl;
  largest_is_read = refl;
  longer_form_is_refused = refl;
  longer_form_comes_before_too_large = refl;
  too_many_bytes_are_refused_at_once = refl;
  past_the_target_is_refused = refl;
  too_many_bytes_are_refused_whatever_follows = refl;
  missing_bytes_are_refused_at_the_end = refl;
}

-- readings of texts
pub text_rows : TextRows
unfolding text_at compact_at compact is_utf8 chars lib.Utf8.encode utf8_valid_len
text_rows = record {
  text_is_read = refl;
  text_is_refused_past_its_valid_front = refl;
}

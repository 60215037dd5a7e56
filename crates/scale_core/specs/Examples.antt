-- Worked examples: what the definitions give for bytes that are known from elsewhere.
use Rattle.std.specs.Prelude.{◌≡◌, [], ◌∷◌, Ok, Err}
use Rattle.scale_core.specs.Compact.{compact}
use Rattle.scale_core.specs.Read.{compact_at, text_at}
use Rattle.scale_core.specs.declared.compact.Target.TheVariants.{Unit as TUnit, U8, U32, U64, U128}
use Rattle.scale_core.specs.declared.fault.Reason.TheVariants.{Truncated, BadUtf8}
use Rattle.scale_core.specs.declared.fault.Reason.TheVariants.{CompactNotShortest, CompactTooLarge}

-- spellings of numbers
pub record SpellingRows : Type 0 where
  pub zero_is_spelled : compact 0 ≡ 0x00 ∷ []
  pub sixty_nine_is_spelled : compact 69 ≡ 0x15 ∷ 0x01 ∷ []
  pub largest_of_four_bytes_is_spelled : compact 1073741823 ≡ 0xfe ∷ 0xff ∷ 0xff ∷ 0xff ∷ []
  pub least_after_a_count_is_spelled : compact 1073741824 ≡ 0x03 ∷ 0x00 ∷ 0x00 ∷ 0x00 ∷ 0x40 ∷ []
  pub hundred_trillion_is_spelled : compact 100000000000000
      ≡ 0x0b ∷ 0x00 ∷ 0x40 ∷ 0x7a ∷ 0x10 ∷ 0xf3 ∷ 0x5a ∷ []

-- readings of compact integers
pub record CompactRows : Type 0 where
  pub unit_takes_nothing : compact_at TUnit (0xff ∷ []) ≡ Ok (0, 0xff ∷ [])
  pub largest_is_read : compact_at U128
      (0x33 ∷ 0xff ∷ 0xff ∷ 0xff ∷ 0xff ∷ 0xff ∷ 0xff ∷ 0xff ∷ 0xff ∷ 0xff ∷ 0xff ∷ 0xff ∷ 0xff ∷
      0xff ∷ 0xff ∷ 0xff ∷ 0xff ∷ []) ≡ Ok (340282366920938463463374607431768211455, [])
  pub longer_form_is_refused : compact_at U32 (0xfd ∷ 0x00 ∷ [])
      ≡ Err (CompactNotShortest, 0xfd ∷ 0x00 ∷ [])
  pub longer_form_comes_before_too_large : compact_at U8 (0x02 ∷ 0x10 ∷ 0x00 ∷ 0x00 ∷ [])
      ≡ Err (CompactNotShortest, 0x02 ∷ 0x10 ∷ 0x00 ∷ 0x00 ∷ [])
  pub too_many_bytes_are_refused_at_once : compact_at U32 (0x07 ∷ [])
      ≡ Err (CompactTooLarge, 0x07 ∷ [])
  pub past_the_target_is_refused : compact_at U8 (0x01 ∷ 0x04 ∷ [])
      ≡ Err (CompactTooLarge, 0x01 ∷ 0x04 ∷ [])
  pub too_many_bytes_are_refused_whatever_follows : compact_at U32
      (0x07 ∷ 0x00 ∷ 0x00 ∷ 0x00 ∷ 0x00 ∷ 0x00 ∷ [])
      ≡ Err (CompactTooLarge, 0x07 ∷ 0x00 ∷ 0x00 ∷ 0x00 ∷ 0x00 ∷ 0x00 ∷ [])
  pub missing_bytes_are_refused_at_the_end : compact_at U64 (0x07 ∷ 0x00 ∷ 0x00 ∷ 0x00 ∷ 0x40 ∷ [])
      ≡ Err (Truncated, [])

-- readings of texts
pub record TextRows : Type 0 where
  pub text_is_read : text_at (0x08 ∷ 0xc3 ∷ 0xa9 ∷ 0x07 ∷ []) ≡ Ok (0xc3 ∷ 0xa9 ∷ [], 0x07 ∷ [])
  pub text_is_refused_past_its_valid_front : text_at (0x0c ∷ 0x61 ∷ 0xc3 ∷ 0x28 ∷ [])
      ≡ Err (BadUtf8, 0xc3 ∷ 0x28 ∷ [])

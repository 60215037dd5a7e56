-- Texts (SCALE codec specification, "Strings"): the number of bytes as a compact u32, and that many
-- bytes of UTF-8.
use Rattle.std.specs.Prelude.{◌≡◌, List, ◌++◌, length, ℕ, true}
use Rattle.std.specs.Str.{is_utf8}
use Rattle.scale_core.specs.Compact.{IsCompact}
use Rattle.scale_core.specs.declared.compact.Target.TheVariants.{U32}

-- the bytes are the one spelling of the text s
abbrev pub IsText : List ℕ → List ℕ → Type 0
IsText s bytes = (c : List ℕ) × IsCompact U32 (length s) c × (is_utf8 s ≡ true) × (bytes ≡ c ++ s)

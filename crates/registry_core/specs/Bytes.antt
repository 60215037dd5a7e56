-- The bytes before a registry in metadata.
use Rattle.std.specs.Prelude.{ℕ, List, [], ◌∷◌, Option, Some, None, ◌==◌, if◌then◌else◌}
use Rattle.registry_core.specs.declared.version.Version.{Version}
use Rattle.registry_core.specs.declared.version.Version.TheVariants.{V14, V15}

-- the letters `meta`
abbrev pub magic : List ℕ
magic = 0x6d ∷ 0x65 ∷ 0x74 ∷ 0x61 ∷ []

-- the byte of a version of metadata, which is the version's number
abbrev pub version_byte : Version → ℕ
version_byte V14 = 14
version_byte V15 = 15

-- the version that a byte stands for; `None` unless it is 14 or 15
abbrev pub version_of : ℕ → Option Version
version_of b = if b == 14 then Some V14 else if b == 15 then Some V15 else None

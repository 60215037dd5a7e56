-- Compact integers (SCALE codec specification, "Compact/general integers"): from the number to its
-- one spelling.
use Rattle.std.specs.Prelude.{◌≡◌, ℕ, zero, suc, ◌+◌, ◌-◌, ◌*◌, ◌^◌, ◌<◌, max, List, [], ◌∷◌}
use Rattle.std.specs.Prelude.{nat_lt, if◌then◌else◌}
use Rattle.scale_core.specs.Number.{le_bytes}
use Rattle.scale_core.specs.declared.compact.Target.{Target}
use Rattle.scale_core.specs.declared.compact.Target.TheVariants.{Unit as TUnit, U8, U16, U32, U64}
use Rattle.scale_core.specs.declared.compact.Target.TheVariants.{U128}

-- how many bytes a target has
abbrev pub target_bytes : Target → ℕ
target_bytes TUnit = 0
target_bytes U8 = 1
target_bytes U16 = 2
target_bytes U32 = 4
target_bytes U64 = 8
target_bytes U128 = 16

-- the least number of bytes that hold n, up to k
abbrev pub bytes_needed : ℕ → ℕ → ℕ
bytes_needed zero n = 0
bytes_needed (suc k) n = if nat_lt n (256 ^ k) then bytes_needed k n else suc k

-- the number of bytes after the first one in big-integer mode
abbrev pub big_bytes : ℕ → ℕ
big_bytes n = max 4 (bytes_needed 16 n)

-- the one spelling of n, for n below 2 ^ 128
unfoldable pub compact : ℕ → List ℕ
compact n =
    if nat_lt n 64 then 4 * n ∷ []
    else if nat_lt n (2 ^ 14) then le_bytes 2 (4 * n + 1)
    else if nat_lt n (2 ^ 30) then le_bytes 4 (4 * n + 2)
    else (4 * (big_bytes n - 4) + 3) ∷ le_bytes (big_bytes n) n

-- x fits the target, and the bytes are its one spelling
abbrev pub IsCompact : Target → ℕ → List ℕ → Type 0
IsCompact TUnit x bytes = (x ≡ 0) × (bytes ≡ [])
IsCompact m x bytes = (x < 256 ^ target_bytes m) × (bytes ≡ compact x)

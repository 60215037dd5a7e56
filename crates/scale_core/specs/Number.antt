-- Fixed-width integers, booleans and characters (SCALE codec specification): what their bytes
-- spell, and their bytes.
use Rattle.std.specs.Prelude.{ℕ, zero, suc, ◌+◌, ◌-◌, ◌*◌, ◌/◌, ◌%◌, ◌^◌, ◌<◌, List, [], ◌∷◌}
use Rattle.std.specs.Prelude.{length, ℤ, pos, negsuc, neg_ℤ, Bool, ◌||◌, ◌&&◌, nat_lt}
use Rattle.std.specs.Prelude.{if◌then◌else◌}

-- each number is a byte: it is below 256
abbrev pub AreBytes : List ℕ → Type 0
AreBytes [] = Unit {0}
AreBytes (b ∷ bs) = (b < 256) × AreBytes bs

-- the number that the bytes spell, lowest byte first
abbrev pub number : List ℕ → ℕ
number [] = 0
number (b ∷ bs) = b + 256 * number bs

-- n in k bytes, lowest byte first
abbrev pub le_bytes : ℕ → ℕ → List ℕ
le_bytes zero n = []
le_bytes (suc k) n = n % 256 ∷ le_bytes k (n / 256)

-- the integer that the bytes spell in two's complement
abbrev pub signed_number : List ℕ → ℤ
signed_number bs = let n = number bs in let range = 256 ^ length bs in
    if nat_lt (2 * n) range then pos n else neg_ℤ (pos (range - n))

-- an integer in k bytes of two's complement, lowest byte first
abbrev pub signed_bytes : ℕ → ℤ → List ℕ
signed_bytes k (pos n) = le_bytes k n
signed_bytes k (negsuc n) = le_bytes k (256 ^ k - suc n)

-- a boolean's byte
abbrev pub bool_byte : Bool → ℕ
bool_byte x = if x then 1 else 0

-- a Unicode scalar value: a code point other than a surrogate (Unicode Standard, D76)
abbrev pub is_scalar : ℕ → Bool
is_scalar c = nat_lt c 0xd800 || (nat_lt 0xdfff c && nat_lt c 0x110000)

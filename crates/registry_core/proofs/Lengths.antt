-- A length or an id below 64, which is one byte.
use Rattle.std.proofs.Common.{◌≡◌, ℕ, ◌-◌, ◌*◌, ◌/◌, ◌%◌, ◌<◌, ◌≤◌, List, [], ◌∷◌, length, get_or}
use Rattle.std.proofs.Common.{take, drop, Ok, refl, arith}
use Rattle.std.proofs.lemmas.Bool.{lt-ltb}
use Rattle.std.proofs.lemmas.List.{take_rest}
use Rattle.scale_core.specs.Compact.{compact}
use Rattle.scale_core.specs.declared.compact.Target.TheVariants.{U32}
use Rattle.scale_core.proofs.Again.{compact_again}
use Rattle.registry_core.specs.Reading.{length_at}

-- such a number's one spelling
byte-compact : (first n : ℕ) → first ≡ 4 * n → n < 64 → first ∷ [] ≡ compact n
unfolding compact
byte-compact first n is small = rw (lt-ltb n 64 small, is) refl

-- what is read where the first byte is one
pub byte_is_read : (bytes : List ℕ) → 1 ≤ length bytes → get_or bytes 0 0 < 256 →
    get_or bytes 0 0 % 4 ≡ 0 →
    length_at bytes ≡ Ok (get_or bytes 0 0 / 4, take (length bytes - 1) (drop 1 bytes))
byte_is_read [] one byte mode = absurd (omega arith)
byte_is_read (first ∷ rest) one byte mode =
    rw (
      take_rest (first ∷ rest) 1,
      compact_again U32 (first / 4) (first ∷ []) rest (
        omega (arith, byte),
        byte-compact first (first / 4) (omega (arith, mode))
            (omega (arith, byte)),
      ),
    ) refl

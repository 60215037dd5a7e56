-- Bits in binary digits.
use Rattle.std.proofs.Common.{◌≡◌, ℕ, zero, suc, ◌+◌, Bool, true, false, List, [], ◌∷◌, ◌++◌}
use Rattle.std.proofs.Common.{length, refl, ap, ap₂, ◌∙◌, subst, arith, length-append, IsUtf8}
use Rattle.std.proofs.lemmas.Str.{IsUtf8-append, IsUtf8-nil}
use Rattle.json.specs.Print.{token_text, escape_byte, escape, quoted}
use Rattle.json.specs.Token.{string}
use Rattle.json.proofs.Printed.Utf8.{IsUtf8-are_ascii}
use Rattle.types_core.specs.Bits.{is_one}
use Rattle.types_core.specs.declared.bits.BitForm.{BitForm}
use Rattle.token_core.specs.Digits.{bit_digit, bit_digits}
use Rattle.token_core.proofs.Outputs.{escape_append, escape_one, plain_string}

-- there are as many digits as bits
pub length-bit_digits : (f : BitForm) (s : List ℕ) (n : ℕ) → length (bit_digits f s n) ≡ n
length-bit_digits f s zero = refl
length-bit_digits f s (suc n) = omega (
  arith,
  length-append (bit_digits f s n) (bit_digit (is_one f s n) ∷ []),
  length-bit_digits f s n,
)

-- the digits of one bit more
pub next_digit : (f : BitForm) (s : List ℕ) (n : ℕ) →
    bit_digits f s n ++ bit_digit (is_one f s n) ∷ [] ≡ bit_digits f s (n + 1)
next_digit f s n = let more : suc n ≡ n + 1 = omega arith in ap (bit_digits f s) more

-- the digit of a bit needs no escape
escape_bit : (b : Bool) → escape (bit_digit b ∷ []) ≡ bit_digit b ∷ []
escape_bit true = escape_one 49 (omega arith) (omega arith)
escape_bit false = escape_one 48 (omega arith) (omega arith)

-- nor do those of many
escape_bits : (f : BitForm) (s : List ℕ) (n : ℕ) → escape (bit_digits f s n) ≡ bit_digits f s n
escape_bits f s zero = refl
escape_bits f s (suc n) = escape_append (bit_digits f s n) (bit_digit (is_one f s n) ∷ [])
    ∙ ap₂ (λ (a b : List ℕ). a ++ b) (escape_bits f s n) (escape_bit (is_one f s n))

-- the digits of bits after 0b, in quotes, are printed as one string token
pub bits_string : (f : BitForm) (s : List ℕ) (n : ℕ) →
    34 ∷ 48 ∷ 98 ∷ (bit_digits f s n ++ 34 ∷ [])
    ≡ token_text (string (48 ∷ 98 ∷ bit_digits f s n))
unfolding escape_byte
bits_string f s n = plain_string (48 ∷ 98 ∷ bit_digits f s n)
    (ap (λ l. 48 ∷ 98 ∷ l) (escape_bits f s n))

-- the digit of a bit is UTF-8
bit_utf8 : (b : Bool) → IsUtf8 (bit_digit b ∷ [])
bit_utf8 true = IsUtf8-are_ascii (49 ∷ []) refl
bit_utf8 false = IsUtf8-are_ascii (48 ∷ []) refl

-- and so are those of many
digits_utf8 : (f : BitForm) (s : List ℕ) (n : ℕ) → IsUtf8 (bit_digits f s n)
digits_utf8 f s zero = IsUtf8-nil
digits_utf8 f s (suc n) = IsUtf8-append (bit_digits f s n) (bit_digit (is_one f s n) ∷ [])
    (digits_utf8 f s n) (bit_utf8 (is_one f s n))

-- the JSON text of bits is UTF-8
pub bits_utf8 : (f : BitForm) (s : List ℕ) (n : ℕ) → IsUtf8 (quoted (48 ∷ 98 ∷ bit_digits f s n))
bits_utf8 f s n = subst IsUtf8 (bits_string f s n) (IsUtf8-append (34 ∷ 48 ∷ 98 ∷ []) _
    (IsUtf8-are_ascii (34 ∷ 48 ∷ 98 ∷ []) refl) (IsUtf8-append (bit_digits f s n) (34 ∷ [])
    (digits_utf8 f s n) (IsUtf8-are_ascii (34 ∷ []) refl)))

-- What a hexadecimal text holds, by its digits, and where it is refused.
use Rattle.std.proofs.Common.{◌≡◌, ℕ, suc, ◌+◌, ◌-◌, ◌*◌, ◌<◌, ◌≤◌, ◌%◌, ◌==◌, List, [], ◌∷◌}
use Rattle.std.proofs.Common.{length, Bool, true, false, Option, Some, None, Result, Ok, Err, arith}
use Rattle.std.proofs.Common.{refl, sym, ◌∙◌, ap, take, drop, inl, inr}
use Rattle.std.specs.Prelude.{if◌then◌else◌, ◌⊎◌}
use Rattle.std.proofs.lemmas.List.{length-drop, length-take, take_all}
use Rattle.hex_text.specs.HexText.{digits_end, hex_bytes, placed, prefix_len}
use Rattle.hex.specs.Hex.{decode_of, decode_pairs, digit_or_error, hex_digit_value, pair_value}
use Rattle.hex.specs.Hex.{◌>>=◌}
use Rattle.hex.specs.declared.error.FromHexError.{FromHexError}
use Rattle.hex.specs.declared.error.FromHexError.TheVariants.{InvalidHexCharacter}
use Rattle.hex.specs.declared.error.FromHexError.TheVariants.{InvalidStringLength, OddLength}
use Rattle.hex.specs.declared.error.FromHexError.TheVariants.{OutOfMemory}

-- the byte of two digits is refused at one of them
pair_within : (high low from c i : ℕ) (h l : Option ℕ) →
    (digit_or_error high from h >>= λ a. digit_or_error low (from + 1) l >>= λ b. Ok (a * 16 + b))
    ≡ Err (InvalidHexCharacter c i) → i < from + 2
pair_within high low from c i None l e = let same : from ≡ i = cc in omega (arith, same)
pair_within high low from c i (Some a) None e = let same : from + 1 ≡ i = cc in omega (arith, same)
pair_within high low from c i (Some a) (Some b) e = absurd cc

-- and the bytes of a text within it
next_within : (from c i n : ℕ) (byte : Result ℕ FromHexError)
    (rest : Result (List ℕ) FromHexError) → (byte ≡ Err (InvalidHexCharacter c i) → i < from + 2) →
    (rest ≡ Err (InvalidHexCharacter c i) → i < from + 2 + n) →
    (byte >>= λ b. rest >>= λ bs. Ok (b ∷ bs)) ≡ Err (InvalidHexCharacter c i) →
    i < from + suc (suc n)
next_within from c i n (Ok b) (Ok bs) one more e = absurd cc
next_within from c i n (Ok b) (Err x) one more e = omega (arith, more e)
next_within from c i n (Err x) rest one more e = let same : x ≡ InvalidHexCharacter c i = cc in
    omega (arith, one (ap Err same))

-- a byte that is no digit stands within the pairs that are decoded
pairs_within : (from : ℕ) (text : List ℕ) (c i : ℕ) →
    decode_pairs from text ≡ Err (InvalidHexCharacter c i) → i < from + length text
unfolding decode_pairs
pairs_within from [] c i e = absurd cc
pairs_within from (digit ∷ []) c i e = absurd cc
pairs_within from (high ∷ low ∷ rest) c i e =
    next_within from c i (length rest) (pair_value high low from) (decode_pairs (from + 2) rest)
    (λ p. pair_within high low from c i (hex_digit_value high) (hex_digit_value low) p)
    (λ p. pairs_within (from + 2) rest c i p) e

-- the same where an odd number of digits is refused first
either_within : (odd : Bool) (text : List ℕ) (c i : ℕ) →
    (if odd then Err OddLength else decode_pairs 0 text) ≡ Err (InvalidHexCharacter c i) →
    i < length text
either_within true text c i e = absurd cc
either_within false text c i e = omega (arith, pairs_within 0 text c i e)

-- a byte that is no digit stands within the text
pub bad_within : (text : List ℕ) (c i : ℕ) → decode_of text ≡ Err (InvalidHexCharacter c i) →
    i < length text
bad_within text c i e = either_within (length text % 2 == 1) text c i e

-- decoding reported this fault, and not an allocation failure
pub reported_fault : (text : List ℕ) (e fault : FromHexError) → e ≡ fault →
    (fault ≡ OutOfMemory → ⊥) →
    (e ≡ OutOfMemory) ⊎ (decode_of text ≡ Err e) → decode_of text ≡ Err fault
reported_fault text e fault is other (inl o) = absurd (other (sym is ∙ o))
reported_fault text e fault is other (inr h) = h ∙ ap Err is

-- decoding that reported a byte that is no digit, and not an allocation failure, refuses the text
-- for it
pub reported_bad : (text : List ℕ) (e : FromHexError) (c i : ℕ) → e ≡ InvalidHexCharacter c i →
    (e ≡ OutOfMemory) ⊎ (decode_of text ≡ Err e) → decode_of text ≡ Err (InvalidHexCharacter c i)
reported_bad text e c i is h = reported_fault text e (InvalidHexCharacter c i) is (λ o. absurd cc) h

-- decoding that reported an odd number of digits refuses the text for it
pub reported_odd : (text : List ℕ) (e : FromHexError) → e ≡ OddLength → (e ≡ OutOfMemory)
    ⊎ (decode_of text ≡ Err e) → decode_of text ≡ Err OddLength
reported_odd text e is h = reported_fault text e OddLength is (λ o. absurd cc) h

-- decoding that reported a wrong length refuses the text for it
pub reported_length : (text : List ℕ) (e : FromHexError) → e ≡ InvalidStringLength →
    (e ≡ OutOfMemory)
    ⊎ (decode_of text ≡ Err e) → decode_of text ≡ Err InvalidStringLength
reported_length text e is h = reported_fault text e InvalidStringLength is (λ o. absurd cc) h

-- what stands after the prefix
pub after_prefix : (text : List ℕ) (start : ℕ) →
    take (length text - start) (drop start text) ≡ drop start text
after_prefix text start =
    take_all (length text - start) (drop start text) (omega (arith, length-drop start text))

-- so its place in the text is within it
pub place_within : (text rest : List ℕ) (start end c i : ℕ) → start ≤ length text →
    rest ≡ drop start text → decode_of (take end rest) ≡ Err (InvalidHexCharacter c i) →
    start + i < length text
place_within text rest start end c i inside is e =
    omega (
      arith,
      inside,
      bad_within (take end rest) c i e,
      length-take end rest,
      ap length is,
      length-drop start text,
    )

-- the bytes by what was decoded
pub hex_is : (text rest : List ℕ) (start end : ℕ) (r : Result (List ℕ) FromHexError) →
    start ≡ prefix_len text → rest ≡ drop start text → end ≡ digits_end rest →
    decode_of (take end rest) ≡ r →
    hex_bytes text ≡ placed start (start + end) r
unfolding hex_bytes
hex_is text rest start end r s is e reported = rw (← reported, e, is, s) refl

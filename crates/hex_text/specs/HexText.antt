-- Bytes that a text of hexadecimal digits holds.
use Rattle.std.specs.Prelude.{◌≡◌, ℕ, ◌+◌, ◌-◌, ◌*◌, List, [], ◌∷◌, ◌++◌, length, take, drop}
use Rattle.std.specs.Prelude.{nat_lt, ◌==◌, ◌&&◌, ◌⊎◌, if◌then◌else◌, slice_index, codes, Some}
use Rattle.std.specs.Prelude.{Result, Ok, Err}
use Rattle.std.specs.Str.{bytes_eq}
use Rattle.hex.specs.Hex.{decode_of, hex_digit_value}
use Rattle.hex.specs.declared.error.FromHexError.{FromHexError}
use Rattle.hex.specs.declared.error.FromHexError.TheVariants.{InvalidHexCharacter}
use Rattle.hex_text.specs.declared.fault.HexFault.{HexFault}
use Rattle.hex_text.specs.declared.fault.HexFault.TheVariants as fault
use Rattle.hex_text.specs.declared.fault.HexRefusal.{HexRefusal}
use Rattle.hex_text.specs.declared.fault.HexRefusal.TheVariants as hex

-- the length of the prefix `0x`, or 0 without it
abbrev pub prefix_len : List ℕ → ℕ
prefix_len text = if bytes_eq (codes "0x") (take 2 text) then 2 else 0

-- the place of the byte before `end` if it is `byte`, and otherwise `end`
abbrev pub back_over : List ℕ → ℕ → ℕ → ℕ
back_over text end byte =
    if nat_lt 0 end && slice_index text (end - 1) == byte then end - 1 else end

-- where the line end begins: a line feed, or a carriage return and a line feed
abbrev pub digits_end : List ℕ → ℕ
digits_end text = if back_over text (length text) 10 == length text then length text else back_over
    text (back_over text (length text) 10) 13

-- the decoded digits between two places: an odd number of them is a fault at their end, and the
-- first byte that is no digit is a fault at its place
abbrev pub placed : ℕ → ℕ → Result (List ℕ) FromHexError → Result (List ℕ) HexFault
placed start end (Ok bytes) = Ok bytes
placed start end (Err (InvalidHexCharacter c i)) = Err (fault.Bad (start + i))
placed start end (Err _) = Err (fault.Odd end)

abbrev pub bytes_after : ℕ → List ℕ → Result (List ℕ) HexFault
bytes_after start rest =
    placed start (start + digits_end rest) (decode_of (take (digits_end rest) rest))

-- the bytes of the complete text
unfoldable pub hex_bytes : List ℕ → Result (List ℕ) HexFault
hex_bytes text = bytes_after (prefix_len text) (drop (prefix_len text) text)

-- why a text is rejected, unless an allocation failed
abbrev pub IsOfHex : Result (List ℕ) HexFault → HexRefusal → Type 0
IsOfHex bytes (hex.Fault f) = bytes ≡ Err f
IsOfHex bytes (hex.Memory _) = Unit {0}

-- two digits of either case for each byte, the high one first
abbrev pub AreDigits : List ℕ → List ℕ → Type 0
AreDigits [] [] = Unit {0}
AreDigits [] (b ∷ bytes) = ⊥
AreDigits (digit ∷ []) bytes = ⊥
AreDigits (high ∷ low ∷ digits) [] = ⊥
AreDigits (high ∷ low ∷ digits) (b ∷ bytes) = (h l : ℕ) × (hex_digit_value high ≡ Some h)
    × (hex_digit_value low ≡ Some l) × (b ≡ h * 16 + l) × AreDigits digits bytes

-- nothing, or `0x`
abbrev pub IsMark : List ℕ → Type 0
IsMark front = (front ≡ []) ⊎ (front ≡ codes "0x")

-- nothing, a line feed, or a carriage return and a line feed
abbrev pub IsLineEnd : List ℕ → Type 0
IsLineEnd end = (end ≡ []) ⊎ ((end ≡ 10 ∷ []) ⊎ (end ≡ 13 ∷ 10 ∷ []))

-- this text holds these bytes: an optional `0x`, their digits, and an optional line end
abbrev pub IsHexText : List ℕ → List ℕ → Type 0
IsHexText text bytes = (front digits end : List ℕ) × (text ≡ front ++ (digits ++ end))
    × IsMark front × AreDigits digits bytes × IsLineEnd end

-- a text is read as these bytes exactly if it holds them
abbrev pub HexIsRead : Type 0
HexIsRead = (text bytes : List ℕ) → (hex_bytes text ≡ Ok bytes → IsHexText text bytes)
    × (IsHexText text bytes → hex_bytes text ≡ Ok bytes)

-- Reading from left to right: the value and the bytes after it, or the first fault and the bytes
-- from its place on.
use Rattle.std.specs.Prelude.{ℕ, ◌+◌, ◌-◌, ◌/◌, ◌%◌, ◌^◌, Bool, true, false, ◌&&◌, not, ℤ, List, []}
use Rattle.std.specs.Prelude.{◌∷◌, length, take, drop, Result, Ok, Err, nat_lt, ◌==◌, if◌then◌else◌}
use Rattle.std.specs.Str.{bytes_eq, is_utf8}
use Rattle.std.specs.Str.Lossy.{utf8_valid_len}
use Rattle.scale_core.specs.Number.{number, signed_number, is_scalar}
use Rattle.scale_core.specs.Compact.{compact, target_bytes}
use Rattle.scale_core.specs.declared.compact.Target.{Target}
use Rattle.scale_core.specs.declared.compact.Target.TheVariants.{Unit as TUnit, U32}
use Rattle.scale_core.specs.declared.fault.Reason.{Reason}
use Rattle.scale_core.specs.declared.fault.Reason.TheVariants.{Truncated, BadBool, BadChar, BadUtf8}
use Rattle.scale_core.specs.declared.fault.Reason.TheVariants.{CompactNotShortest, CompactTooLarge}

abbrev pub Read : Type 0 → Type 0 → Type 0
Read E X = Result (X × List ℕ) (E × List ℕ)

infixl 10 ◌>>=◌
abbrev pub ◌>>=◌ : {E A B : Type 0} → Read E A → (A × List ℕ → Read E B) → Read E B
(Ok x) >>= f = f x
(Err e) >>= f = Err e

-- the fault's place, in bytes from the start of the input
abbrev pub place : List ℕ → List ℕ → ℕ
place input left = length input - length left

-- the next k bytes
abbrev pub bytes_at : ℕ → List ℕ → Read Reason (List ℕ)
bytes_at k bytes = if nat_lt (length bytes) k then Err (Truncated, []) else Ok
    (take k bytes, drop k bytes)

-- an integer of k bytes
abbrev pub number_at : ℕ → List ℕ → Read Reason ℕ
number_at k bytes = if nat_lt (length bytes) k then Err (Truncated, []) else Ok
    (number (take k bytes), drop k bytes)

-- an integer of k bytes in two's complement
abbrev pub signed_at : ℕ → List ℕ → Read Reason ℤ
signed_at k bytes = if nat_lt (length bytes) k then Err (Truncated, []) else Ok
    (signed_number (take k bytes), drop k bytes)

-- a number that was read, as a boolean: 0 or 1
abbrev pub bool_from : List ℕ → Read Reason ℕ → Read Reason Bool
bool_from at (Ok x) = if x.0 == 0 then Ok (false, x.1) else if x.0 == 1 then Ok (true, x.1) else Err
    (BadBool, at)
bool_from at (Err e) = Err e

-- a boolean: one byte, 0 or 1
abbrev pub bool_at : List ℕ → Read Reason Bool
bool_at bytes = bool_from bytes (number_at 1 bytes)

-- a number that was read, as a Unicode scalar value
abbrev pub scalar_from : List ℕ → Read Reason ℕ → Read Reason ℕ
scalar_from at (Ok x) = if is_scalar x.0 then Ok x else Err (BadChar, at)
scalar_from at (Err e) = Err e

-- a character: four bytes that spell a Unicode scalar value
abbrev pub char_at : List ℕ → Read Reason ℕ
char_at bytes = scalar_from bytes (number_at 4 bytes)

-- the length in bytes of a compact integer, by the mode in the two low bits of its first byte
abbrev pub mode_len : ℕ → ℕ
mode_len first = if first % 4 == 0 then 1 else if first % 4 == 1 then 2 else if first % 4 == 2 then
    4 else first / 4 + 5

-- the number that the bytes of a compact integer stand for, in any mode
abbrev pub mode_number : List ℕ → ℕ
mode_number [] = 0
mode_number (first ∷ tail) = if first % 4 == 3 then number tail else number (first ∷ tail) / 4

-- the number n, if `mode` is its one spelling and n fits the target
abbrev pub checked_mode : Target → List ℕ → ℕ → List ℕ → List ℕ → Read Reason ℕ
checked_mode m bytes n mode rest =
    if not (bytes_eq (compact n) mode) then Err (CompactNotShortest, bytes)
    else (if nat_lt n (256 ^ target_bytes m) then Ok (n, rest) else Err (CompactTooLarge, bytes))

-- the same, for bytes whose reading may have failed
abbrev pub mode_from : Target → List ℕ → Read Reason (List ℕ) → Read Reason ℕ
mode_from m bytes (Ok mode) = checked_mode m bytes (mode_number mode.0) mode.0 mode.1
mode_from m bytes (Err e) = Err e

-- whether the first byte alone claims more bytes than the target has
abbrev pub is_too_long : Target → ℕ → Bool
is_too_long m first = (first % 4 == 3) && nat_lt (target_bytes m) (first / 4 + 4)

-- a compact integer for a target other than `Unit`
abbrev pub integer_at : Target → List ℕ → Read Reason ℕ
integer_at m [] = Err (Truncated, [])
integer_at m (first ∷ rest) =
    if is_too_long m first then Err (CompactTooLarge, first ∷ rest)
    else mode_from m (first ∷ rest) (bytes_at (mode_len first) (first ∷ rest))

-- a compact integer; 0 and no bytes if the target is `Unit`
unfoldable pub compact_at : Target → List ℕ → Read Reason ℕ
compact_at TUnit bytes = Ok (0, bytes)
compact_at m bytes = integer_at m bytes

-- a text: its length, and that many bytes of UTF-8
unfoldable pub text_at : List ℕ → Read Reason (List ℕ)
text_at bytes = do
  n ← compact_at U32 bytes
  text ← bytes_at n.0 n.1
  if is_utf8 text.0 then Ok text else Err (BadUtf8, drop (utf8_valid_len text.0) n.1)

-- What std's conversions of bytes spell.
use Rattle.std.proofs.Common.{◌≡◌, ℕ, zero, suc, ◌+◌, ◌*◌, ◌/◌, ◌%◌, ◌^◌, ◌<◌, ◌≤◌, List, [], ◌∷◌}
use Rattle.std.proofs.Common.{◌++◌, length, take, drop, replicate, get_or, refl, ap, ◌∙◌, arith}
use Rattle.std.specs.Prelude.{Result, Ok, Err, is_ok, OnOk, slice_index, if◌then◌else◌}
use Rattle.std.specs.Int.{Width, w8, w16, w32, w64, w128, byte_len, byte_at, byte_worth}
use Rattle.std.specs.Int.{bytes_low_first, sum_through, to_le_bytes, from_le_bytes}
use Rattle.std.proofs.Math.Nat.{pow-suc, div-div-eq-div-mul}
use Rattle.std.proofs.lemmas.List.{take_all, length-append, length-drop}
use Rattle.std.proofs.Math.ListN.{set}
use borrow.Rule.Slice.PartMut.{put_mid}
use Rattle.scale_core.specs.Number.{number, le_bytes}

-- one more byte of a front adds its worth to the number
number-take-suc : (k : ℕ) (bs : List ℕ) →
    number (take (suc k) bs) ≡ number (take k bs) + get_or bs k 0 * 256 ^ k
number-take-suc zero [] = refl
number-take-suc zero (b ∷ bs) = omega arith
number-take-suc (suc k) [] = omega arith
number-take-suc (suc k) (b ∷ bs) = rw (number-take-suc k bs, pow-suc 256 k) (omega arith)

-- the worths of the bytes through a place add up to the number of that front
sum_through-number : (k : ℕ) (bs : List ℕ) →
    sum_through (λ i. byte_worth i (slice_index bs i)) k ≡ number (take (suc k) bs)
sum_through-number zero [] = refl
sum_through-number zero (b ∷ bs) = omega arith
sum_through-number (suc k) bs = rw (sum_through-number k bs, number-take-suc (suc k) bs) refl

-- what std reads from as many bytes as a width has is their number, lowest byte first
pub from_le_bytes-number : (w : Width) (bs : List ℕ) → length bs ≡ byte_len w →
    from_le_bytes w bs ≡ number bs
from_le_bytes-number w8 bs h = sum_through-number 0 bs ∙ ap number (take_all 1 bs (omega arith))
from_le_bytes-number w16 bs h = sum_through-number 1 bs ∙ ap number (take_all 2 bs (omega arith))
from_le_bytes-number w32 bs h = sum_through-number 3 bs ∙ ap number (take_all 4 bs (omega arith))
from_le_bytes-number w64 bs h = sum_through-number 7 bs ∙ ap number (take_all 8 bs (omega arith))
from_le_bytes-number w128 bs h = sum_through-number 15 bs ∙ ap number (take_all 16 bs (omega arith))

-- ---- a short spelling in a long array

-- the number of two lists of bytes is the first's, and the second's as far up as the first is long
number-append : (xs ys : List ℕ) → number (xs ++ ys) ≡ number xs + 256 ^ length xs * number ys
number-append [] ys = omega arith
number-append (x ∷ xs) ys = rw (number-append xs ys, pow-suc 256 (length xs)) (omega arith)

-- zeros are the number 0, wherever they are cut
number-drop-zeros : (j k : ℕ) → number (drop j (replicate k 0)) ≡ 0
number-drop-zeros zero zero = refl
number-drop-zeros zero (suc k) = omega (arith, number-drop-zeros zero k)
number-drop-zeros (suc j) zero = refl
number-drop-zeros (suc j) (suc k) = number-drop-zeros j k

-- bytes that are filled up with zeros to sixteen are the number of the bytes alone
pub from_le_bytes-padded : (spelled front : List ℕ) (n : ℕ) → length spelled ≤ 16 →
    front ≡ spelled →
    n ≡ from_le_bytes w128 (front ++ drop (length spelled) (replicate 16 0)) → n ≡ number spelled
from_le_bytes-padded spelled front n short same e =
    let rest = drop (length spelled) (replicate 16 0) in
    let zeros : number rest ≡ 0 = number-drop-zeros (length spelled) 16 in
    let len : length (front ++ rest) ≡ 16 =
    omega (
      arith,
      ap length same,
      length-append front rest,
      length-drop {A = ℕ} (length spelled) (replicate 16 0),
    ) in
    e ∙ from_le_bytes-number w128 (front ++ rest) len ∙ number-append front rest
    ∙ rw zeros (omega (arith, ap number same))

-- ---- and back

-- to divide by 256 once more is to divide by the next power of it
div-div : (n k : ℕ) → n / 256 ^ k / 256 ≡ n / 256 ^ suc k
div-div n k = rw (pow-suc 256 k) (div-div-eq-div-mul n (256 ^ k) 256)

-- the byte that std takes at a place is that of the number without the bytes below
byte_at-is : (i n : ℕ) → byte_at i n ≡ n / 256 ^ i % 256
byte_at-is zero n = omega arith
byte_at-is (suc i) n = refl

-- the bytes that std writes from a place on are those of the number without the bytes below
bytes_low_first-le_bytes : (k i n : ℕ) → bytes_low_first i k n ≡ le_bytes k (n / 256 ^ i)
bytes_low_first-le_bytes zero i n = refl
bytes_low_first-le_bytes (suc k) i n =
    rw (byte_at-is i n, bytes_low_first-le_bytes k (suc i) n, div-div n i) refl

-- std writes 16 bits as two bytes, lowest first
pub to_le_bytes_2 : (n : ℕ) → to_le_bytes w16 n ≡ le_bytes 2 n
to_le_bytes_2 n = bytes_low_first-le_bytes 2 0 n ∙ ap (le_bytes 2) (omega arith)

-- std writes 32 bits as four bytes, lowest first
pub to_le_bytes_4 : (n : ℕ) → to_le_bytes w32 n ≡ le_bytes 4 n
to_le_bytes_4 n = bytes_low_first-le_bytes 4 0 n ∙ ap (le_bytes 4) (omega arith)

-- std writes 128 bits as sixteen bytes, lowest first
pub to_le_bytes_16 : (n : ℕ) → to_le_bytes w128 n ≡ le_bytes 16 n
to_le_bytes_16 n = bytes_low_first-le_bytes 16 0 n ∙ ap (le_bytes 16) (omega arith)

-- the first bytes of a number are those of the number in fewer bytes
take-le_bytes : (j k n : ℕ) → j ≤ k → take j (le_bytes k n) ≡ le_bytes j n
take-le_bytes zero k n h = refl
take-le_bytes (suc j) zero n h = absurd (omega arith)
take-le_bytes (suc j) (suc k) n h =
    ap (λ (xs : List ℕ). n % 256 ∷ xs) (take-le_bytes j k (n / 256) (omega arith))

-- the first of the sixteen bytes that std writes are those of the number in fewer bytes
pub take-to_le_bytes_16 : (j n : ℕ) → j ≤ 16 → take j (to_le_bytes w128 n) ≡ le_bytes j n
take-to_le_bytes_16 j n h = ap (take j) (to_le_bytes_16 n) ∙ take-le_bytes j 16 n h

-- ---- what is put at the front of an array

-- where the first place is set, the list begins with what was set, and goes on as before
pub set-front : (xs a : List ℕ) (x len : ℕ) → 0 < length xs → a ≡ x ∷ [] → len ≡ 1 →
    set xs 0 x ≡ a ++ drop len xs
set-front [] a x len h e one = absurd (omega arith)
set-front (y ∷ xs) a x len h e one = rw (e, one) refl

-- where a byte and those after it are set, the list begins with them, and goes on as before
pub put_mid-front : (xs ys a : List ℕ) (x k j len : ℕ) → 0 < length xs → a ≡ x ∷ ys → j ≡ k →
    len ≡ suc k → put_mid 1 j (set xs 0 x) ys ≡ a ++ drop len xs
put_mid-front [] ys a x k j len h e same long = absurd (omega arith)
put_mid-front (y ∷ xs) ys a x k j len h e same long = rw (e, same, long) refl

-- what was appended, if it was, is b
pub appends : {E : Type 0} (r : Result (Unit {0}) E) (new old a b : List ℕ) →
    new ≡ (if is_ok r then old ++ a else old) → a ≡ b → OnOk r (new ≡ old ++ b)
appends (Ok x) new old a b e same = e ∙ ap (λ (xs : List ℕ). old ++ xs) same
appends (Err x) new old a b e same = tt

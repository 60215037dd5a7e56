-- Bytes in hexadecimal digits.
use Rattle.std.proofs.Common.{◌≡◌, ℕ, ◌+◌, ◌-◌, ◌*◌, ◌/◌, ◌%◌, ◌^◌, ◌≤◌, ◌<◌, List, [], ◌∷◌, ◌++◌}
use Rattle.std.proofs.Common.{length, map, take, drop, get_or, slice_index, replicate, bit_and, w8}
use Rattle.std.proofs.Common.{Fits, refl, sym, ap, ap₂, ◌∙◌, subst, arith}
use Rattle.std.proofs.Common.{length-take-le, length-drop}
use Rattle.std.specs.List.{slice_range}
use Rattle.std.proofs.lemmas.List.{take_all, get_or-map, length-map, ext_get_or}
use Rattle.std.proofs.lemmas.Nat.{and_le_r}
use Rattle.std.proofs.lemmas.Simd.{Each1-all, Each1-get_or, Each1-weaker, Each1-zip2, Each2-splat}
use Rattle.std.proofs.lemmas.Simd.{below_from_Fits, length-zip2, swz_l, SwzOk, SwzOk-from_below}
use Rattle.std.proofs.lemmas.Simd.{length-swz_l, get_or-swz_l_below, pick_l_whole}
use Rattle.std.proofs.Math.Seq.{take-add}
use Rattle.hex.specs.Hex.{encode_with, encode_lower, lower_digits}
use Rattle.hex.proofs.HexLemmas.{length-encode_with}
use Rattle.token_core.specs.Places.{OnlyPlaced}
use Rattle.token_core.proofs.Placing.{OnlyPlaced-then, nothing_placed}
use lib.Lanes.{zip2, Each1, pick_l}

-- the digits of bytes after others come after the digits of these
pub encode-append : (xs ys : List ℕ) → encode_lower (xs ++ ys) ≡ encode_lower xs ++ encode_lower ys
unfolding encode_with
encode-append [] ys = refl
encode-append (x ∷ xs) ys =
    ap (λ (l : List ℕ). slice_index lower_digits (x / 16) ∷ slice_index lower_digits (x % 16) ∷ l)
    (encode-append xs ys)

-- the digits of the bytes up to a place, and then those up to a later one
pub encode_part : (bs : List ℕ) (at end : ℕ) → at ≤ end →
    encode_lower (take at bs) ++ encode_lower (slice_range bs at end) ≡ encode_lower (take end bs)
encode_part bs at end h =
    sym (encode-append (take at bs) (slice_range bs at end))
    ∙ ap encode_lower (sym (take-add at (end - at) bs))
    ∙ ap (λ n. encode_lower (take n bs)) (omega (arith, h))

-- ---- digits after digits

-- the digits of so many bytes are placed
abbrev pub AreDigits : (bs old new : List ℕ) (at done : ℕ) → Type 0
AreDigits bs old new at done = OnlyPlaced old new at (encode_lower (take done bs)) (at + 2 * done)

-- none are
pub none_placed : (bs old : List ℕ) (at : ℕ) → AreDigits bs old old at 0
unfolding encode_with
none_placed bs old at = let start : at ≡ at + 2 * 0 = omega arith in
    subst (λ n. OnlyPlaced old old at [] n) start (nothing_placed old at)

-- those of the bytes up to a place are, and then those up to a later one
pub next_placed : (bs old mid new : List ℕ) (at done next end : ℕ) → AreDigits bs old mid at done →
    done ≤ next → next ≤ length bs →
    OnlyPlaced mid new (at + 2 * done) (encode_lower (slice_range bs done next)) end →
    AreDigits bs old new at next × (end ≡ at + 2 * next)
next_placed bs old mid new at done next end before ordered within last =
    let long = length-encode_with lower_digits (slice_range bs done next) in
    let short = length-take-le (next - done) (drop done bs)
    (omega (arith, ordered, within, length-drop done bs)) in
    let there : end ≡ at + 2 * next = omega (arith, last.placed.moved, long, short, ordered) in
    let digits = subst (λ ds. OnlyPlaced old new at ds end) (encode_part bs done next ordered)
    (OnlyPlaced-then before last) in
    (subst (λ n. OnlyPlaced old new at (encode_lower (take next bs)) n) there digits, there)

-- after whole blocks of sixteen bytes, the digits of all that is left are
pub all_placed : (bs old mid new : List ℕ) (at blocks end : ℕ) → blocks ≡ length bs / 16 →
    AreDigits bs old mid at (16 * blocks) →
    OnlyPlaced mid new (at + 2 * (16 * (length bs / 16)))
    (encode_lower (slice_range bs (16 * (length bs / 16)) (length bs))) end →
    OnlyPlaced old new at (encode_lower bs) end
all_placed bs old mid new at blocks end e before last =
    let done = 16 * (length bs / 16) in
    let first = subst (λ n. AreDigits bs old mid at (16 * n)) e before in
    let all = next_placed bs old mid new at done (length bs) end first (omega arith) (omega arith)
    last in
    let whole = subst (λ l. OnlyPlaced old new at (encode_lower l) (at + 2 * length bs))
    (take_all (length bs) bs (omega arith)) all.0 in
    subst (λ n. OnlyPlaced old new at (encode_lower bs) n) (sym all.1) whole

-- ---- sixteen bytes at once

abbrev pub IsBlock : List ℕ → Type 0
IsBlock v = (length v ≡ 16) × Each1 (Fits w8) v

-- what a shift of each byte does
abbrev pub down : ℕ → ℕ → ℕ
down a b = a / 2 ^ b

-- the higher halves are places of digits
pub high_ok : (v : List ℕ) → IsBlock v → SwzOk w8 16 16 0 (zip2 down v (replicate 16 4))
high_ok v fits =
    let four = replicate 16 4 in
    let small = Each1-weaker (λ a. a < 256) (λ a. a / 16 < 16) (λ a h. omega arith) v
    (below_from_Fits w8 v fits.1) in
    SwzOk-from_below w8 16 1 16 0 (zip2 down v four) refl
    (omega (arith, length-zip2 down v four fits.0))
    (Each1-zip2 down (λ j. j < 16) v four (Each2-splat (λ a b. down a b < 16) v 16 4 small))

-- and so are the lower ones
pub low_ok : (v : List ℕ) → IsBlock v → SwzOk w8 16 16 0 (zip2 bit_and v (replicate 16 15))
low_ok v fits =
    let mask = replicate 16 15 in
    let small = Each1-all (λ a. bit_and a 15 < 16) (λ a. omega (arith, and_le_r a 15)) v in
    SwzOk-from_below w8 16 1 16 0 (zip2 bit_and v mask) refl
    (omega (arith, length-zip2 bit_and v mask fits.0))
    (Each1-zip2 bit_and (λ j. j < 16) v mask (Each2-splat (λ a b. bit_and a b < 16) v 16 15 small))

-- a table of sixteen is read at places below sixteen
pub looked_up : (t : List ℕ) (g : ℕ → ℕ) (v js : List ℕ) → IsBlock v → js ≡ map g v →
    ((x : ℕ) → x < 256 → g x < 16) → swz_l w8 16 t 0 js ≡ map (λ x. get_or t (g x) 0) v
looked_up t g v js fits e small =
    let long : length js ≡ 16 = ap length e ∙ length-map v g ∙ fits.0 in
    let same = length-swz_l w8 16 t 0 js in
    ext_get_or 0 _ _ (same ∙ long ∙ sym (length-map v (λ x. get_or t (g x) 0) ∙ fits.0)) (λ i h.
    let within : i < length v = omega (arith, fits.0, same, long) in
    let is : get_or js i 0 ≡ g (get_or v i 0) =
    ap (λ l. get_or l i 0) e ∙ get_or-map g v i 0 0 within in
    let byte = Each1-get_or (λ a. a < 256) v i 0 within (below_from_Fits w8 v fits.1) in
    let below : get_or js i 0 < 16 = omega (arith, is, small (get_or v i 0) byte) in
    get_or-swz_l_below w8 16 t 0 js i (omega (arith, same)) below
    ∙ ap (λ k. get_or t k 0) (omega (arith, is, within, fits.0))
    ∙ sym (get_or-map (λ x. get_or t (g x) 0) v i 0 0 within))

-- the digits of the higher halves, and of the lower ones
abbrev pub first : List ℕ → List ℕ
first v = map (λ x. slice_index lower_digits (x / 16)) v

abbrev pub second : List ℕ → List ℕ
second v = map (λ x. slice_index lower_digits (x % 16)) v

-- one of each in turn, for the first eight bytes and then for the others
abbrev in_turn : List ℕ → List ℕ → List ℕ
in_turn a b =
    pick_l 0 (a ++ b) (0 ∷ 16 ∷ 1 ∷ 17 ∷ 2 ∷ 18 ∷ 3 ∷ 19 ∷ 4 ∷ 20 ∷ 5 ∷ 21 ∷ 6 ∷ 22 ∷ 7 ∷ 23 ∷ [])
    ++ pick_l 0 (a ++ b)
    (8 ∷ 24 ∷ 9 ∷ 25 ∷ 10 ∷ 26 ∷ 11 ∷ 27 ∷ 12 ∷ 28 ∷ 13 ∷ 29 ∷ 14 ∷ 30 ∷ 15 ∷ 31 ∷ [])

-- are the digits of all sixteen
interleaved : (v : List ℕ) → length v ≡ 16 → in_turn (first v) (second v) ≡ encode_lower v
unfolding encode_with
interleaved v long = subst (λ l. in_turn (first l) (second l) ≡ encode_lower l)
    (pick_l_whole 0 v 16 long) refl

-- as they are read from memory
pub block_digits : (v a b : List ℕ) → length v ≡ 16 → a ≡ first (take 16 v) →
    b ≡ second (take 16 v) → in_turn a b ≡ encode_lower v
block_digits v a b long is_a is_b =
    let whole = take_all 16 v (omega (arith, long)) in
    ap₂ in_turn (is_a ∙ ap first whole) (is_b ∙ ap second whole) ∙ interleaved v long

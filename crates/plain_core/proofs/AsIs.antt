-- Which texts stand in JSON as they are, by what a vector test or a loop tells.
use Rattle.std.proofs.Common.{◌≡◌, ℕ, zero, suc, ◌+◌, ◌*◌, ◌%◌, ◌^◌, ◌<◌, ◌≤◌, Bool, true, false}
use Rattle.std.proofs.Common.{cond, ◌==◌, eqb, ltb, ◌||◌, List, [], ◌∷◌, ◌++◌, length, drop, get_or}
use Rattle.std.proofs.Common.{map, replicate, bit_or, not, Fits, w8, refl, sym, ap, ap₂, ◌∙◌, ◌-◌}
use Rattle.std.proofs.Common.{arith, get_or-take, get_or-drop, length-append, inl, inr}
use Rattle.std.specs.Prelude.{nat_lt, ◌⊎◌, ◌/◌}
use Rattle.std.specs.Bool.{OnTrue}
use Rattle.std.specs.Char.{digit_char}
use Rattle.std.proofs.lemmas.Bool.{or_parts, not-true, eqb-false, ltb-false, cases_eq, cases_lt}
use Rattle.std.proofs.lemmas.Bool.{ne_eqb}
use Rattle.std.proofs.lemmas.List.{length-map}
use Rattle.std.proofs.lemmas.Simd.{length-chunk, mask_l-mod}
use lib.Lanes.{chunk, mask_l, zip2, top}
use Rattle.json.specs.Run.{is_stop, is_plain}
use Rattle.json.specs.Print.{escape, escape_byte, escape_letter}
use Rattle.json.specs.Written.{PlainBetween}
use Rattle.json.proofs.Printed.Plain.{plain_from_lanes, escape_on_plain}
use Rattle.json.proofs.Printed.Strings.{escape_byte_plain}
use Rattle.plain_core.specs.Plain.{TellsPlain, TellsAsIs}

-- what `simd_eq` and `simd_lt` write to a lane
abbrev hit : ℕ → ℕ → ℕ
hit a b = cond (eqb a b) 255 0

abbrev below : ℕ → ℕ → ℕ
below a b = cond (ltb a b) 255 0

-- a lane is marked by one of three tests
top_of_three : (a b c : Bool) →
    top 7 (bit_or (bit_or (cond a 255 0) (cond b 255 0)) (cond c 255 0)) ≡ ((a || b) || c)
top_of_three true true true = refl
top_of_three true true false = refl
top_of_three true false true = refl
top_of_three true false false = refl
top_of_three false true true = refl
top_of_three false true false = refl
top_of_three false false true = refl
top_of_three false false false = refl

-- the lanes that the three tests of a vector mark, as the code makes them
abbrev lanes : List ℕ → ℕ → List Bool
lanes v n = map (top 7) (zip2 bit_or
    (zip2 bit_or (zip2 hit v (replicate n 34)) (zip2 hit v (replicate n 92)))
    (zip2 below v (replicate n 32)))

-- they are those of the bytes that need an escape
lanes_are : (v : List ℕ) (n : ℕ) → length v ≡ n → lanes v n ≡ map is_stop v
lanes_are [] zero e = refl
lanes_are [] (suc n) e = absurd (omega (arith, e))
lanes_are (x ∷ xs) zero e = absurd (omega (arith, e))
lanes_are (x ∷ xs) (suc n) e = ap₂ (λ (b : Bool) bs. b ∷ bs)
    (top_of_three (eqb x 34) (eqb x 92) (ltb x 32)) (lanes_are xs n (omega (arith, e)))

-- where no byte needs an escape, no lane is marked
plain_mask : (xs : List ℕ) → PlainBetween xs 0 (length xs) → mask_l (map is_stop xs) ≡ 0
plain_mask [] h = refl
plain_mask (x ∷ xs) h =
    let none : is_stop x ≡ false = not-true (is_stop x) (h 0 (omega arith) (omega arith)) in
    let rest = plain_mask xs (λ k p q. h (suc k) (omega arith) (omega arith)) in
    ap (λ b. cond b 1 0 + 2 * mask_l (map is_stop xs)) none ∙ omega (arith, rest)

-- the bytes of a vector need no escape where those of the text that it is of need none
plain_chunk : (d : List ℕ) (i n : ℕ) → i + n ≤ length d → PlainBetween d i (i + n) →
    PlainBetween (chunk i n d) 0 (length (chunk i n d))
plain_chunk d i n room h k p q =
    let long = length-chunk i n d room in
    ap is_plain (get_or-take n (drop i d) k 0 (omega (arith, long, q)) ∙ get_or-drop i d k 0)
    ∙ h (i + k) (omega arith) (omega (arith, long, q))

-- an answer that is yes says what holds then
on_true : (b : Bool) (P : Type 0) → b ≡ true → OnTrue b P → P
on_true true P e h = h
on_true false P e h = absurd cc

-- the three tests of a vector tell whether its bytes need no escape
pub tells_from_lanes : (d : List ℕ) (i n : ℕ) → i + n ≤ length d → n ≤ 64 →
    ((k : ℕ) → Fits w8 (get_or d k 0)) →
    TellsPlain (mask_l (lanes (chunk i n d) n) % 2 ^ 64 == 0) d i (i + n)
tells_from_lanes d i n room few fits = go (mask_l (lanes (chunk i n d) n) % 2 ^ 64 == 0) refl where
  go : (b : Bool) → (mask_l (lanes (chunk i n d) n) % 2 ^ 64 == 0) ≡ b → TellsPlain b d i (i + n)
  go true e = on_true _ _ e (plain_from_lanes d i n room few fits)
  go false e = λ h.
      let v = chunk i n d in
      let long = length-chunk i n d room in
      let mask : mask_l (lanes v n) % 2 ^ 64 ≡ mask_l (map is_stop v) =
      ap (λ l. mask_l l % 2 ^ 64) (lanes_are v n long)
      ∙ mask_l-mod (map is_stop v) 64 (omega (arith, few, long, length-map v is_stop)) in
      eqb-false _ 0 e (mask ∙ plain_mask v (plain_chunk d i n room h))

-- the first n bytes and the last n are all
pub tells_both_ends : (d : List ℕ) (b : Bool) (n : ℕ) → n ≤ length d → length d < n + n →
    PlainBetween d 0 n → TellsPlain b d (length d - n) ((length d - n) + n) →
    TellsPlain b d 0 (length d)
tells_both_ends d true n low high front back =
    λ k from to. elim (cases_lt k n) [
      | inl h ↦ front k from h
      | inr h ↦ back k (omega (arith, h, high)) (omega (arith, to, low))
    ]
tells_both_ends d false n low high front back =
    λ h. back (λ k from to. h k (omega arith) (omega (arith, to, low)))

-- where the first n bytes are not all plain, the text isn't
pub tells_front : (d : List ℕ) (b : Bool) (n : ℕ) → b ≡ false → n ≤ length d →
    TellsPlain b d 0 n → TellsPlain b d 0 (length d)
tells_front d true n is_no low front = absurd cc
tells_front d false n is_no low front = λ h. front (λ k from to. h k from (omega (arith, to, low)))

-- ---- what stands for a byte is as long as it is, and longer where it needs an escape

-- what stands for a byte is not nothing
byte_length : (x : ℕ) → 1 ≤ length (escape_byte x)
unfolding escape_byte
byte_length x = by (nat_lt 0 (escape_letter x)) (nat_lt x 32) where
  by : (a b : Bool) → 1 ≤ length (cond {A = List ℕ} a (92 ∷ escape_letter x ∷ [])
      (cond b (92 ∷ 117 ∷ 48 ∷ 48 ∷ digit_char (x / 16) ∷ digit_char (x % 16) ∷ []) (x ∷ [])))
  by true b = omega arith
  by false true = omega arith
  by false false = omega arith

-- a control character takes two at least
control_length : (x : ℕ) → nat_lt x 32 ≡ true → 2 ≤ length (escape_byte x)
unfolding escape_byte
control_length x e = by (nat_lt 0 (escape_letter x)) (nat_lt x 32) e where
  by : (a b : Bool) → b ≡ true → 2 ≤ length (cond {A = List ℕ} a (92 ∷ escape_letter x ∷ [])
      (cond b (92 ∷ 117 ∷ 48 ∷ 48 ∷ digit_char (x / 16) ∷ digit_char (x % 16) ∷ []) (x ∷ [])))
  by true b f = omega arith
  by false true f = omega arith
  by false false f = absurd cc

-- so does a quotation mark
quote_length : 2 ≤ length (escape_byte 34)
unfolding escape_byte
quote_length = omega arith

-- and a backslash
backslash_length : 2 ≤ length (escape_byte 92)
unfolding escape_byte
backslash_length = omega arith

-- so each byte that needs an escape does
stop_length : (x : ℕ) → is_stop x ≡ true → 2 ≤ length (escape_byte x)
stop_length x e = by (cases_eq x 34) (cases_eq x 92) where
  by : (x ≡ 34) ⊎ (x ≡ 34 → ⊥) → (x ≡ 92) ⊎ (x ≡ 92 → ⊥) → 2 ≤ length (escape_byte x)
  by (inl q) b = rw q quote_length
  by (inr q) (inl b) = rw b backslash_length
  by (inr q) (inr b) = control_length x (rw (ne_eqb x 34 q, ne_eqb x 92 b) at e)

-- what stands for a text is no shorter than it
grows : (d : List ℕ) → length d ≤ length (escape d)
grows [] = omega arith
grows (x ∷ xs) =
    omega (arith, length-append (escape_byte x) (escape xs), byte_length x, grows xs)

-- a text that is its own escape has no first byte that needs one
plain_from : (x : ℕ) (xs : List ℕ) (b : Bool) → is_stop x ≡ b → escape (x ∷ xs) ≡ x ∷ xs →
    (escape xs ≡ xs → PlainBetween xs 0 (length xs)) → PlainBetween (x ∷ xs) 0 (length (x ∷ xs))
plain_from x xs true s e rest = absurd (omega (
  arith,
  ap length e,
  length-append (escape_byte x) (escape xs),
  stop_length x s,
  grows xs,
))
plain_from x xs false s e rest =
    let none = or_parts _ _ s in
    let tests = or_parts (x == 34) _ none.0 in
    let same = escape_byte_plain x (eqb-false x 34 tests.0) (eqb-false x 92 tests.1)
    (ltb-false x 32 none.1) in
    by (rest (ap (drop 1) (ap (λ l. l ++ escape xs) (sym same) ∙ e)))
  where
    by : PlainBetween xs 0 (length xs) → PlainBetween (x ∷ xs) 0 (length (x ∷ xs))
    by h zero p q = ap (λ b. not b) s
    by h (suc k) p q = h k (omega arith) (omega arith)

-- and no other
as_is_plain : (d : List ℕ) → escape d ≡ d → PlainBetween d 0 (length d)
as_is_plain [] e = λ k p q. absurd (omega arith)
as_is_plain (x ∷ xs) e = plain_from x xs (is_stop x) refl e (as_is_plain xs)

-- an answer that tells whether bytes need an escape tells whether the text is its own
pub tells_as_is : (b : Bool) (d : List ℕ) → TellsPlain b d 0 (length d) → TellsAsIs b d
tells_as_is true d h = escape_on_plain true d h
tells_as_is false d h = λ e. h (as_is_plain d e)

-- The modes of compact integers: how long the shortest is, and that no other mode of its length has
-- its number.
use Rattle.std.proofs.Common.{◌≡◌, ℕ, zero, suc, ◌+◌, ◌-◌, ◌*◌, ◌/◌, ◌%◌, ◌^◌, ◌<◌, ◌≤◌, List, []}
use Rattle.std.proofs.Common.{◌∷◌, length, refl, sym, ap, ◌∙◌, arith, inl, inr}
use Rattle.std.proofs.lemmas.Bool.{cases_lt, le-ltb, lt-ltb, ne_eqb}
use Rattle.std.proofs.lemmas.Bool.Decides.{nat_tests}
use Rattle.std.proofs.Math.Nat.{pow-suc, pow-le-pow_right}
use Rattle.std.proofs.Math.Pow.{pow_mono}
use Rattle.std.proofs.lemmas.Nat.{pow-add}
use Rattle.scale_core.specs.Compact.{compact, bytes_needed, big_bytes}
use Rattle.scale_core.specs.Number.{AreBytes, number, le_bytes}
use Rattle.scale_core.specs.Read.{mode_len, mode_number}
use Rattle.scale_core.proofs.Again.{form_of}
use Rattle.scale_core.proofs.Numbers.{length-le_bytes, number_one, bytes_needed-le, le_bytes-are}
use Rattle.scale_core.proofs.Numbers.{bytes_needed-enough}

-- 2 to eight times a count of bytes is 256 to that count
pow-bytes : (k : ℕ) → 2 ^ (8 * k) ≡ 256 ^ k
pow-bytes zero = refl
pow-bytes (suc k) =
    let next : 8 * suc k ≡ 8 * k + 8 = omega arith in
    rw (next, pow-add 2 (8 * k) 8, pow-bytes k, pow-suc 256 k) refl

-- a number whose highest byte stands k bytes up
bytes_needed-is : (w k n : ℕ) → k < w → 256 ^ k ≤ n → n < 256 ^ suc k → bytes_needed w n ≡ suc k
bytes_needed-is w k n less ge h =
    let most : bytes_needed w n ≤ suc k = bytes_needed-le w (suc k) n h in
    let fits : n < 256 ^ w =
    omega (arith, h, pow-le-pow_right {n = 256} (omega arith) {i = suc k} {j = w} (omega arith))
    in
    let enough : n < 256 ^ bytes_needed w n = bytes_needed-enough w n fits in
    elim (cases_lt k (bytes_needed w n)) [
      | inl more ↦ omega arith
      | inr fewer ↦ absurd (omega (
        arith,
        pow-le-pow_right {n = 256} (omega arith) {i = bytes_needed w n} {j = k} fewer,
      ))
    ]

-- ---- the shortest mode, and how long it is

-- a number below 64 is spelled in one byte, with the mark 0
pub compact-one : (n : ℕ) → n < 64 → compact n ≡ 4 * n ∷ []
unfolding compact
compact-one n h = rw (lt-ltb n 64 h) refl

-- a number from 64 to below 2^14 is spelled in two bytes, with the mark 1
pub compact-two : (n : ℕ) → 64 ≤ n → n < 2 ^ 14 → compact n ≡ le_bytes 2 (4 * n + 1)
unfolding compact
compact-two n ge h = rw (le-ltb n 64 ge, lt-ltb n (2 ^ 14) h) refl

-- a number from 2^14 to below 2^30 is spelled in four bytes, with the mark 2
pub compact-four : (n : ℕ) → 2 ^ 14 ≤ n → n < 2 ^ 30 → compact n ≡ le_bytes 4 (4 * n + 2)
unfolding compact
compact-four n ge h = rw (le-ltb n 64 (omega arith), le-ltb n (2 ^ 14) ge, lt-ltb n (2 ^ 30) h) refl

-- a number from 2^30 on is spelled as the count of its bytes, with the mark 3, and these bytes
pub compact-big : (n : ℕ) → 2 ^ 30 ≤ n →
    compact n ≡ (4 * (big_bytes n - 4) + 3) ∷ le_bytes (big_bytes n) n
unfolding compact
compact-big n ge = rw (
  le-ltb n 64 (omega arith),
  le-ltb n (2 ^ 14) (omega arith),
  le-ltb n (2 ^ 30) ge,
) refl

-- the spelling of a number below 64 has one byte
pub length-compact-one : (n : ℕ) → n < 64 → length (compact n) ≡ 1
length-compact-one n h = ap length (compact-one n h)

-- the spelling of a number from 64 to below 2^14 has two bytes
pub length-compact-two : (n : ℕ) → 64 ≤ n → n < 2 ^ 14 → length (compact n) ≡ 2
length-compact-two n ge h = ap length (compact-two n ge h)

-- the spelling of a number from 2^14 to below 2^30 has four bytes
pub length-compact-four : (n : ℕ) → 2 ^ 14 ≤ n → n < 2 ^ 30 → length (compact n) ≡ 4
length-compact-four n ge h = ap length (compact-four n ge h)

-- the spelling of a number from 2^30 on has a byte more than the number's own bytes
pub length-compact-big : (n : ℕ) → 2 ^ 30 ≤ n → length (compact n) ≡ suc (big_bytes n)
length-compact-big n ge = ap length (compact-big n ge)
    ∙ ap (λ (k : ℕ). suc k) (length-le_bytes (big_bytes n) n)

-- by the place of the highest bit
pub bits-least : (n r : ℕ) → 2 ^ 30 ≤ n → n < 2 * 2 ^ r → 4 ≤ r / 8 + 1
bits-least n r big h = elim (cases_lt r 30) [
  | inl less ↦ absurd (omega (arith, pow-suc 2 r, pow_mono {i = suc r} {j = 30} (omega arith)))
  | inr ge ↦ omega arith
]

-- a number whose highest bit is known needs as many bytes as hold that bit
pub big_bytes-bits : (n r : ℕ) → 2 ^ 30 ≤ n → 2 ^ r ≤ n → n < 2 * 2 ^ r → r < 128 →
    big_bytes n ≡ r / 8 + 1
big_bytes-bits n r big ge h small =
    let k = r / 8 in
    let low : 256 ^ k ≤ 2 ^ r =
    rw (sym (pow-bytes k)) (pow_mono {i = 8 * k} {j = r} (omega arith)) in
    let double : 2 ^ suc r ≡ 2 ^ r * 2 = pow-suc 2 r in
    let high : 2 ^ suc r ≤ 256 ^ suc k =
    rw (sym (pow-bytes (suc k))) (pow_mono {i = suc r} {j = 8 * suc k} (omega arith)) in
    let needed : bytes_needed 16 n ≡ suc k =
    bytes_needed-is 16 k n (omega arith) (omega arith) (omega arith) in
    omega (arith, needed, bits-least n r big h)

-- ---- which mode is the shortest

-- a number is never said to need more bytes than it may have
bytes_needed-bound : (k n : ℕ) → bytes_needed k n ≤ k
bytes_needed-bound zero n = omega arith
bytes_needed-bound (suc k) n = elim (cases_lt n (256 ^ k)) [
  | inl lt ↦ rw (lt-ltb n (256 ^ k) lt) (omega (arith, bytes_needed-bound k n))
  | inr le ↦ rw (le-ltb n (256 ^ k) le) (omega arith)
]

-- the spelling of a compact integer is bytes
pub are_compact : (n : ℕ) → AreBytes (compact n)
unfolding compact
are_compact n = elim (cases_lt n 64) [
  | inl lt ↦ rw (lt-ltb n 64 lt) (omega arith, tt)
  | inr ge ↦ rw (le-ltb n 64 ge) (elim (cases_lt n (2 ^ 14)) [
    | inl lt ↦ rw (lt-ltb n (2 ^ 14) lt) (le_bytes-are 2 (4 * n + 1))
    | inr ge ↦ rw (le-ltb n (2 ^ 14) ge) (elim (cases_lt n (2 ^ 30)) [
      | inl lt ↦ rw (lt-ltb n (2 ^ 30) lt) (le_bytes-are 4 (4 * n + 2))
      | inr ge ↦ rw (le-ltb n (2 ^ 30) ge)
          (omega (arith, bytes_needed-bound 16 n), le_bytes-are (big_bytes n) n)
    ])
  ])
]

-- first bytes that name modes of one length have the same mark
same_mode : (a b : ℕ) → mode_len a ≡ mode_len b → a % 4 ≡ b % 4
same_mode a b e = grind (arith, nat_tests)

-- a mode is known by its length and its number
same_form : (a : ℕ) (s : List ℕ) (b : ℕ) (t : List ℕ) → AreBytes (a ∷ s) → AreBytes (b ∷ t) →
    length (a ∷ s) ≡ mode_len a → length (b ∷ t) ≡ mode_len b →
    mode_len a ≡ mode_len b → mode_number (a ∷ s) ≡ mode_number (b ∷ t) → a ∷ s ≡ b ∷ t
same_form a s b t h k len len' one same =
    let mode = same_mode a b one in
    elim (cases_lt (a % 4) 3) [
      | inl lt ↦
          let e : number (a ∷ s) / 4 ≡ number (b ∷ t) / 4 =
          rw (ne_eqb (a % 4) 3 (λ e. omega arith), ne_eqb (b % 4) 3 (λ e. omega arith)) at
          same in
          number_one (a ∷ s) (b ∷ t) h k (len ∙ one ∙ sym len') (omega (arith, e))
      | inr ge ↦
          let three : a % 4 ≡ 3 = omega arith in
          let three' : b % 4 ≡ 3 = omega arith in
          let long : a / 4 + 5 ≡ b / 4 + 5 = rw (three, three') at one in
          let first : a ≡ b = omega (arith, long) in
          let tails : number s ≡ number t = rw (three, three') at same in
          let all : length (a ∷ s) ≡ length (b ∷ t) = len ∙ one ∙ sym len' in
          let tail : s ≡ t = number_one s t h.1 k.1 (omega (arith, all)) tails in
          cc
    ]

-- a mode as long as the spelling of its number is that spelling
pub shortest_mode : (a : ℕ) (s : List ℕ) (n : ℕ) → AreBytes (a ∷ s) → length (a ∷ s) ≡ mode_len a →
    n ≡ mode_number (a ∷ s) → n < 2 ^ 128 →
    length (compact n) ≡ mode_len a → compact n ≡ a ∷ s
shortest_mode a s n h len value small same =
    let f = form_of n small in
    let spelled : AreBytes (f.0 ∷ f.1) = rw f.2.is at (are_compact n) in
    let one : mode_len f.0 ≡ mode_len a = sym f.2.len ∙ ap length (sym f.2.is) ∙ same in
    f.2.is ∙ same_form f.0 f.1 a s spelled h f.2.len len one (f.2.value ∙ value)

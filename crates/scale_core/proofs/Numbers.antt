-- Bytes of numbers, and back.
use Rattle.std.proofs.Common.{◌≡◌, ℕ, zero, suc, ◌+◌, ◌-◌, ◌*◌, ◌/◌, ◌%◌, ◌^◌, ◌<◌, ◌≤◌}
use Rattle.std.proofs.Common.{List, [], ◌∷◌, ◌++◌, length, refl, sym, ap, ◌∙◌, arith}
use Rattle.std.proofs.Common.{inl, inr}
use Rattle.std.specs.Prelude.{ℤ, pos, negsuc, neg_ℤ}
use Rattle.std.proofs.lemmas.Bool.{cases_lt, le-ltb, lt-ltb}
use Rattle.std.proofs.Math.Nat.{pow-suc, pow-le-pow_right}
use Rattle.scale_core.specs.Compact.{bytes_needed}
use Rattle.scale_core.specs.Number.{AreBytes, number, le_bytes, signed_number, signed_bytes}
use Rattle.scale_core.specs.Laws.{FitsSigned, NumberIsSpelled, SignedIsSpelled}

-- a number has as many bytes as are asked for
pub length-le_bytes : (k n : ℕ) → length (le_bytes k n) ≡ k
length-le_bytes zero n = refl
length-le_bytes (suc k) n = ap (λ (x : ℕ). suc x) (length-le_bytes k (n / 256))

-- the bytes of a number that fits them are the number again
pub number-le_bytes : (k n : ℕ) → n < 256 ^ k → number (le_bytes k n) ≡ n
number-le_bytes zero n h = omega arith
number-le_bytes (suc k) n h =
    let big : n < 256 ^ k * 256 = rw pow-suc at h in
    let ih = number-le_bytes k (n / 256) (omega arith) in
    omega (arith, ih)

-- a number that fits some bytes needs no more than these
pub bytes_needed-le : (k j n : ℕ) → n < 256 ^ j → bytes_needed k n ≤ j
bytes_needed-le zero j n h = omega arith
bytes_needed-le (suc k) j n h = elim (cases_lt n (256 ^ k)) [
  | inl lt ↦ rw (lt-ltb n (256 ^ k) lt) (bytes_needed-le k j n h)
  | inr le ↦ rw (le-ltb n (256 ^ k) le)
      (elim (cases_lt k j) [
        | inl k-lt ↦ omega arith
        | inr j-le ↦
            absurd (omega (arith, pow-le-pow_right {n = 256} (omega arith) {i = j} {j = k} j-le))
      ])
]

-- a number fits the bytes that it is said to need, where it fits those that it may have
pub bytes_needed-enough : (k n : ℕ) → n < 256 ^ k → n < 256 ^ bytes_needed k n
bytes_needed-enough zero n h = h
bytes_needed-enough (suc k) n h = elim (cases_lt n (256 ^ k)) [
  | inl lt ↦ rw (lt-ltb n (256 ^ k) lt) (bytes_needed-enough k n lt)
  | inr le ↦ rw (le-ltb n (256 ^ k) le) h
]

-- ---- lists of bytes

-- where a list is of bytes, what is left after a front is
pub rest_bytes : (c rest : List ℕ) → AreBytes (c ++ rest) → AreBytes rest
rest_bytes [] rest h = h
rest_bytes (x ∷ c) rest h = rest_bytes c rest h.1

-- where a list is of bytes, its front is
pub front_bytes : (c rest : List ℕ) → AreBytes (c ++ rest) → AreBytes c
front_bytes [] rest h = tt
front_bytes (x ∷ c) rest h = (h.0, front_bytes c rest h.1)

-- two lists of bytes are one after the other a list of bytes
pub both_bytes : (xs ys : List ℕ) → AreBytes xs → AreBytes ys → AreBytes (xs ++ ys)
both_bytes [] ys h k = k
both_bytes (x ∷ xs) ys h k = (h.0, both_bytes xs ys h.1 k)

-- the bytes of the number that some bytes are, are these bytes again
pub le_bytes-number : (c : List ℕ) → AreBytes c → le_bytes (length c) (number c) ≡ c
le_bytes-number [] h = refl
le_bytes-number (x ∷ c) h =
    let low : (x + 256 * number c) % 256 ≡ x = omega (arith, h.0) in
    let high : (x + 256 * number c) / 256 ≡ number c = omega (arith, h.0) in
    rw (low, high, le_bytes-number c h.1) refl

-- the number that some bytes are is below 256 to their count
pub number-bound : (c : List ℕ) → AreBytes c → number c < 256 ^ length c
number-bound [] h = omega arith
number-bound (x ∷ c) h = rw (pow-suc 256 (length c)) (omega (arith, h.0, number-bound c h.1))

-- as many bytes that spell one number are one list
pub number_one : (a b : List ℕ) → AreBytes a → AreBytes b → length a ≡ length b →
    number a ≡ number b → a ≡ b
number_one a b h k len same = sym (le_bytes-number a h) ∙ ap (λ (n : ℕ). le_bytes n (number a)) len
    ∙ ap (le_bytes (length b)) same ∙ le_bytes-number b k

-- the negative of a positive number, as the integers have it
pub neg-pos : (x : ℕ) → 0 < x → neg_ℤ (pos x) ≡ negsuc (x - 1)
neg-pos zero h = absurd (omega arith)
neg-pos (suc x) h = ap negsuc (omega arith)

-- ---- the laws of fixed widths

-- the bytes of a number are bytes
pub le_bytes-are : (k n : ℕ) → AreBytes (le_bytes k n)
le_bytes-are zero n = tt
le_bytes-are (suc k) n = (omega arith, le_bytes-are k (n / 256))

-- a number is spelled by its bytes, and bytes are those of the number that they spell
pub number_is_spelled : NumberIsSpelled
number_is_spelled = record {
  spelled = λ k n h. (le_bytes-are k n, length-le_bytes k n, number-le_bytes k n h);
  read = λ b h. (number-bound b h, le_bytes-number b h);
}

-- an integer that fits is what its bytes in two's complement spell
signed_spelled : (k : ℕ) (x : ℤ) → FitsSigned k x → AreBytes (signed_bytes k x)
    × (length (signed_bytes k x) ≡ k) × (signed_number (signed_bytes k x) ≡ x)
signed_spelled k (pos n) h = (
  le_bytes-are k n,
  length-le_bytes k n,
  rw (
    length-le_bytes k n,
    number-le_bytes k n (omega (arith, h)),
    lt-ltb (2 * n) (256 ^ k) h,
  ) refl,
)
signed_spelled k (negsuc n) h = let range = 256 ^ k in (
  le_bytes-are k (range - suc n),
  length-le_bytes k (range - suc n),
  rw (
    length-le_bytes k (range - suc n),
    number-le_bytes k (range - suc n) (omega (arith, h)),
    le-ltb (2 * (range - suc n)) range (omega (arith, h)),
  )
      (neg-pos (range - (range - suc n)) (omega (arith, h))
      ∙ ap negsuc (omega (arith, h))),
)

-- bytes are those of the integer that they spell in two's complement
signed_read : (b : List ℕ) → AreBytes b → FitsSigned (length b) (signed_number b)
    × (signed_bytes (length b) (signed_number b) ≡ b)
signed_read b h = let n = number b in let range = 256 ^ length b in
    let bound : n < range = number-bound b h in elim (cases_lt (2 * n) range) [
      | inl lt ↦ rw (lt-ltb (2 * n) range lt) (lt, le_bytes-number b h)
      | inr le ↦
          let again : le_bytes (length b) (range - suc (range - n - 1)) ≡ b =
          ap (le_bytes (length b)) (omega (arith, bound)) ∙ le_bytes-number b h in
          rw (
            le-ltb (2 * n) range le,
            neg-pos (range - n) (omega (arith, bound)),
          ) (omega (arith, bound, le), again)
    ]

-- the same of integers in two's complement
pub signed_is_spelled : SignedIsSpelled
signed_is_spelled = record { spelled = signed_spelled; read = signed_read }

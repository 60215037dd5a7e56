-- Compact integers that stand whole on the front of a piece, as they are read off one word.
use Rattle.std.proofs.Common.{◌≡◌, ℕ, zero, suc, ◌+◌, ◌-◌, ◌*◌, ◌/◌, ◌%◌, ◌^◌, ◌<◌, ◌≤◌, false}
use Rattle.std.proofs.Common.{List, [], ◌∷◌, length, take, drop, refl, sym, ap, ◌∙◌, arith, bit_and}
use Rattle.std.proofs.Common.{Ok, inl, inr}
use Rattle.std.specs.Prelude.{◌≢◌, ◌==◌}
use Rattle.std.proofs.lemmas.Bool.{cases_lt, eq-eqb, le-ltb, lt-ltb, ne_eqb}
use Rattle.std.proofs.lemmas.Nat.{and_mask, mod-pow-add}
use Rattle.std.proofs.Math.Nat.{pow-le-pow_right, zero-mod}
use Rattle.std.proofs.Math.Pow.{mod-mod-pow}
use Rattle.scale_core.specs.Compact.{bytes_needed, compact, target_bytes}
use Rattle.scale_core.specs.Number.{AreBytes, number}
use Rattle.scale_core.specs.Read.{mode_len, mode_number, is_too_long, number_at}
use Rattle.scale_core.specs.declared.compact.Target.{Target}
use Rattle.scale_core.specs.declared.compact.Target.TheVariants as target
use Rattle.scale_core.proofs.Modes.{length-compact-one, length-compact-two}
use Rattle.scale_core.proofs.Modes.{length-compact-four, length-compact-big}
use Rattle.scale_core.proofs.ReadModes.{compact_at-integer, integer_at-judged, long_number}
use Rattle.scale_core.proofs.ReadModes.{not_too_long}
use Rattle.form_core.specs.WholeCompacts.{IsCompactAtFront}

-- the number of the first bytes is what their bits of the number of all are
number_take : (k : ℕ) (bytes : List ℕ) → AreBytes bytes →
    number (take k bytes) ≡ number bytes % 2 ^ (8 * k)
number_take zero bytes h = omega arith
number_take (suc k) [] h = sym (zero-mod (2 ^ (8 * suc k)))
number_take (suc k) (b ∷ bytes) h =
    let next : 8 * suc k ≡ 8 * k + 8 = omega arith in
    let ih = number_take k bytes h.1 in
    let rest : (b + 256 * number bytes) / 2 ^ 8 ≡ number bytes = omega (arith, h.0) in
    let low : (b + 256 * number bytes) % 2 ^ 8 ≡ b = omega (arith, h.0) in
    rw (next, mod-pow-add (b + 256 * number bytes) (8 * k) 8, rest, low, ih) (omega arith)

-- so it is of the number of more of them
front_number : (k w : ℕ) (bytes : List ℕ) → AreBytes bytes → k ≤ w →
    number (take k bytes) ≡ number (take w bytes) % 2 ^ (8 * k)
front_number k w bytes h few =
    let split : 8 * w ≡ 8 * w - 8 * k + 8 * k = omega (arith, few) in
    number_take k bytes h
    ∙ sym (mod-mod-pow (number bytes) (8 * w - 8 * k) (8 * k))
    ∙ ap (λ (j : ℕ). number bytes % 2 ^ j % 2 ^ (8 * k)) (sym split)
    ∙ ap (λ (x : ℕ). x % 2 ^ (8 * k)) (sym (number_take w bytes h))

-- a word that is read is the number that so many bytes spell
pub word_is : (k : ℕ) (bytes : List ℕ) (word : ℕ) (rest : List ℕ) →
    number_at k bytes ≡ Ok (word, rest) → (k ≤ length bytes) × (word ≡ number (take k bytes))
word_is k bytes word rest h = elim (cases_lt (length bytes) k) [
  | inl less ↦ let h' = rw (lt-ltb (length bytes) k less) at h in absurd cc
  | inr more ↦
      let h' = rw (le-ltb (length bytes) k more) at h in
      let pair : (word, rest) ≡ (number (take k bytes), drop k bytes) = cc in
      (more, ap (λ (x : ℕ × List ℕ). x.0) pair)
]

-- where a form is judged the one spelling, and its number fits the target, it stands there
judged_is : (m : Target) (first : ℕ) (rest : List ℕ) (n len : ℕ) → AreBytes (first ∷ rest) →
    m ≢ target.Unit → is_too_long m first ≡ false → len ≡ mode_len first →
    len ≤ length (first ∷ rest) → n ≡ mode_number (take len (first ∷ rest)) → n < 2 ^ 128 →
    length (compact n) ≡ len → n < 256 ^ target_bytes m → IsCompactAtFront m (first ∷ rest) n len
judged_is m first rest n len are other fits long there value small shortest holds = record {
  within = there;
  fits = holds;
  read = compact_at-integer m (first ∷ rest) other
      ∙ integer_at-judged m (first ∷ rest) first n len are refl fits long there value small
      ∙ rw (
        eq-eqb len (length (compact n)) (sym shortest),
        lt-ltb n (256 ^ target_bytes m) holds,
      ) refl;
}

-- a number of at most 30 bits fits a target of four bytes or more
word_fits : (m : Target) (n : ℕ) → 4 ≤ target_bytes m → n < 2 ^ 30 → n < 256 ^ target_bytes m
word_fits m n wide small =
    omega (arith, small, pow-le-pow_right {n = 256} (omega arith) {i = 4} {j = target_bytes m} wide)

-- a target of four bytes or more has some
has_bytes : (m : Target) → 4 ≤ target_bytes m → m ≢ target.Unit
has_bytes target.Unit wide e = omega (arith, wide)
has_bytes _ wide e = absurd cc

-- the form of few bytes whose number is read off four
few_is : (m : Target) (first : ℕ) (rest : List ℕ) (word n k : ℕ) → AreBytes (first ∷ rest) →
    4 ≤ length (first ∷ rest) → word ≡ number (take 4 (first ∷ rest)) → word % 4 < 3 → suc k ≤ 4 →
    suc k ≡ mode_len first → n ≡ word % 2 ^ (8 * suc k) / 4 → n < 2 ^ 30 →
    length (compact n) ≡ suc k → 4 ≤ target_bytes m → IsCompactAtFront m (first ∷ rest) n (suc k)
few_is m first rest word n k are there value mark few long is small shortest wide =
    let low : first % 4 ≡ word % 4 = omega (arith, value) in
    let short : first % 4 < 3 = omega (arith, low, mark) in
    let no_third : (first % 4 == 3) ≡ false = ne_eqb (first % 4) 3 (λ e. omega (arith, short, e)) in
    let front : number (take (suc k) (first ∷ rest)) ≡ word % 2 ^ (8 * suc k) =
    front_number (suc k) 4 (first ∷ rest) are few
    ∙ ap (λ (w : ℕ). w % 2 ^ (8 * suc k)) (sym value) in
    let named : mode_number (take (suc k) (first ∷ rest)) ≡ n =
    rw no_third (ap (λ (w : ℕ). w / 4) front ∙ sym is) in
    judged_is m first rest n (suc k) are (has_bytes m wide) (rw no_third refl) long
    (omega (arith, few, there)) (sym named) (omega (arith, small)) shortest
    (word_fits m n wide small)

-- the form that the mark in a word's two low bits names, where no shorter form has its number
pub short_is : (m : Target) (first : ℕ) (rest : List ℕ) (word mark : ℕ) → AreBytes (first ∷ rest) →
    4 ≤ length (first ∷ rest) → word ≡ number (take 4 (first ∷ rest)) → mark ≡ word % 4 → mark ≢ 3 →
    1 * 2 ^ (8 * mark) % 4294967296 / 4
    ≤ bit_and word (4294967295 / 2 ^ (32 - 8 * (1 * 2 ^ mark % 18446744073709551616))) / 4 →
    4 ≤ target_bytes m → IsCompactAtFront m (first ∷ rest)
    (bit_and word (4294967295 / 2 ^ (32 - 8 * (1 * 2 ^ mark % 18446744073709551616))) / 4)
    (1 * 2 ^ mark % 18446744073709551616)
short_is m first rest word zero are there value is other least wide =
    let kept : bit_and word 255 ≡ word % 2 ^ 8 = and_mask word 8 in
    let mark : first % 4 ≡ 0 = omega (arith, value, is) in
    few_is m first rest word (bit_and word 255 / 4) 0 are there value (omega (arith, is))
    (omega arith) (rw mark refl) (ap (λ (w : ℕ). w / 4) kept) (omega (arith, kept))
    (length-compact-one _ (omega (arith, kept))) wide
short_is m first rest word (suc zero) are there value is other least wide =
    let kept : bit_and word 65535 ≡ word % 2 ^ 16 = and_mask word 16 in
    let mark : first % 4 ≡ 1 = omega (arith, value, is) in
    few_is m first rest word (bit_and word 65535 / 4) 1 are there value (omega (arith, is))
    (omega arith) (rw mark refl) (ap (λ (w : ℕ). w / 4) kept) (omega (arith, kept))
    (length-compact-two _ least (omega (arith, kept))) wide
short_is m first rest word (suc (suc zero)) are there value is other least wide =
    let kept : bit_and word 4294967295 ≡ word % 2 ^ 32 = and_mask word 32 in
    let mark : first % 4 ≡ 2 = omega (arith, value, is) in
    few_is m first rest word (bit_and word 4294967295 / 4) 3 are there value (omega (arith, is))
    (omega arith) (rw mark refl) (ap (λ (w : ℕ). w / 4) kept) (omega (arith, kept))
    (length-compact-four _ least (omega (arith, kept))) wide
short_is m first rest word (suc (suc (suc zero))) are there value is other least wide =
    absurd (other refl)
short_is m first rest word (suc (suc (suc (suc mark)))) are there value is other least wide =
    absurd (omega (arith, is))

-- so it is of a piece whose first four bytes were read
pub short_read : (m : Target) (piece : List ℕ) (word count : ℕ) → AreBytes piece →
    (count ≤ length piece) × (number_at 4 piece ≡ Ok (word, drop count piece)) → word % 4 ≢ 3 →
    1 * 2 ^ (8 * (word % 4)) % 4294967296 / 4
    ≤ bit_and word (4294967295 / 2 ^ (32 - 8 * (1 * 2 ^ (word % 4) % 18446744073709551616))) / 4 →
    4 ≤ target_bytes m → IsCompactAtFront m piece
    (bit_and word (4294967295 / 2 ^ (32 - 8 * (1 * 2 ^ (word % 4) % 18446744073709551616))) / 4)
    (1 * 2 ^ (word % 4) % 18446744073709551616)
short_read m [] word count are read other least wide =
    absurd (omega (arith, (word_is 4 [] word (drop count []) read.1).0))
short_read m (first ∷ rest) word count are read other least wide =
    let is = word_is 4 (first ∷ rest) word (drop count (first ∷ rest)) read.1 in
    short_is m first rest word (word % 4) are is.0 is.1 refl other least wide

-- such a form has at most four bytes
pub short_len : (mark : ℕ) → mark < 4 → mark ≢ 3 →
    8 * (1 * 2 ^ mark % 18446744073709551616) ≤ 32
short_len zero less other = omega arith
short_len (suc zero) less other = omega arith
short_len (suc (suc zero)) less other = omega arith
short_len (suc (suc (suc zero))) less other = absurd (other refl)
short_len (suc (suc (suc (suc mark)))) less other = absurd (omega (arith, less))

-- ---- the fourth form, of at most eight bytes after the first one

-- the mask that leaves as many bytes
mask_is : (q : ℕ) → q + 4 ≤ 8 →
    18446744073709551615 / 2 ^ (64 - 8 * (q + 4)) ≡ 2 ^ (8 * (q + 4)) - 1
mask_is zero h = refl
mask_is (suc zero) h = refl
mask_is (suc (suc zero)) h = refl
mask_is (suc (suc (suc zero))) h = refl
mask_is (suc (suc (suc (suc zero)))) h = refl
mask_is (suc (suc (suc (suc (suc q))))) h = absurd (omega (arith, h))

-- a number whose highest byte stands k bytes up needs one more
needed_is : (d k w n : ℕ) → w ≡ d + k → 256 ^ k ≤ n → n < 256 ^ suc k →
    bytes_needed (suc w) n ≡ suc k
needed_is zero k w n is ge h =
    let same : w ≡ k = omega (arith, is) in
    rw (same, le-ltb n (256 ^ k) ge) refl
needed_is (suc d) k zero n is ge h = absurd (omega (arith, is))
needed_is (suc d) k (suc w) n is ge h =
    let fits : n < 256 ^ suc w = omega (
      arith,
      h,
      pow-le-pow_right {n = 256} (omega arith) {i = suc k} {j = suc w} (omega (arith, is)),
    ) in
    rw (lt-ltb n (256 ^ suc w) fits) (needed_is d k w n (omega (arith, is)) ge h)

-- so many bytes spell a number from 2^30 on whose highest byte is no zero
long_len : (q n : ℕ) → q + 4 ≤ 8 → 2 ^ 30 ≤ n → 256 ^ (q + 3) ≤ n → n < 256 ^ suc (q + 3) →
    length (compact n) ≡ q + 4 + 1
long_len q n few big high low =
    omega (
      arith,
      length-compact-big n big,
      needed_is (12 - q) (q + 3) 15 n (omega (arith, few)) high low,
    )

-- its number is below 256 to the count of its bytes, and no less than 256 to one fewer
bounds : (q n word : ℕ) → q + 4 ≤ 8 → n ≡ word % 2 ^ (8 * (q + 4)) →
    (n / 2 ^ (8 * (q + 4) - 8) ≢ 0) →
    (n < 256 ^ (q + 4)) × (256 ^ (q + 3) ≤ n) × (n < 2 ^ 128)
bounds zero n word few kept high = (omega (arith, kept), omega (arith, high), omega (arith, kept))
bounds (suc zero) n word few kept high =
    (omega (arith, kept), omega (arith, high), omega (arith, kept))
bounds (suc (suc zero)) n word few kept high =
    (omega (arith, kept), omega (arith, high), omega (arith, kept))
bounds (suc (suc (suc zero))) n word few kept high =
    (omega (arith, kept), omega (arith, high), omega (arith, kept))
bounds (suc (suc (suc (suc zero)))) n word few kept high =
    (omega (arith, kept), omega (arith, high), omega (arith, kept))
bounds (suc (suc (suc (suc (suc q))))) n word few kept high = absurd (omega (arith, few))

-- the fourth form, where no shorter form has its number
long_by : (m : Target) (first : ℕ) (rest : List ℕ) (word n q : ℕ) → AreBytes (first ∷ rest) →
    8 ≤ length rest → word ≡ number (take 8 rest) → q ≡ first / 4 → first % 4 ≡ 3 → q + 4 ≤ 8 →
    q + 4 ≤ target_bytes m → n ≡ word % 2 ^ (8 * (q + 4)) → 2 ^ 30 ≤ n →
    (n / 2 ^ (8 * (q + 4) - 8) ≢ 0) → IsCompactAtFront m (first ∷ rest) n (q + 4 + 1)
long_by m first rest word n q are there value is mark few wide kept big high =
    let spelled : number (take (q + 4) rest) ≡ n = front_number (q + 4) 8 rest are.1 few
    ∙ ap (λ (w : ℕ). w % 2 ^ (8 * (q + 4))) (sym value) ∙ sym kept in
    let within = bounds q n word few kept high in
    let next : q + 4 + 1 ≡ suc (q + 4) = omega arith in
    let one : suc (q + 3) ≡ q + 4 = omega arith in
    let named : n ≡ mode_number (take (q + 4 + 1) (first ∷ rest)) = sym spelled
    ∙ long_number (first ∷ rest) first (q + 4) refl mark
    ∙ ap (λ (k : ℕ). mode_number (take k (first ∷ rest))) (sym next) in
    judged_is m first rest n (q + 4 + 1) are (has_bytes m (omega (arith, wide)))
    (not_too_long m first mark (omega (arith, is, wide))) (rw mark (omega (arith, is)))
    (omega (arith, there, few)) named within.2 (long_len q n few big within.1 (rw one within.0))
    (omega (
      arith,
      within.0,
      pow-le-pow_right {n = 256} (omega arith) {i = q + 4} {j = target_bytes m} wide,
    ))

-- its number is what the mask leaves of the eight bytes after the first one
pub long_is : (m : Target) (first : ℕ) (rest : List ℕ) (word q : ℕ) → AreBytes (first ∷ rest) →
    8 ≤ length rest → word ≡ number (take 8 rest) → q ≡ first / 4 → first % 4 ≡ 3 → q + 4 ≤ 8 →
    q + 4 ≤ target_bytes m →
    2 ^ 30 ≤ bit_and word (18446744073709551615 / 2 ^ (64 - 8 * (q + 4))) →
    (bit_and word (18446744073709551615 / 2 ^ (64 - 8 * (q + 4))) / 2 ^ (8 * (q + 4) - 8) ≢ 0) →
    IsCompactAtFront m (first ∷ rest)
    (bit_and word (18446744073709551615 / 2 ^ (64 - 8 * (q + 4)))) (q + 4 + 1)
long_is m first rest word q are there value is mark few wide big high =
    let kept : bit_and word (18446744073709551615 / 2 ^ (64 - 8 * (q + 4)))
    ≡ word % 2 ^ (8 * (q + 4)) =
    ap (bit_and word) (mask_is q few) ∙ and_mask word (8 * (q + 4)) in
    long_by m first rest word (bit_and word (18446744073709551615 / 2 ^ (64 - 8 * (q + 4)))) q are
    there value is mark few wide kept big high

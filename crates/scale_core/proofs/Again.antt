-- What is spelled is read again.
use Rattle.std.proofs.Common.{◌≡◌, ℕ, ◌+◌, ◌-◌, ◌*◌, ◌/◌, ◌%◌, ◌^◌, ◌<◌, ◌≤◌, Bool, true, false}
use Rattle.std.proofs.Common.{ltb, List, [], ◌∷◌, ◌++◌, length, Ok, refl, sym, ◌∙◌, append_assoc}
use Rattle.std.proofs.Common.{arith, inl, inr}
use Rattle.std.specs.Prelude.{nat_lt, ◌==◌, ◌&&◌}
use Rattle.std.specs.Str.{bytes_eq}
use Rattle.std.proofs.lemmas.Bool.{cases_lt, le-ltb, lt-ltb, eqb-true}
use Rattle.std.proofs.lemmas.Slice.Eq.{bytes_eq-Decides}
use Rattle.std.proofs.lemmas.List.{take_at, drop_at, length-append}
use Rattle.std.proofs.Math.Nat.{pow-le-pow_right}
use Rattle.scale_core.specs.Number.{number, le_bytes}
use Rattle.scale_core.specs.Compact.{compact, bytes_needed, big_bytes, target_bytes, IsCompact}
use Rattle.scale_core.specs.Read.{bytes_at, number_at, mode_len, mode_number, is_too_long}
use Rattle.scale_core.specs.Read.{integer_at, compact_at, text_at}
use Rattle.scale_core.specs.declared.compact.Target.{Target}
use Rattle.scale_core.specs.declared.compact.Target.TheVariants.{Unit as TUnit, U8, U16, U32}
use Rattle.scale_core.specs.Text.{IsText}
use Rattle.scale_core.proofs.Numbers.{length-le_bytes, number-le_bytes, bytes_needed-le}
use Rattle.scale_core.proofs.Numbers.{bytes_needed-enough}

-- a run of bytes of the length that is asked for is read again, with the rest left
pub bytes_again : (k : ℕ) (b rest : List ℕ) → length b ≡ k → bytes_at k (b ++ rest) ≡ Ok (b, rest)
bytes_again k b rest len =
    let long : ltb (length (b ++ rest)) k ≡ false =
    le-ltb _ _ (omega (arith, length-append b rest)) in
    rw (long, take_at b rest k len, drop_at b rest k len) refl

-- a mode, by its first byte
pub record IsForm (n first : ℕ) (tail : List ℕ) : Type 0 where
  pub is : compact n ≡ first ∷ tail
  pub len : length (first ∷ tail) ≡ mode_len first
  pub value : mode_number (first ∷ tail) ≡ n
  pub big : first % 4 ≡ 3 → first / 4 + 4 ≡ big_bytes n
  pub is_big : first % 4 ≡ 3 → 2 ^ 30 ≤ n

-- a number below 64 has the mode of one byte
small_form : (n : ℕ) → n < 64 → IsForm n (4 * n) []
unfolding compact
small_form n h =
    let mode : (4 * n) % 4 ≡ 0 = omega arith in
    record {
      is = rw (lt-ltb n 64 h) refl;
      len = rw mode refl;
      value = rw mode (omega arith);
      big =
          λ e. absurd (omega (arith, e));
      is_big = λ e. absurd (omega (arith, e));
    }

-- a number from 64 to below 2^14 has the mode of two bytes
two_form : (n : ℕ) → 64 ≤ n → n < 2 ^ 14 →
    IsForm n ((4 * n + 1) % 256) (le_bytes 1 ((4 * n + 1) / 256))
unfolding compact
two_form n ge h =
    let mode : ((4 * n + 1) % 256) % 4 ≡ 1 = omega arith in
    let all : number (le_bytes 2 (4 * n + 1)) ≡ 4 * n + 1 =
    number-le_bytes 2 (4 * n + 1) (omega arith) in
    record {
      is = rw (le-ltb n 64 ge, lt-ltb n (2 ^ 14) h) refl;
      len = rw mode refl;
      value =
          rw (mode, all) (omega arith);
      big = λ e. absurd (omega (arith, e));
      is_big =
          λ e. absurd (omega (arith, e));
    }

-- a number from 2^14 to below 2^30 has the mode of four bytes
four_form : (n : ℕ) → 2 ^ 14 ≤ n → n < 2 ^ 30 →
    IsForm n ((4 * n + 2) % 256) (le_bytes 3 ((4 * n + 2) / 256))
unfolding compact
four_form n ge h =
    let mode : ((4 * n + 2) % 256) % 4 ≡ 2 = omega arith in
    let all : number (le_bytes 4 (4 * n + 2)) ≡ 4 * n + 2 =
    number-le_bytes 4 (4 * n + 2) (omega arith) in
    record {
      is = rw (le-ltb n 64 (omega arith), le-ltb n (2 ^ 14) ge, lt-ltb n (2 ^ 30) h) refl;
      len = rw mode refl;
      value = rw (mode, all) (omega arith);
      big =
          λ e. absurd (omega (arith, e));
      is_big = λ e. absurd (omega (arith, e));
    }

-- the bytes that the big mode counts for a number hold it
big_enough : (n : ℕ) → n < 2 ^ 128 → n < 256 ^ big_bytes n
big_enough n h =
    let enough : n < 256 ^ bytes_needed 16 n = bytes_needed-enough 16 n h in
    omega (
      arith,
      enough,
      pow-le-pow_right {n = 256} (omega arith) {i = bytes_needed 16 n}
          {j = big_bytes n} (omega arith),
    )

-- a number from 2^30 to below 2^128 has the mode that counts its bytes
big_form : (n : ℕ) → 2 ^ 30 ≤ n → n < 2 ^ 128 →
    IsForm n (4 * (big_bytes n - 4) + 3) (le_bytes (big_bytes n) n)
unfolding compact
big_form n ge h =
    let k = big_bytes n in
    let mode : (4 * (k - 4) + 3) % 4 ≡ 3 = omega arith in
    let quarter : (4 * (k - 4) + 3) / 4 + 4 ≡ k = omega arith in
    record {
      is = rw (
        le-ltb n 64 (omega arith),
        le-ltb n (2 ^ 14) (omega arith),
        le-ltb n (2 ^ 30) ge,
      ) refl;
      len = rw mode (omega (arith, length-le_bytes k n));
      value =
          rw mode (number-le_bytes k n (big_enough n h));
      big = λ e. quarter;
      is_big = λ e. ge;
    }

-- each number below 2^128 has a mode
pub form_of : (n : ℕ) → n < 2 ^ 128 → (first : ℕ) × (tail : List ℕ) × IsForm n first tail
form_of n h = elim (cases_lt n 64) [
  | inl lt ↦ (_, _, small_form n lt)
  | inr ge ↦ elim (cases_lt n (2 ^ 14)) [
    | inl lt ↦ (_, _, two_form n ge lt)
    | inr ge ↦ elim (cases_lt n (2 ^ 30))
        [ inl lt ↦ (_, _, four_form n ge lt) | inr ge ↦ (_, _, big_form n ge h) ]
  ]
]

-- where one of two tests always fails beside the other, not both hold
and_false : (a b : Bool) → (a ≡ true → b ≡ false) → (a && b) ≡ false
and_false true b f = f refl
and_false false b f = refl

-- a target that holds a number of 2^30 or more has four bytes or more
four_at_least : (m : Target) (n : ℕ) → 2 ^ 30 ≤ n → n < 256 ^ target_bytes m → 4 ≤ target_bytes m
four_at_least TUnit n ge h = absurd (omega arith)
four_at_least U8 n ge h = absurd (omega arith)
four_at_least U16 n ge h = absurd (omega arith)
four_at_least _ n ge h = omega arith

-- the mode of a number that the target holds is not too long for the target
fits_target : (m : Target) (n first : ℕ) (tail : List ℕ) → IsForm n first tail →
    n < 256 ^ target_bytes m → is_too_long m first ≡ false
fits_target m n first tail f h =
    and_false (first % 4 == 3) (nat_lt (target_bytes m) (first / 4 + 4)) (λ e.
    let mode : first % 4 ≡ 3 = eqb-true _ _ e in
    let four = four_at_least m n (f.is_big mode) h in
    let needed = bytes_needed-le 16 (target_bytes m) n h in
    le-ltb _ _ (omega (arith, f.big mode)))

-- the mode of a number that the target holds is read as the number, with the rest left
pub integer_again : (m : Target) (n first : ℕ) (tail rest : List ℕ) → IsForm n first tail →
    n < 256 ^ target_bytes m → integer_at m (first ∷ tail ++ rest) ≡ Ok (n, rest)
integer_again m n first tail rest f h =
    let same : bytes_eq (compact n) (first ∷ tail) ≡ true =
    (bytes_eq-Decides (compact n) (first ∷ tail)).1 f.is in
    rw (
      fits_target m n first tail f h,
      bytes_again (mode_len first) (first ∷ tail) rest f.len,
      f.value,
      same,
      lt-ltb n (256 ^ target_bytes m) h,
    ) refl

-- what a target holds is below 2^128
pub below_128 : (m : Target) (n : ℕ) → n < 256 ^ target_bytes m → n < 2 ^ 128
below_128 TUnit n h = omega arith
below_128 _ n h = omega arith

-- the spelling of a compact integer is read again, with the rest left
pub compact_again : (m : Target) (x : ℕ) (a rest : List ℕ) → IsCompact m x a →
    compact_at m (a ++ rest) ≡ Ok (x, rest)
unfolding compact_at
compact_again TUnit x a rest h = rw (h.0, h.1) refl
compact_again m x a rest h = let f = form_of x (below_128 m x h.0) in
    rw (h.1, f.2.is) (integer_again m x f.0 f.1 rest f.2 h.0)

-- the spelling of a text is read again, with the rest left
pub text_again : (s b rest : List ℕ) → IsText s b → text_at (b ++ rest) ≡ Ok (s, rest)
unfolding text_at
text_again s b rest h = rw (
  h.3,
  append_assoc,
  compact_again U32 (length s) h.0 (s ++ rest) h.1,
  bytes_again (length s) s rest refl,
  h.2,
) refl

-- a spelling of an integer has a byte
pub compact-bytes : (m : Target) (x : ℕ) (a : List ℕ) → IsCompact m x a → a ≡ [] → m ≡ TUnit
compact-bytes TUnit x a h e = refl
compact-bytes m x a h e = let f = form_of x (below_128 m x h.0) in let both = sym e
    ∙ (h.1 ∙ f.2.is) in absurd cc

-- so many bytes are read as the number that they are, lowest byte first, with the rest left
pub number_again : (k : ℕ) (b rest : List ℕ) → length b ≡ k →
    number_at k (b ++ rest) ≡ Ok (number b, rest)
number_again k b rest len =
    let long : ltb (length (b ++ rest)) k ≡ false =
    le-ltb _ _ (omega (arith, length-append b rest)) in
    rw (long, take_at b rest k len, drop_at b rest k len) refl

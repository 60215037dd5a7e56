-- What is read where a compact integer stands, by what its first byte names.
use Rattle.std.proofs.Common.{◌≡◌, ℕ, zero, suc, ◌+◌, ◌-◌, ◌/◌, ◌%◌, ◌^◌, ◌<◌, ◌≤◌, Bool, true}
use Rattle.std.proofs.Common.{false, cond, List, [], ◌∷◌, length, get_or, take, drop, Ok, Err}
use Rattle.std.proofs.Common.{refl, sym, ap, ◌∙◌, arith, inl, inr, Result}
use Rattle.std.specs.Prelude.{◌≢◌, not, nat_lt, ◌==◌, if◌then◌else◌}
use Rattle.std.specs.Str.{bytes_eq}
use Rattle.std.proofs.lemmas.Bool.{false_from_ne_true, cases_eq, cases_lt, le-ltb, lt-ltb, ne_eqb}
use Rattle.std.proofs.lemmas.Bool.{eq-eqb}
use Rattle.std.specs.Int.{Width, byte_len, from_le_bytes}
use lib.Dec.{leb}
use Rattle.std.proofs.lemmas.Bool.Decides.{nat_tests}
use Rattle.std.proofs.lemmas.Slice.Eq.{bytes_eq-Decides}
use Rattle.std.proofs.lemmas.List.{length-take}
use Rattle.scale_core.specs.Answers.{Answers, judged_compact}
use Rattle.scale_core.specs.Compact.{compact, target_bytes}
use Rattle.scale_core.specs.Number.{AreBytes, number}
use Rattle.scale_core.specs.Read.{Read, mode_len, mode_number, checked_mode, is_too_long}
use Rattle.scale_core.specs.Read.{integer_at, compact_at}
use Rattle.scale_core.specs.declared.compact.Target.{Target}
use Rattle.scale_core.specs.declared.compact.Target.TheVariants.{Unit as TUnit}
use Rattle.scale_core.specs.declared.fault.Fault.{Fault}
use Rattle.scale_core.specs.declared.fault.Reason.{Reason}
use Rattle.scale_core.specs.declared.fault.Reason.TheVariants.{Truncated, CompactNotShortest}
use Rattle.scale_core.specs.declared.fault.Reason.TheVariants.{CompactTooLarge}
use Rattle.scale_core.proofs.Fronts.{from_le_bytes-number}
use Rattle.scale_core.proofs.Modes.{shortest_mode, length-compact-one, length-compact-two}
use Rattle.scale_core.proofs.Modes.{length-compact-four}

-- a compact over a type without bytes is read as 0, and takes no byte
pub compact_at-unit : (m : Target) (bytes : List ℕ) → m ≡ TUnit → compact_at m bytes ≡ Ok (0, bytes)
unfolding compact_at
compact_at-unit m bytes e = rw e refl

-- a compact over a type with bytes is read as an integer
pub compact_at-integer : (m : Target) (bytes : List ℕ) → m ≢ TUnit →
    compact_at m bytes ≡ integer_at m bytes
unfolding compact_at
compact_at-integer TUnit bytes ne = absurd (ne refl)
compact_at-integer _ bytes ne = refl

-- where there is no byte, a compact integer is cut
pub integer_at-empty : (m : Target) (bytes : List ℕ) → length bytes < 1 →
    integer_at m bytes ≡ Err (Truncated, [])
integer_at-empty m [] h = refl
integer_at-empty m (b ∷ bytes) h = absurd (omega arith)

-- a first byte that names more bytes than the target has is refused at its own place
pub integer_at-too_long : (m : Target) (bytes : List ℕ) (first : ℕ) →
    bytes ≡ first ∷ drop 1 bytes → is_too_long m first ≡ true →
    integer_at m bytes ≡ Err (CompactTooLarge, bytes)
integer_at-too_long m bytes first is long =
    ap (integer_at m) is ∙ rw long (ap (λ (left : List ℕ). Err (CompactTooLarge, left)) (sym is))

-- where fewer bytes are there than the first names, a compact integer is cut
pub integer_at-cut : (m : Target) (bytes : List ℕ) (first : ℕ) →
    bytes ≡ first ∷ drop 1 bytes → is_too_long m first ≡ false → length bytes < mode_len first →
    integer_at m bytes ≡ Err (Truncated, [])
integer_at-cut m bytes first is fits short =
    let less : length (first ∷ drop 1 bytes) < mode_len first = rw is at short in
    ap (integer_at m) is
    ∙ rw (fits, lt-ltb (length (first ∷ drop 1 bytes)) (mode_len first) less) refl

-- what the mode of len bytes and of the number n is judged to be
abbrev pub judged_form : Target → List ℕ → ℕ → ℕ → Read Reason ℕ
judged_form m bytes n len =
    if len == length (compact n) then
    (if nat_lt n (256 ^ target_bytes m) then Ok (n, drop len bytes) else Err
    (CompactTooLarge, bytes))
    else Err (CompactNotShortest, bytes)

-- to choose by a test that is turned is to choose with the two answers turned
cond-not : {A : Type 0} (t : Bool) (x y : A) → cond (not t) x y ≡ cond t y x
cond-not true x y = refl
cond-not false x y = refl

-- lengths report whether a mode is the spelling, where a spelling of the form's length is the mode
same_test : (mode spelled : List ℕ) (len : ℕ) → length mode ≡ len →
    (length spelled ≡ len → spelled ≡ mode) → (len == length spelled) ≡ bytes_eq spelled mode
same_test mode spelled len long f = elim (cases_eq len (length spelled)) [
  | inl same ↦ eq-eqb len (length spelled) same
      ∙ sym ((bytes_eq-Decides spelled mode).1 (f (sym same)))
  | inr other ↦ ne_eqb len (length spelled) other
      ∙ sym (false_from_ne_true _
      (λ e. other (sym long ∙ ap length (sym ((bytes_eq-Decides spelled mode).0 e)))))
]

-- to compare a mode with the shortest spelling is to compare their lengths
checked-judged : (m : Target) (bytes mode : List ℕ) (n len : ℕ) → length mode ≡ len →
    (length (compact n) ≡ len → compact n ≡ mode) →
    checked_mode m bytes n mode (drop len bytes) ≡ judged_form m bytes n len
checked-judged m bytes mode n len long f =
    rw (same_test mode (compact n) len long f) (cond-not (bytes_eq (compact n) mode) _ _)

-- each mode has a byte or more
mode_len-positive : (first : ℕ) → 0 < mode_len first
mode_len-positive first = grind (arith, nat_tests)

-- a front of bytes is of bytes
are_front : (k : ℕ) (bytes : List ℕ) → AreBytes bytes → AreBytes (take k bytes)
are_front zero bytes h = tt
are_front (suc k) [] h = tt
are_front (suc k) (b ∷ bytes) h = (h.0, are_front k bytes h.1)

-- where a form's bytes are there, its number is judged by target and shortest mode
form_at-judged : (m : Target) (first : ℕ) (rest : List ℕ) (n : ℕ) → is_too_long m first ≡ false →
    AreBytes (first ∷ rest) → mode_len first ≤ length (first ∷ rest) →
    n ≡ mode_number (take (mode_len first) (first ∷ rest)) → n < 2 ^ 128 →
    integer_at m (first ∷ rest) ≡ judged_form m (first ∷ rest) n (mode_len first)
form_at-judged m first rest n fits h long value small =
    let k = mode_len first in
    let mode = take k (first ∷ rest) in
    let len : length mode ≡ k = omega (arith, length-take k (first ∷ rest)) in
    let next : k ≡ suc (k - 1) = omega (arith, mode_len-positive first) in
    let shape : mode ≡ first ∷ take (k - 1) rest = ap (λ (j : ℕ). take j (first ∷ rest)) next in
    let are : AreBytes (first ∷ take (k - 1) rest) = rw shape at (are_front k (first ∷ rest) h) in
    let whole : length (first ∷ take (k - 1) rest) ≡ k = ap length (sym shape) ∙ len in
    let named : n ≡ mode_number (first ∷ take (k - 1) rest) = value ∙ ap mode_number shape in
    let reads : integer_at m (first ∷ rest) ≡ checked_mode m (first ∷ rest) (mode_number mode)
    mode (drop k (first ∷ rest)) = rw (fits, le-ltb (length (first ∷ rest)) k long) refl in
    reads ∙ ap (λ (x : ℕ). checked_mode m (first ∷ rest) x mode (drop k (first ∷ rest))) (sym value)
    ∙ checked-judged m (first ∷ rest) mode n k len
    (λ same. shortest_mode first (take (k - 1) rest) n are whole named small same ∙ sym shape)

-- a mode that is there whole
pub integer_at-judged : (m : Target) (bytes : List ℕ) (first n len : ℕ) →
    AreBytes bytes → bytes ≡ first ∷ drop 1 bytes → is_too_long m first ≡ false →
    len ≡ mode_len first → len ≤ length bytes → n ≡ mode_number (take len bytes) → n < 2 ^ 128 →
    integer_at m bytes ≡ judged_form m bytes n len
integer_at-judged m bytes first n len h is fits long there value small =
    let are : AreBytes (first ∷ drop 1 bytes) = rw is at h in
    let enough : mode_len first ≤ length (first ∷ drop 1 bytes) =
    omega (arith, long, there, ap length is) in
    let named : n ≡ mode_number (take (mode_len first) (first ∷ drop 1 bytes)) = value
    ∙ ap (λ (xs : List ℕ). mode_number (take len xs)) is
    ∙ ap (λ (k : ℕ). mode_number (take k (first ∷ drop 1 bytes))) long in
    let judged = form_at-judged m first (drop 1 bytes) n fits are enough named small in
    ap (integer_at m) is ∙ judged
    ∙ ap (λ (xs : List ℕ). judged_form m xs n (mode_len first)) (sym is)
    ∙ ap (judged_form m bytes n) (sym long)

-- what the two tests of a mode choose answers what they choose of the input
chosen_answers : (shortest fits : Bool) (bytes : List ℕ) (n len : ℕ) → len ≤ length bytes →
    Answers (λ x. x) bytes
    (cond shortest
    (cond fits (Ok (n, len)) (Err (record { reason = CompactTooLarge; at = 0 })))
    (Err (record { reason = CompactNotShortest; at = 0 })))
    (cond shortest (cond fits (Ok (n, drop len bytes)) (Err (CompactTooLarge, bytes)))
    (Err (CompactNotShortest, bytes)))
chosen_answers true true bytes n len there = (there, refl)
chosen_answers true false bytes n len there = (bytes, refl, omega arith)
chosen_answers false fits bytes n len there = (bytes, refl, omega arith)

-- a mode that is there whole is answered as it is judged
pub judged_answers : (m : Target) (bytes : List ℕ) (first n len : ℕ) →
    AreBytes bytes → bytes ≡ first ∷ drop 1 bytes → is_too_long m first ≡ false →
    len ≡ mode_len first → len ≤ length bytes → n ≡ mode_number (take len bytes) → n < 2 ^ 128 →
    (result : Result (ℕ × ℕ) Fault) → result ≡ judged_compact m n len →
    Answers (λ x. x) bytes result (integer_at m bytes)
judged_answers m bytes first n len h is fits long there value small result e =
    rw (e, integer_at-judged m bytes first n len h is fits long there value small)
    (chosen_answers (len == length (compact n)) (nat_lt n (256 ^ target_bytes m)) bytes n len there)

-- a number of six bits fits every target that takes bytes
pub one_fits : (m : Target) (n : ℕ) → m ≢ TUnit → n < 64 → n < 256 ^ target_bytes m
one_fits TUnit n ne h = absurd (ne refl)
one_fits _ n ne h = omega (arith, h)

-- a first byte with the mark 0 names one byte
one_form : (first : ℕ) → first % 4 ≡ 0 → mode_len first ≡ 1
one_form first h = rw h refl

-- a first byte with the mark 0 is too long for no target
not_long : (m : Target) (first : ℕ) → first % 4 ≡ 0 → is_too_long m first ≡ false
not_long m first h = rw h refl

-- a first byte with the mark 0 has its number in its other six bits
one_number : (first : ℕ) → first % 4 ≡ 0 → mode_number (first ∷ []) ≡ first / 4
one_number first h = rw h (omega arith)

-- the mode of one byte
pub integer_at-one : (m : Target) (bytes : List ℕ) (first : ℕ) → m ≢ TUnit → AreBytes bytes →
    bytes ≡ first ∷ drop 1 bytes → first % 4 ≡ 0 → first < 256 →
    integer_at m bytes ≡ Ok (first / 4, drop 1 bytes)
integer_at-one m bytes first ne are is h byte =
    let some : 1 ≤ length bytes = omega (arith, ap length is) in
    let front : take 1 bytes ≡ first ∷ [] = ap (take 1) is in
    let value : first / 4 ≡ mode_number (take 1 bytes) = sym (ap mode_number front
    ∙ one_number first h) in
    let small : first / 4 < 64 = omega (arith, byte) in
    let judged = integer_at-judged m bytes first (first / 4) 1 are is (not_long m first h)
    (sym (one_form first h)) some value (omega (arith, small)) in
    judged ∙ rw (
      length-compact-one (first / 4) small,
      lt-ltb (first / 4) (256 ^ target_bytes m)
          (one_fits m (first / 4) ne small),
    ) refl

-- ---- the other modes, by their mark

-- a first byte with the mark 3 is too long for a target with fewer bytes than it names
pub too_long : (m : Target) (first : ℕ) → first % 4 ≡ 3 → target_bytes m < first / 4 + 4 →
    is_too_long m first ≡ true
too_long m first h less = rw (h, lt-ltb (target_bytes m) (first / 4 + 4) less) refl

-- and for no target with as many
pub not_too_long : (m : Target) (first : ℕ) → first % 4 ≡ 3 → first / 4 + 4 ≤ target_bytes m →
    is_too_long m first ≡ false
not_too_long m first h enough = rw (h, le-ltb (target_bytes m) (first / 4 + 4) enough) refl

-- the bytes after a first one with the mark 3 are the number
pub long_number : (bytes : List ℕ) (first k : ℕ) → bytes ≡ first ∷ drop 1 bytes → first % 4 ≡ 3 →
    number (take k (drop 1 bytes)) ≡ mode_number (take (suc k) bytes)
long_number bytes first k is h =
    let named : mode_number (first ∷ take k (drop 1 bytes)) ≡ number (take k (drop 1 bytes)) =
    rw h refl in
    sym (ap (λ (xs : List ℕ). mode_number (take (suc k) xs)) is ∙ named)

-- the bytes of a mode with another mark are four times the number, and the mark
short_number : (bytes : List ℕ) (first k : ℕ) → bytes ≡ first ∷ drop 1 bytes → first % 4 < 3 →
    number (take (suc k) bytes) / 4 ≡ mode_number (take (suc k) bytes)
short_number bytes first k is h =
    let tail = take k (drop 1 bytes) in
    let named : mode_number (first ∷ tail) ≡ number (first ∷ tail) / 4 =
    rw (ne_eqb (first % 4) 3 (λ e. omega (arith, h, e))) refl in
    sym (ap (λ (xs : List ℕ). mode_number (take (suc k) xs)) is ∙ named
    ∙ sym (ap (λ (xs : List ℕ). number (take (suc k) xs) / 4) is))

-- std reads four times the number, and the mark, from the bytes of such a mode
pub short_value : (w : Width) (bytes mode : List ℕ) (first k n : ℕ) → byte_len w ≡ suc k →
    suc k ≤ length bytes → mode ≡ take (suc k) bytes → bytes ≡ first ∷ drop 1 bytes →
    first % 4 < 3 → n ≡ from_le_bytes w mode → n / 4 ≡ mode_number (take (suc k) bytes)
short_value w bytes mode first k n width there e is h read =
    let len : length (take (suc k) bytes) ≡ byte_len w =
    omega (arith, width, there, length-take (suc k) bytes) in
    let spelled : n ≡ number (take (suc k) bytes) = read ∙ ap (from_le_bytes w) e
    ∙ from_le_bytes-number w (take (suc k) bytes) len in
    ap (λ (m : ℕ). m / 4) spelled ∙ short_number bytes first k is h

-- the mode of two bytes is the shortest of a number from 64 on
pub two_shortest : (n : ℕ) → n < 2 ^ 14 → leb 64 n ≡ (2 == length (compact n))
two_shortest n h = elim (cases_lt n 64) [
  | inl less ↦ rw (length-compact-one n less) (grind (arith, nat_tests))
  | inr more ↦ rw (length-compact-two n more h) (grind (arith, nat_tests))
]

-- the mode of four bytes is the shortest of a number from 2^14 on
pub four_shortest : (n : ℕ) → n < 2 ^ 30 → leb 16384 n ≡ (4 == length (compact n))
four_shortest n h = elim (cases_lt n 16384) [
  | inl less ↦ elim (cases_lt n 64) [
    | inl one ↦ rw (length-compact-one n one) (grind (arith, nat_tests))
    | inr two ↦ rw (length-compact-two n two less) (grind (arith, nat_tests))
  ]
  | inr more ↦ rw (length-compact-four n more h) (grind (arith, nat_tests))
]

-- ---- the first byte, and bytes at large

-- bytes begin with the first byte that was looked at
pub front_is : (bytes chunk : List ℕ) → 1 ≤ length bytes → chunk ≡ take 1 bytes →
    bytes ≡ get_or chunk 0 0 ∷ drop 1 bytes
front_is [] chunk h e = absurd (omega arith)
front_is (b ∷ bytes) chunk h e = rw e refl

-- a list is of bytes where each place of it is below 256
pub are_bytes : (xs : List ℕ) → ((i : ℕ) → get_or xs i 0 < 256) → AreBytes xs
are_bytes [] h = tt
are_bytes (x ∷ xs) h = (h 0, are_bytes xs (λ i. h (suc i)))

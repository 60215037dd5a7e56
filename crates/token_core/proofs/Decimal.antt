-- Numbers in decimal digits: those before the last sixteen, and the last sixteen.
use Rattle.std.proofs.Common.{◌≡◌, ℕ, ◌+◌, ◌/◌, ◌%◌, ◌^◌, ◌<◌, ◌≤◌, List, [], ◌∷◌, ◌++◌, length}
use Rattle.std.proofs.Common.{drop, eq-zero-or-pos, inl, inr, refl, ap, ap₂, sym, ◌∙◌, arith}
use Rattle.std.proofs.Common.{append_assoc, length-append, length-drop}
use Rattle.std.specs.Fmt.{decimal}
use Rattle.std.proofs.lemmas.Fmt.{decimal_digit, decimal_nonempty, decimal_step_wide}
use Rattle.token_core.specs.Digits.{last_digits}

-- what a list begins with is not in what follows
pub drop_first : (xs ys : List ℕ) → 1 ≤ length xs → drop 1 (xs ++ ys) ≡ drop 1 xs ++ ys
drop_first [] ys h = absurd (omega (arith, h))
drop_first (x ∷ xs) ys h = refl

-- a number has a digit at least
pub some_digits : (n : ℕ) → n < 2 ^ 128 → 1 ≤ length (decimal n)
some_digits n small =
    elim (eq-zero-or-pos (n / 10)) [
      | inl none ↦ omega (arith, ap length (decimal_digit n (omega (arith, none))))
      | inr some ↦ omega (
        arith,
        ap length (decimal_step_wide n (omega (arith, some)) (omega (arith, small))),
        length-append (decimal (n / 10)) ((48 + n % 10) ∷ []),
      )
    ]

-- a number that is no less than the unit is what stands before its last digits, and these
abbrev Splits : ℕ → Type 0
Splits unit = (n : ℕ) → unit ≤ n → n < 2 ^ 128 →
    decimal n ≡ decimal (n / unit) ++ last_digits unit (n % unit)

-- one digit is split off
splits_one : Splits 10
splits_one n least most =
    let low = n % 10 in
    let one : (10 + low) / 10 ≡ 1 = omega arith in
    let same : (10 + low) % 10 ≡ low = omega arith in
    let last : last_digits 10 low ≡ (48 + low) ∷ [] =
    ap (drop 1) (decimal_step_wide (10 + low) (omega arith) (omega arith)
    ∙ ap₂ (λ (a b : ℕ). decimal a ++ ((48 + b) ∷ [])) one same
    ∙ ap (λ (ds : List ℕ). ds ++ ((48 + low) ∷ [])) (decimal_digit 1 (omega arith))) in
    decimal_step_wide n least (omega (arith, most))
    ∙ ap (λ (ds : List ℕ). decimal (n / 10) ++ ds) (sym last)

-- a unit, and its square, which has twice as many zeros
record IsSquare (unit square : ℕ) : Type 0 where
  within : (n : ℕ) → square ≤ n → (unit ≤ n) × (unit ≤ n / unit)
  less : (n : ℕ) → n < 2 ^ 128 → n / unit < 2 ^ 128
  front : (n : ℕ) → n / unit / unit ≡ n / square
  short : (n : ℕ) → (unit ≤ square + n % square) × (square + n % square < 2 ^ 128)
  high : (n : ℕ) → (square + n % square) / unit ≡ unit + n / unit % unit
  low : (n : ℕ) → (square + n % square) % unit ≡ n % unit
  small : (n : ℕ) → unit + n / unit % unit < 2 ^ 64

-- the last digits by the square are those by the unit, twice
last_twice : (unit square : ℕ) → IsSquare unit square → Splits unit → (n : ℕ) →
    last_digits square (n % square)
    ≡ last_digits unit (n / unit % unit) ++ last_digits unit (n % unit)
last_twice unit square is splits n =
    let both = square + n % square in
    let bounds = is.short n in
    let whole : decimal both
    ≡ decimal (unit + n / unit % unit) ++ last_digits unit (n % unit) =
    splits both bounds.0 bounds.1
    ∙ ap₂ (λ (a b : ℕ). decimal a ++ last_digits unit b) (is.high n) (is.low n) in
    ap (drop 1) whole
    ∙ drop_first (decimal (unit + n / unit % unit)) (last_digits unit (n % unit))
    (omega (arith, decimal_nonempty (unit + n / unit % unit) (is.small n)))

-- where the unit splits numbers, its square does
splits_twice : (unit square : ℕ) → IsSquare unit square → Splits unit → Splits square
splits_twice unit square is splits n least most =
    let bounds = is.within n least in
    splits n bounds.0 most
    ∙ ap (λ (ds : List ℕ). ds ++ last_digits unit (n % unit))
    (splits (n / unit) bounds.1 (is.less n most)
    ∙ ap (λ (a : ℕ). decimal a ++ last_digits unit (n / unit % unit)) (is.front n))
    ∙ append_assoc (decimal (n / square)) (last_digits unit (n / unit % unit))
    (last_digits unit (n % unit))
    ∙ ap (λ (ds : List ℕ). decimal (n / square) ++ ds) (sym (last_twice unit square is splits n))

-- ten and a hundred
two : IsSquare 10 100
two = record {
  within = λ n h. (omega (arith, h), omega (arith, h));
  less = λ n h. omega (arith, h);
  front = λ n. omega arith;
  short = λ n. (omega arith, omega arith);
  high = λ n. omega arith;
  low = λ n. omega arith;
  small = λ n. omega arith;
}

-- a hundred and its square
four : IsSquare 100 10000
four = record {
  within = λ n h. (omega (arith, h), omega (arith, h));
  less = λ n h. omega (arith, h);
  front = λ n. omega arith;
  short = λ n. (omega arith, omega arith);
  high = λ n. omega arith;
  low = λ n. omega arith;
  small = λ n. omega arith;
}

-- the fourth power of ten and its square
eight : IsSquare 10000 100000000
eight = record {
  within = λ n h. (omega (arith, h), omega (arith, h));
  less = λ n h. omega (arith, h);
  front = λ n. omega arith;
  short = λ n. (omega arith, omega arith);
  high = λ n. omega arith;
  low = λ n. omega arith;
  small = λ n. omega arith;
}

-- the eighth power of ten and its square
sixteen : IsSquare 100000000 10000000000000000
sixteen = record {
  within = λ n h. (omega (arith, h), omega (arith, h));
  less = λ n h. omega (arith, h);
  front = λ n. omega arith;
  short = λ n. (omega arith, omega arith);
  high = λ n. omega arith;
  low = λ n. omega arith;
  small = λ n. omega arith;
}

-- sixteen digits are split off
pub splits_sixteen : (n : ℕ) → 10000000000000000 ≤ n → n < 2 ^ 128 →
    decimal n
    ≡ decimal (n / 10000000000000000) ++ last_digits 10000000000000000 (n % 10000000000000000)
splits_sixteen = splits_twice 100000000 10000000000000000 sixteen
    (splits_twice 10000 100000000 eight (splits_twice 100 10000 four
    (splits_twice 10 100 two splits_one)))

-- the last digits by the square are twice as many as those by the unit
square_long : (unit square digits : ℕ) → IsSquare unit square → Splits unit →
    ((n : ℕ) → length (last_digits unit (n % unit)) ≡ digits) → (n : ℕ) →
    length (last_digits square (n % square)) ≡ digits + digits
square_long unit square digits is splits long n =
    ap length (last_twice unit square is splits n)
    ∙ length-append (last_digits unit (n / unit % unit)) (last_digits unit (n % unit))
    ∙ ap₂ (λ (a b : ℕ). a + b) (long (n / unit)) (long n)

-- one digit is one
one_long : (n : ℕ) → length (last_digits 10 (n % 10)) ≡ 1
one_long n =
    let both = 10 + n % 10 in
    let one : both / 10 ≡ 1 = omega arith in
    omega (
      arith,
      ap length (decimal_step_wide both (omega arith) (omega arith)),
      length-append (decimal (both / 10)) ((48 + both % 10) ∷ []),
      ap (λ (a : ℕ). length (decimal a)) one,
      ap length (decimal_digit 1 (omega arith)),
      length-drop 1 (decimal both),
    )

-- a number below the unit has sixteen last digits
pub sixteen_last : (low : ℕ) → low < 10000000000000000 →
    length (last_digits 10000000000000000 low) ≡ 16
sixteen_last low small =
    let same : low % 10000000000000000 ≡ low = omega (arith, small) in
    ap (λ (n : ℕ). length (last_digits 10000000000000000 n)) (sym same)
    ∙ square_long 100000000 10000000000000000 8 sixteen
    (splits_twice 10000 100000000 eight
    (splits_twice 100 10000 four (splits_twice 10 100 two splits_one)))
    (square_long 10000 100000000 4 eight
    (splits_twice 100 10000 four (splits_twice 10 100 two splits_one))
    (square_long 100 10000 2 four (splits_twice 10 100 two splits_one)
    (square_long 10 100 1 two splits_one one_long))) low

-- and one digit more stands before them where the unit is added
pub sixteen_long : (low : ℕ) → low < 10000000000000000 →
    length (decimal (10000000000000000 + low)) ≡ 17
sixteen_long low small =
    omega (
      arith,
      sixteen_last low small,
      length-drop 1 (decimal (10000000000000000 + low)),
      decimal_nonempty (10000000000000000 + low) (omega (arith, small)),
    )

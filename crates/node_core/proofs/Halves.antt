-- The sixteen bytes of a long integer are those of its two halves.
use Rattle.std.proofs.Common.{◌≡◌, ℕ, ◌/◌, ◌%◌, ◌^◌, List, ◌++◌, refl, sym, ap, ◌∙◌, arith}
use Rattle.std.proofs.Common.{append_assoc}
use Rattle.std.specs.Int.{w64, w128, byte_at, to_le_bytes}

-- the lower half comes first
pub halves : (n : ℕ) →
    to_le_bytes w128 n ≡ to_le_bytes w64 (n % 2 ^ 64) ++ to_le_bytes w64 (n / 2 ^ 64)
halves n =
    let l0 : byte_at 0 (n % 2 ^ 64) ≡ byte_at 0 n = omega arith in
    let l1 : byte_at 1 (n % 2 ^ 64) ≡ byte_at 1 n = omega arith in
    let l2 : byte_at 2 (n % 2 ^ 64) ≡ byte_at 2 n = omega arith in
    let l3 : byte_at 3 (n % 2 ^ 64) ≡ byte_at 3 n = omega arith in
    let l4 : byte_at 4 (n % 2 ^ 64) ≡ byte_at 4 n = omega arith in
    let l5 : byte_at 5 (n % 2 ^ 64) ≡ byte_at 5 n = omega arith in
    let l6 : byte_at 6 (n % 2 ^ 64) ≡ byte_at 6 n = omega arith in
    let l7 : byte_at 7 (n % 2 ^ 64) ≡ byte_at 7 n = omega arith in
    let h0 : byte_at 0 (n / 2 ^ 64) ≡ byte_at 8 n = omega arith in
    let h1 : byte_at 1 (n / 2 ^ 64) ≡ byte_at 9 n = omega arith in
    let h2 : byte_at 2 (n / 2 ^ 64) ≡ byte_at 10 n = omega arith in
    let h3 : byte_at 3 (n / 2 ^ 64) ≡ byte_at 11 n = omega arith in
    let h4 : byte_at 4 (n / 2 ^ 64) ≡ byte_at 12 n = omega arith in
    let h5 : byte_at 5 (n / 2 ^ 64) ≡ byte_at 13 n = omega arith in
    let h6 : byte_at 6 (n / 2 ^ 64) ≡ byte_at 14 n = omega arith in
    let h7 : byte_at 7 (n / 2 ^ 64) ≡ byte_at 15 n = omega arith in
    rw (l0, l1, l2, l3, l4, l5, l6, l7, h0, h1, h2, h3, h4, h5, h6, h7) refl

-- one half put after the other after what was there
pub put_halves : (n m k : ℕ) (old start low high one two : List ℕ) → start ≡ old →
    low ≡ to_le_bytes w64 m → high ≡ to_le_bytes w64 k → m ≡ n % 2 ^ 64 → k ≡ n / 2 ^ 64 →
    one ≡ start ++ low → two ≡ one ++ high → two ≡ old ++ to_le_bytes w128 n
put_halves n m k old start low high one two same lower higher m_is k_is first second =
    second
    ∙ ap (λ (l : List ℕ). l ++ high) (first ∙ ap (λ (l : List ℕ). l ++ low) same)
    ∙ append_assoc old low high
    ∙ ap (λ (l : List ℕ). old ++ l)
    (rw (lower, higher, m_is, k_is) (sym (halves n)))

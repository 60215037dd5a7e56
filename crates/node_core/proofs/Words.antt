-- Words of sixteen bytes, and the integers that they stand for.
use Rattle.std.proofs.Common.{◌≡◌, ℕ, ◌+◌, ◌-◌, ◌<◌, ◌≤◌, ◌^◌, ℤ, List, ◌++◌, length, take, drop}
use Rattle.std.proofs.Common.{◌*◌, pos, negsuc, suc, false, refl, slice_range, ap, sym, ◌∙◌, arith}
use Rattle.std.proofs.Common.{length-append}
use Rattle.std.proofs.Math.Facts.{Fits-of_z}
use Rattle.std.proofs.Math.Seq.{drop-append_seam}
use Rattle.std.proofs.lemmas.Bool.{lt-ltb, le-ltb}
use Rattle.std.proofs.Math.Dec.{ltb}
use Rattle.std.proofs.lemmas.List.{take_all}
use Rattle.std.specs.Int.{w128, to_le_bytes, from_le_bytes, cast_unsigned}
use Rattle.std.specs.Prelude.{FitsSigned}
use Rattle.scale_core.specs.Number.{number}
use Rattle.node_core.specs.Shown.{signed_from, long_shown}
use Rattle.scale_core.proofs.Fronts.{to_le_bytes_16, from_le_bytes-number}
use Rattle.scale_core.proofs.Numbers.{length-le_bytes, number-le_bytes}

-- a number below 2^128 is read back from its sixteen bytes
pub word_back : (n : ℕ) → n < 2 ^ 128 → from_le_bytes w128 (to_le_bytes w128 n) ≡ n
word_back n h = from_le_bytes-number w128 (to_le_bytes w128 n)
    (ap length (to_le_bytes_16 n) ∙ length-le_bytes 16 n) ∙ ap number (to_le_bytes_16 n)
    ∙ number-le_bytes 16 n (omega (arith, h))

-- an integer of 128 bits is read back from its cast to 128 bits without sign
pub signed_same : (z : ℤ) → FitsSigned w128 z → signed_from (cast_unsigned w128 z) ≡ z
signed_same (pos m) h = rw (lt-ltb (2 * m) (2 ^ 128) (omega (arith, h))) refl
signed_same (negsuc m) h =
    let high : ltb (2 * (2 ^ 128 - suc m)) (2 ^ 128) ≡ false =
    le-ltb (2 * (2 ^ 128 - suc m)) (2 ^ 128) (omega (arith, h)) in
    let back : 2 ^ 128 - (2 ^ 128 - suc m) ≡ suc m = omega (arith, h) in
    rw (high, back) refl

-- an integer of 128 bits is read back from the sixteen bytes of its cast
pub signed_back : (z : ℤ) (n m : ℕ) → FitsSigned w128 z → n ≡ cast_unsigned w128 z →
    m ≡ from_le_bytes w128 (to_le_bytes w128 n) → signed_from m ≡ z
signed_back z n m h e same =
    ap signed_from (same ∙ word_back n (rw e (Fits-of_z h).fits) ∙ e) ∙ signed_same z h

-- a range of a list that begins where another ends
pub slice-append : (pool more : List ℕ) (start len : ℕ) → length pool ≡ start → length more ≡ len →
    slice_range (pool ++ more) start (start + len) ≡ more
slice-append pool more start len e f =
    let long : start + len - start ≡ length more = omega (arith, f) in
    ap (λ (k : ℕ). take k (drop start (pool ++ more))) long
    ∙ ap (λ (k : ℕ). take (length more) (drop k (pool ++ more))) (sym e)
    ∙ ap (take (length more)) (drop-append_seam pool more)
    ∙ take_all (length more) more (omega arith)

-- a long integer stands where its bytes were appended
pub record IsPut (new : List ℕ) (start n : ℕ) : Type 0 where
  pub shows : long_shown new start ≡ from_le_bytes w128 (to_le_bytes w128 n)
  pub inside : start + 16 ≤ length new
  pub long : 16 ≡ length (to_le_bytes w128 n)

-- sixteen bytes of a number that come to the end of the pool lie in it and are read from there
pub long_put : (old new : List ℕ) (start n : ℕ) → start ≡ length old →
    new ≡ old ++ to_le_bytes w128 n → IsPut new start n
long_put old new start n at e =
    let long : length (to_le_bytes w128 n) ≡ 16 =
    ap length (to_le_bytes_16 n) ∙ length-le_bytes 16 n in
    record {
      shows = rw e (ap (from_le_bytes w128)
          (slice-append old (to_le_bytes w128 n) start 16 (sym at) long));
      inside = rw e (omega (arith, at, long, length-append old (to_le_bytes w128 n)));
      long = sym long;
    }

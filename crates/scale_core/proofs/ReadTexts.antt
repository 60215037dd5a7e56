-- What is read where a text stands, by its length and its bytes.
use Rattle.std.proofs.Common.{◌≡◌, ℕ, ◌+◌, ◌-◌, ◌<◌, ◌≤◌, false, cond, List, [], length, take, drop}
use Rattle.std.proofs.Common.{Ok, Err, refl, sym, ap, ◌∙◌, arith, inl, inr}
use Rattle.std.specs.Prelude.{◌⊎◌}
use Rattle.std.specs.List.{slice_range}
use Rattle.std.specs.Str.{is_utf8, IsUtf8}
use Rattle.std.specs.Str.Lossy.{utf8_valid_len}
use Rattle.std.proofs.lemmas.Bool.{false_from_ne_true, le-ltb, lt-ltb}
use Rattle.std.proofs.lemmas.List.{take_all, length-drop, drop-drop}
use Rattle.std.proofs.lemmas.Slice.{between_from_start}
use Rattle.std.proofs.lemmas.Str.{is_utf8-from_IsUtf8, IsUtf8-from_is_utf8, utf8_valid_len_le}
use Rattle.scale_core.specs.Read.{Read, compact_at, place, text_at}
use Rattle.scale_core.specs.declared.compact.Target.TheVariants.{U32}
use Rattle.scale_core.specs.declared.fault.Reason.{Reason}
use Rattle.scale_core.specs.declared.fault.Reason.TheVariants.{Truncated, BadUtf8}

-- where the length of a text is refused, the text is refused so
pub text_at-fault : (bytes : List ℕ) (e : Reason × List ℕ) → compact_at U32 bytes ≡ Err e →
    text_at bytes ≡ Err e
unfolding text_at
text_at-fault bytes e is = rw is refl

-- ---- what stands after the length, as `&bytes[start..]` and `get(..n)` give it

abbrev pub slice_from : List ℕ → ℕ → List ℕ
slice_from bytes start = take (length bytes - start) (drop start bytes)

-- what is after a place is what is left where as many bytes are dropped
after-drop : (bytes : List ℕ) (start : ℕ) → slice_from bytes start ≡ drop start bytes
after-drop bytes start =
    take_all (length bytes - start) (drop start bytes) (omega (arith, length-drop start bytes))

-- where fewer bytes are there than a text's length says, the text is cut
pub text_at-cut : (bytes : List ℕ) (start n : ℕ) → compact_at U32 bytes ≡ Ok (n, drop start bytes) →
    (n < 0) ⊎ (length (slice_from bytes start) < n) → text_at bytes ≡ Err (Truncated, [])
unfolding text_at
text_at-cut bytes start n is (inl h) = absurd (omega arith)
text_at-cut bytes start n is (inr h) = let short : length (drop start bytes) < n =
    rw after-drop at h in rw (is, lt-ltb (length (drop start bytes)) n short) refl

-- the text s, which is there whole
abbrev judged_text : List ℕ → List ℕ → List ℕ → Read Reason (List ℕ)
judged_text s rest after =
    cond (is_utf8 s) (Ok (s, after)) (Err (BadUtf8, drop (utf8_valid_len s) rest))

-- where the bytes of a text are there, they are judged as UTF-8
text_at-whole : (bytes rest : List ℕ) (n : ℕ) → compact_at U32 bytes ≡ Ok (n, rest) →
    n ≤ length rest → text_at bytes ≡ judged_text (take n rest) rest (drop n rest)
unfolding text_at
text_at-whole bytes rest n is long = rw (is, le-ltb (length rest) n long) refl

-- bytes that are there whole: `get` gave them
pub record IsTextThere (bytes spelled : List ℕ) (start n : ℕ) : Type 0 where
  pub length_is : compact_at U32 bytes ≡ Ok (n, drop start bytes)
  pub there : n ≤ length (slice_from bytes start)
  pub is : spelled ≡ slice_range (slice_from bytes start) 0 n
  pub len : length spelled + 0 ≡ n

-- where the bytes of a text are there as a slice, the text is what these are judged to be
judged-whole : (bytes spelled : List ℕ) (start n : ℕ) → IsTextThere bytes spelled start n →
    text_at bytes ≡ judged_text spelled (drop start bytes) (drop (start + length spelled) bytes)
judged-whole bytes spelled start n w =
    let rest = drop start bytes in
    let long : n ≤ length rest = rw after-drop at w.there in
    let front : spelled ≡ take n rest = w.is
    ∙ ap (λ (xs : List ℕ). slice_range xs 0 n) (after-drop bytes start)
    ∙ between_from_start rest n in
    let count : n ≡ length spelled = omega (arith, w.len) in
    let after : drop n rest ≡ drop (start + length spelled) bytes = drop-drop n start bytes
    ∙ ap (λ (k : ℕ). drop (start + k) bytes) count in
    text_at-whole bytes rest n w.length_is long
    ∙ ap (λ (s : List ℕ). judged_text s rest (drop n rest)) (sym front)
    ∙ ap (judged_text spelled rest) after

-- a text whose bytes are there and are UTF-8 is read, with the rest left
pub text_at-valid : (bytes spelled text : List ℕ) (start n : ℕ) →
    IsTextThere bytes spelled start n →
    text ≡ spelled → IsUtf8 spelled →
    text_at bytes ≡ Ok (text, drop (start + length spelled) bytes)
text_at-valid bytes spelled text start n w same valid = judged-whole bytes spelled start n w
    ∙ rw (is_utf8-from_IsUtf8 spelled valid, same) refl

-- a text whose bytes are there and are no UTF-8 is refused at the first byte that is wrong
pub text_at-bad : (bytes spelled : List ℕ) (start n : ℕ) → IsTextThere bytes spelled start n →
    (IsUtf8 spelled → ⊥) →
    text_at bytes ≡ Err (BadUtf8, drop (utf8_valid_len spelled) (drop start bytes))
text_at-bad bytes spelled start n w bad =
    let no : is_utf8 spelled ≡ false =
    false_from_ne_true _ (λ e. bad (IsUtf8-from_is_utf8 spelled e)) in
    judged-whole bytes spelled start n w ∙ rw no refl

-- a text whose bytes are there ends within the bytes
pub whole-bound : (bytes spelled : List ℕ) (start n : ℕ) → start ≤ length bytes →
    IsTextThere bytes spelled start n → start + length spelled ≤ length bytes
whole-bound bytes spelled start n h w = let long : n ≤ length (drop start bytes) =
    rw after-drop at w.there in omega (arith, length-drop start bytes, w.len)

-- the place of the first wrong byte is counted from the front of all bytes
pub place-bad : (bytes spelled : List ℕ) (start n : ℕ) → start ≤ length bytes →
    IsTextThere bytes spelled start n →
    place bytes (drop (utf8_valid_len spelled) (drop start bytes)) ≡ start + utf8_valid_len spelled
place-bad bytes spelled start n h w =
    let k = utf8_valid_len spelled in
    omega (
      arith,
      whole-bound bytes spelled start n h w,
      utf8_valid_len_le spelled,
      length-drop k (drop start bytes),
      length-drop start bytes,
    )

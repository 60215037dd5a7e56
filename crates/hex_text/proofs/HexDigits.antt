-- A hexadecimal text has the bytes that its digits spell, and no others.
use Rattle.std.proofs.Common.{◌≡◌, ℕ, suc, ◌+◌, ◌-◌, ◌*◌, ◌<◌, ◌%◌, ◌==◌, List, [], ◌∷◌}
use Rattle.std.proofs.Common.{◌++◌}
use Rattle.std.proofs.Common.{length, Bool, true, false, cond, Option, Some, None, Result, Ok, Err}
use Rattle.std.proofs.Common.{arith, refl, sym, ap, subst, ◌∙◌, append_assoc, take, drop, inl, inr}
use Rattle.std.specs.Prelude.{◌⊎◌, codes, slice_index}
use Rattle.std.specs.Str.{bytes_eq}
use Rattle.std.proofs.lemmas.Bool.{eqb-true, eq-eqb, ne_eqb, lt-ltb}
use Rattle.std.proofs.lemmas.Slice.Eq.{bytes_eq-Decides}
use Rattle.std.proofs.lemmas.List.{append-nil, take-append-drop, take_at, drop_at, length-append}
use Rattle.hex_text.specs.HexText.{AreDigits, HexIsRead, IsHexText, IsLineEnd, IsMark, back_over}
use Rattle.hex_text.specs.HexText.{digits_end, hex_bytes, placed, prefix_len}
use Rattle.hex_text.proofs.HexPlaces.{hex_is}
use Rattle.hex.specs.Hex.{decode_of, decode_pairs, digit_or_error, hex_digit_value}
use Rattle.hex.specs.Hex.{◌>>=◌}
use Rattle.hex.specs.declared.error.FromHexError.{FromHexError}
use Rattle.hex.specs.declared.error.FromHexError.TheVariants.{InvalidHexCharacter, OddLength}
use Rattle.hex.specs.declared.error.FromHexError.TheVariants.{InvalidStringLength, OutOfMemory}

-- ---- digits

-- what is put together of two digits and the bytes after them was made of both
pair_is : (high low i : ℕ) (h l : Option ℕ) (rest : Result (List ℕ) FromHexError)
    (bytes : List ℕ) → hex_digit_value high ≡ h → hex_digit_value low ≡ l →
    ((digit_or_error high i h >>= λ a. digit_or_error low (i + 1) l >>= λ b. Ok (a * 16 + b))
    >>= λ b. rest >>= λ bs. Ok (b ∷ bs)) ≡ Ok bytes →
    (a b : ℕ) × (others : List ℕ) × (hex_digit_value high ≡ Some a)
    × (hex_digit_value low ≡ Some b) × (rest ≡ Ok others) × (bytes ≡ (a * 16 + b) ∷ others)
pair_is high low i None l rest bytes first second e = absurd cc
pair_is high low i (Some a) None rest bytes first second e = absurd cc
pair_is high low i (Some a) (Some b) (Err x) bytes first second e = absurd cc
pair_is high low i (Some a) (Some b) (Ok others) bytes first second e =
    (a, b, others, first, second, refl, cc)

-- pairs that are decoded are the digits of the bytes
digits_of : (i : ℕ) (text bytes : List ℕ) → decode_pairs i text ≡ Ok bytes → AreDigits text bytes
unfolding decode_pairs
digits_of i [] [] e = tt
digits_of i [] (b ∷ bytes) e = absurd cc
digits_of i (digit ∷ []) bytes e = absurd cc
digits_of i (high ∷ low ∷ rest) bytes e =
    let h = pair_is high low i (hex_digit_value high) (hex_digit_value low)
    (decode_pairs (i + 2) rest) bytes refl refl e in
    subst (AreDigits (high ∷ low ∷ rest)) (sym h.6)
    (h.0, h.1, h.3, h.4, refl, digits_of (i + 2) rest h.2 h.5)

-- digits of bytes are decoded to these
decoded_of : (i : ℕ) (text bytes : List ℕ) → AreDigits text bytes → decode_pairs i text ≡ Ok bytes
unfolding decode_pairs
decoded_of i [] [] h = refl
decoded_of i [] (b ∷ bytes) h = absurd h
decoded_of i (digit ∷ []) bytes h = absurd h
decoded_of i (high ∷ low ∷ rest) [] h = absurd h
decoded_of i (high ∷ low ∷ rest) (b ∷ bytes) h =
    rw (h.2, h.3, decoded_of (i + 2) rest bytes h.5, h.4) refl

-- digits of bytes are an even number
are_even : (text bytes : List ℕ) → AreDigits text bytes → length text % 2 ≡ 0
are_even [] [] h = refl
are_even [] (b ∷ bytes) h = absurd h
are_even (digit ∷ []) bytes h = absurd h
are_even (high ∷ low ∷ rest) [] h = absurd h
are_even (high ∷ low ∷ rest) (b ∷ bytes) h = omega (arith, are_even rest bytes h.5)

-- where an odd number of digits is refused first, what is decoded is decoded as pairs
not_odd : (odd : Bool) (r : Result (List ℕ) FromHexError) (bytes : List ℕ) →
    cond odd (Err OddLength) r ≡ Ok bytes → r ≡ Ok bytes
not_odd true r bytes e = absurd cc
not_odd false r bytes e = e

-- bytes that are reported with a place are decoded without
unplaced : (start end : ℕ) (r : Result (List ℕ) FromHexError) (bytes : List ℕ) →
    placed start end r ≡ Ok bytes → r ≡ Ok bytes
unplaced start end (Ok x) bytes e = let same : x ≡ bytes = cc in ap Ok same
unplaced start end (Err (InvalidHexCharacter c i)) bytes e = absurd cc
unplaced start end (Err OddLength) bytes e = absurd cc
unplaced start end (Err InvalidStringLength) bytes e = absurd cc
unplaced start end (Err OutOfMemory) bytes e = absurd cc

-- ---- the end of the line

-- a list is empty, or has a last element
last_of : (xs : List ℕ) → (xs ≡ []) ⊎ ((ys : List ℕ) × (y : ℕ) × (xs ≡ ys ++ y ∷ []))
last_of [] = inl refl
last_of (x ∷ xs) = elim (last_of xs) [
  | inl e ↦ inr ([], x, ap (λ (r : List ℕ). x ∷ r) e)
  | inr h ↦ inr (x ∷ h.0, h.1, ap (λ (r : List ℕ). x ∷ r) h.2)
]

-- the element after a front
index_after : (ys zs : List ℕ) (y : ℕ) → slice_index (ys ++ y ∷ zs) (length ys) ≡ y
index_after [] zs y = refl
index_after (x ∷ ys) zs y = index_after ys zs y

-- the place goes back over a byte that is this one, and stays after another
at_byte : (text : List ℕ) (end byte : ℕ) (t : Bool) → 0 < end →
    (slice_index text (end - 1) == byte) ≡ t → back_over text end byte ≡ cond t (end - 1) end
at_byte text end byte true some is = rw (lt-ltb 0 end some, is) refl
at_byte text end byte false some is = rw (lt-ltb 0 end some, is) refl

-- the byte after a front is the one before the place after it
before_place : (ys zs : List ℕ) (y : ℕ) → slice_index (ys ++ y ∷ zs) (suc (length ys) - 1) ≡ y
before_place ys zs y = subst (λ (n : ℕ). slice_index (ys ++ y ∷ zs) n ≡ y) (omega arith)
    (index_after ys zs y)

-- so it goes back over it, where it is this one
over_byte : (ys zs : List ℕ) (y byte : ℕ) → y ≡ byte →
    back_over (ys ++ y ∷ zs) (suc (length ys)) byte ≡ length ys
over_byte ys zs y byte same = at_byte (ys ++ y ∷ zs) (suc (length ys)) byte true (omega arith)
    (ap (λ (n : ℕ). n == byte) (before_place ys zs y) ∙ eq-eqb y byte same)
    ∙ omega arith

-- and stays where it is another
before_other : (ys zs : List ℕ) (y byte : ℕ) → (y == byte) ≡ false →
    back_over (ys ++ y ∷ zs) (suc (length ys)) byte ≡ suc (length ys)
before_other ys zs y byte other = at_byte (ys ++ y ∷ zs) (suc (length ys)) byte false (omega arith)
    (ap (λ (n : ℕ). n == byte) (before_place ys zs y) ∙ other)

-- how long a list is with one more after it
one_more : (ys : List ℕ) (y : ℕ) → length (ys ++ y ∷ []) ≡ suc (length ys)
one_more ys y = omega (arith, length-append ys (y ∷ []))

-- where the digits end, by what stands before a line feed
end_by : (text : List ℕ) (line : ℕ) → back_over text (length text) 10 ≡ line →
    digits_end text ≡ cond (line == length text) (length text) (back_over text line 13)
end_by text line e = rw e refl

-- a text that does not end with a line feed ends with its digits
end_of_other : (ys : List ℕ) (y : ℕ) → (y == 10) ≡ false →
    digits_end (ys ++ y ∷ []) ≡ length (ys ++ y ∷ [])
end_of_other ys y other =
    let text : List ℕ = ys ++ y ∷ [] in
    let stays : back_over text (length text) 10 ≡ length text =
    ap (λ (n : ℕ). back_over text n 10) (one_more ys y) ∙ before_other ys [] y 10 other
    ∙ sym (one_more ys y) in
    end_by text (length text) stays
    ∙ ap (λ (b : Bool). cond b (length text) (back_over text (length text) 13))
    (eq-eqb (length text) (length text) refl)

-- and one that does ends where a carriage return before it begins, or where it does
end_of_line : (ys : List ℕ) → digits_end (ys ++ 10 ∷ []) ≡ back_over (ys ++ 10 ∷ []) (length ys) 13
end_of_line ys =
    let text : List ℕ = ys ++ 10 ∷ [] in
    let goes : back_over text (length text) 10 ≡ length ys =
    ap (λ (n : ℕ). back_over text n 10) (one_more ys 10) ∙ over_byte ys [] 10 10 refl in
    end_by text (length ys) goes
    ∙ ap (λ (b : Bool). cond b (length text) (back_over text (length ys) 13))
    (ne_eqb (length ys) (length text) (λ e. absurd (omega (arith, e, one_more ys 10))))

-- two ways to join a list of two after another
two_more : (ys : List ℕ) (y z : ℕ) → (ys ++ y ∷ []) ++ z ∷ [] ≡ ys ++ y ∷ z ∷ []
two_more ys y z = append_assoc ys (y ∷ []) (z ∷ [])

-- where a line feed ends the text, the place before it
before_feed : (ys : List ℕ) (y : ℕ) →
    digits_end (ys ++ y ∷ 10 ∷ []) ≡ back_over (ys ++ y ∷ 10 ∷ []) (suc (length ys)) 13
before_feed ys y = ap digits_end (sym (two_more ys y 10)) ∙ end_of_line (ys ++ y ∷ [])
    ∙ ap (λ (t : List ℕ). back_over t (length (ys ++ y ∷ [])) 13) (two_more ys y 10)
    ∙ ap (λ (n : ℕ). back_over (ys ++ y ∷ 10 ∷ []) n 13) (one_more ys y)

-- a carriage return may stand there
end_of_two : (ys : List ℕ) (y : ℕ) → (t : Bool) → (y == 13) ≡ t →
    digits_end (ys ++ y ∷ 10 ∷ []) ≡ cond t (length ys) (suc (length ys))
end_of_two ys y true is = before_feed ys y ∙ over_byte ys (10 ∷ []) y 13 (eqb-true y 13 is)
end_of_two ys y false is = before_feed ys y ∙ before_other ys (10 ∷ []) y 13 is

-- what is left after a front
after : (ys zs : List ℕ) → drop (length ys) (ys ++ zs) ≡ zs
after ys zs = drop_at ys zs (length ys) refl

-- a line end, by the place where it begins
line_at : (text : List ℕ) (n : ℕ) → digits_end text ≡ n → IsLineEnd (drop n text) →
    IsLineEnd (drop (digits_end text) text)
line_at text n e h = subst (λ (k : ℕ). IsLineEnd (drop k text)) (sym e) h

-- the line end of a text that ends with a line feed
feed_is : (ys : List ℕ) → IsLineEnd (drop (digits_end (ys ++ 10 ∷ [])) (ys ++ 10 ∷ []))
feed_is ys = elim (last_of ys) [
  | inl e ↦ rw e (inr (inl refl))
  | inr h ↦ subst (λ (t : List ℕ). IsLineEnd (drop (digits_end t) t))
      (sym (ap (λ (t : List ℕ). t ++ 10 ∷ []) h.2 ∙ two_more h.0 h.1 10))
      (two h.0 h.1 (h.1 == 13) refl)
] where
  two : (zs : List ℕ) (z : ℕ) (t : Bool) → (z == 13) ≡ t →
      IsLineEnd (drop (digits_end (zs ++ z ∷ 10 ∷ [])) (zs ++ z ∷ 10 ∷ []))
  two zs z true is = line_at (zs ++ z ∷ 10 ∷ []) (length zs) (end_of_two zs z true is)
      (inr (inr (after zs (z ∷ 10 ∷ []) ∙ ap (λ (c : ℕ). c ∷ 10 ∷ []) (eqb-true z 13 is))))
  two zs z false is =
      let dropped : drop (suc (length zs)) (zs ++ z ∷ 10 ∷ []) ≡ 10 ∷ [] =
      ap (λ (n : ℕ). drop n (zs ++ z ∷ 10 ∷ [])) (sym (one_more zs z))
      ∙ ap (drop (length (zs ++ z ∷ []))) (sym (two_more zs z 10))
      ∙ after (zs ++ z ∷ []) (10 ∷ []) in
      line_at (zs ++ z ∷ 10 ∷ []) (suc (length zs)) (end_of_two zs z false is) (inr (inl dropped))

-- what is left after the digits is a line end
line_end_is : (rest : List ℕ) → IsLineEnd (drop (digits_end rest) rest)
line_end_is rest = elim (last_of rest) [
  | inl e ↦ rw e (inl refl)
  | inr h ↦ subst (λ (t : List ℕ). IsLineEnd (drop (digits_end t) t)) (sym h.2)
      (by h.0 h.1 (h.1 == 10) refl)
] where
  all : (xs : List ℕ) → drop (length xs) xs ≡ []
  all xs = ap (drop (length xs)) (sym (append-nil xs)) ∙ after xs []

  by : (ys : List ℕ) (y : ℕ) (t : Bool) → (y == 10) ≡ t →
      IsLineEnd (drop (digits_end (ys ++ y ∷ [])) (ys ++ y ∷ []))
  by ys y true is = subst (λ (c : ℕ). IsLineEnd (drop (digits_end (ys ++ c ∷ [])) (ys ++ c ∷ [])))
      (sym (eqb-true y 10 is)) (feed_is ys)
  by ys y false is = line_at (ys ++ y ∷ []) (length (ys ++ y ∷ [])) (end_of_other ys y is)
      (inl (all (ys ++ y ∷ [])))

-- ---- the text of digits

-- a digit is another byte than one that is none
is_other : (c byte x : ℕ) → hex_digit_value byte ≡ None → hex_digit_value c ≡ Some x →
    (c == byte) ≡ false
is_other c byte x none is = by (c == byte) refl where
  by : (t : Bool) → (c == byte) ≡ t → t ≡ false
  by false e = refl
  by true e = let no : hex_digit_value c ≡ None =
      subst (λ (y : ℕ). hex_digit_value y ≡ None) (sym (eqb-true c byte e)) none in absurd cc

-- the last of digits is a digit
last_digit : (text bytes : List ℕ) → AreDigits text bytes → (ys : List ℕ) (y : ℕ) →
    text ≡ ys ++ y ∷ [] → (x : ℕ) × (hex_digit_value y ≡ Some x)
last_digit [] bytes h [] y e = absurd cc
last_digit [] bytes h (a ∷ ys) y e = absurd cc
last_digit (digit ∷ []) bytes h ys y e = absurd h
last_digit (high ∷ low ∷ rest) [] h ys y e = absurd h
last_digit (high ∷ low ∷ rest) (b ∷ bytes) h [] y e = absurd cc
last_digit (high ∷ low ∷ rest) (b ∷ bytes) h (a ∷ []) y e = let same : low ≡ y = cc in
    (h.1, ap hex_digit_value (sym same) ∙ h.3)
last_digit (high ∷ low ∷ rest) (b ∷ bytes) h (a ∷ c ∷ ys) y e =
    let more : rest ≡ ys ++ y ∷ [] = cc in last_digit rest bytes h.5 ys y more

-- the digits end where the line end begins
digits_end_is : (digits bytes end : List ℕ) → AreDigits digits bytes → IsLineEnd end →
    digits_end (digits ++ end) ≡ length digits
digits_end_is digits bytes end h line = elim line [
  | inl e ↦ ap (λ (r : List ℕ). digits_end (digits ++ r)) e ∙ ap digits_end (append-nil digits)
      ∙ elim (last_of digits) [
        | inl none ↦ rw none refl
        | inr last ↦ let d = last_digit digits bytes h last.0 last.1 last.2 in
            ap digits_end last.2
            ∙ end_of_other last.0 last.1 (is_other last.1 10 d.0 refl d.1)
            ∙ ap length (sym last.2)
      ]
  | inr line ↦ elim line [
    | inl e ↦ ap (λ (r : List ℕ). digits_end (digits ++ r)) e ∙ elim (last_of digits) [
      | inl none ↦ rw none refl
      | inr last ↦ let d = last_digit digits bytes h last.0 last.1 last.2 in
          ap (λ (r : List ℕ). digits_end (r ++ 10 ∷ [])) last.2
          ∙ ap digits_end (two_more last.0 last.1 10)
          ∙ end_of_two last.0 last.1 false (is_other last.1 13 d.0 refl d.1)
          ∙ sym (one_more last.0 last.1) ∙ ap length (sym last.2)
    ]
    | inr e ↦ ap (λ (r : List ℕ). digits_end (digits ++ r)) e ∙ end_of_two digits 13 true refl
  ]
]

-- digits and a line end do not begin with `0x`
no_mark : (digits bytes end : List ℕ) → AreDigits digits bytes → IsLineEnd end →
    bytes_eq (codes "0x") (take 2 (digits ++ end)) ≡ false
no_mark [] bytes end h line = elim line [
  | inl e ↦ rw e refl
  | inr line ↦ elim line [
    | inl e ↦ rw e refl
    | inr e ↦ rw e refl
  ]
]
no_mark (digit ∷ []) bytes end h line = absurd h
no_mark (high ∷ low ∷ rest) [] end h line = absurd h
no_mark (high ∷ low ∷ rest) (b ∷ bytes) end h line =
    by (bytes_eq (codes "0x") (high ∷ low ∷ [])) refl where
      by : (t : Bool) → bytes_eq (codes "0x") (high ∷ low ∷ []) ≡ t → t ≡ false
      by false e = refl
      by true e = let same = (bytes_eq-Decides (codes "0x") (high ∷ low ∷ [])).0 e in
          let x : low ≡ 120 = cc in
          let none : hex_digit_value low ≡ None =
          subst (λ (y : ℕ). hex_digit_value y ≡ None) (sym x) refl in absurd cc

-- how long the mark is
prefix_is : (front digits end bytes : List ℕ) → IsMark front → AreDigits digits bytes →
    IsLineEnd end → prefix_len (front ++ (digits ++ end)) ≡ length front
prefix_is front digits end bytes mark h line = elim mark [
  | inl e ↦ rw (e, no_mark digits bytes end h line) refl
  | inr e ↦ rw e refl
]

-- the mark is what stands before the digits
mark_is : (text : List ℕ) → IsMark (take (prefix_len text) text)
mark_is text = by (bytes_eq (codes "0x") (take 2 text)) refl where
  by : (t : Bool) → bytes_eq (codes "0x") (take 2 text) ≡ t → IsMark (take (cond t 2 0) text)
  by true e = inr (sym ((bytes_eq-Decides (codes "0x") (take 2 text)).0 e))
  by false e = inl refl

-- a text has the bytes that its digits spell, and no others
pub hex_is_read : HexIsRead
unfolding hex_bytes
hex_is_read text bytes = (to, from) where
  start : ℕ
  start = prefix_len text

  rest : List ℕ
  rest = drop start text

  end : ℕ
  end = digits_end rest

  to : hex_bytes text ≡ Ok bytes → IsHexText text bytes
  to e =
      let decoded = unplaced start (start + end) (decode_of (take end rest)) bytes e in
      let pairs = not_odd (length (take end rest) % 2 == 1) (decode_pairs 0 (take end rest)) bytes
      decoded in (
        take start text,
        take end rest,
        drop end rest,
        sym (take-append-drop start text)
            ∙ ap (λ (y : List ℕ). take start text ++ y) (sym (take-append-drop end rest)),
        mark_is text,
        digits_of 0 (take end rest) bytes pairs,
        line_end_is rest,
      )

  from : IsHexText text bytes → hex_bytes text ≡ Ok bytes
  from h = rw h.3 (by h.0 h.1 h.2 h.4 h.5 h.6) where
    by : (front digits line : List ℕ) → IsMark front → AreDigits digits bytes → IsLineEnd line →
        hex_bytes (front ++ (digits ++ line)) ≡ Ok bytes
    by front digits line mark are ends =
        hex_is (front ++ (digits ++ line)) (digits ++ line) (length front) (length digits)
        (Ok bytes)
        (sym (prefix_is front digits line bytes mark are ends)) (sym (after front (digits ++ line)))
        (sym (digits_end_is digits bytes line are ends))
        (ap decode_of (take_at digits line (length digits) refl) ∙ even) where
          even : decode_of digits ≡ Ok bytes
          even = rw (are_even digits bytes are) (decoded_of 0 digits bytes are)

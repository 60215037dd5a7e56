-- Text that grows by tokens.
use Rattle.std.proofs.Common.{◌≡◌, ℕ, suc, ◌+◌, ◌/◌, ◌%◌, zero, get_or, slice_index, Fits, w8}
use Rattle.std.proofs.Common.{inl, inr, ◌^◌, ◌<◌, ◌≤◌, Bool, true, false, cond, ◌&&◌, ℤ, pos}
use Rattle.std.proofs.Common.{negsuc, FitsSigned, List, [], ◌∷◌, ◌++◌, length, take, drop, decimal}
use Rattle.std.proofs.Common.{refl, ap, ap₂, sym, ◌∙◌, subst, arith, IsUtf8, append_assoc}
use Rattle.std.proofs.Common.{append-nil, length-append, length-take-le, take-append-drop, ltb-true}
use Rattle.std.proofs.Common.{take_at, take-take}
use Rattle.std.specs.Prelude.{Result, OnOk}
use Rattle.std.specs.Int.{w128}
use Rattle.std.specs.Fmt.{signed_decimal}
use Rattle.std.proofs.lemmas.Fmt.{decimal_by_steps_wide}
use Rattle.std.proofs.lemmas.List.Sums.{fold-append}
use Rattle.std.proofs.lemmas.Result.{on_ok_weaker}
use Rattle.std.proofs.lemmas.Str.{IsUtf8-append, IsUtf8-nil, IsUtf8-from_ascii}
use Rattle.std.proofs.lemmas.Bool.{cases_eq, and_parts}
use Rattle.std.proofs.lemmas.Str.Ascii.{IsAscii-nil, IsAscii-cons}
use Rattle.std.specs.Str.{IsAscii}
use Rattle.hex.proofs.HexLemmas.{IsAscii-encode_with}
use Rattle.hex.specs.Hex.{encode_with, encode_lower, lower_digits}
use Rattle.json.specs.Run.{is_plain}
use Rattle.json.proofs.Printed.Plain.{escape_on_plain}
use Rattle.json.specs.Filled.{Placed}
use Rattle.json.specs.Token.{Token, begin_object, end_object, begin_array, end_array, key, string}
use Rattle.json.specs.Print.{begins, ends, token_text, print_from, escape_byte, escape}
use Rattle.json.specs.Print.{quoted}
use Rattle.json.proofs.Printed.Strings.{escape_byte_plain}
use Rattle.json.proofs.Printed.Tokens.{print_from-append}
use Rattle.json.proofs.Printed.Utf8.{are_ascii, IsUtf8-are_ascii}
use Rattle.token_core.specs.Places.{Appended}
use Rattle.token_core.specs.Tokens.{Text, put, prints}
use Rattle.token_core.specs.declared.output.Role.TheVariants as role

-- tokens after tokens
pub prints_again : (w : Text) (ts us : List Token) → prints (prints w ts) us ≡ prints w (ts ++ us)
prints_again w ts us = ap₂ (λ s a. record { text = s; after_value = a })
    (append_assoc w.text (print_from w.after_value ts) _
    ∙ ap (λ s. w.text ++ s) (sym (print_from-append w.after_value ts us)))
    (sym (fold-append (λ _ t. ends t) w.after_value ts us))

-- before a token that wants a comma, one stands exactly where a value ended before it
comma_of : (b : Bool) → cond {A = List ℕ} (b && true) (44 ∷ []) [] ≡ cond b (44 ∷ []) []
comma_of true = refl
comma_of false = refl

-- before a token that wants no comma none stands
no_comma : (b : Bool) → cond {A = List ℕ} (b && false) (44 ∷ []) [] ≡ []
no_comma true = refl
no_comma false = refl

-- a token that begins a value or a member, after the comma that is wanted before it
pub written : (w : Text) (s : List ℕ) (b : Bool) (l : List ℕ) (t : Token) →
    b ≡ w.after_value → l ≡ token_text t → begins t ≡ true →
    s ≡ w.text ++ (cond b (44 ∷ []) [] ++ l) →
    record { text = s; after_value = ends t } ≡ prints w (t ∷ [])
unfolding print_from
written w s b l t same says is e = ap (λ x. record { text = x; after_value = ends t })
    (e ∙ ap₂ (λ c m. w.text ++ (cond c (44 ∷ []) [] ++ m)) same says
    ∙ ap (λ m. w.text ++ m)
    (sym (ap (λ c. cond {A = List ℕ} (w.after_value && c) (44 ∷ []) [] ++ (token_text t ++ [])) is
    ∙ ap₂ (λ (a b : List ℕ). a ++ b) (comma_of w.after_value) (append-nil (token_text t)))))

-- a token that begins a value or a member is printed by its text, after a comma where one is due
pub begun : {E : Type 0} (r : Result (Unit {0}) E) (w new : Text) (l : List ℕ) (t : Token) →
    l ≡ token_text t → begins t ≡ true → OnOk r (new ≡ record {
      text = w.text ++ (cond w.after_value (44 ∷ []) [] ++ l);
      after_value = ends t;
    }) → OnOk r (new ≡ prints w (t ∷ []))
begun r w new l t says is =
    on_ok_weaker r (λ e. e ∙ written w _ w.after_value l t refl says is refl)

-- and one that doesn't, with none
pub ended : {E : Type 0} (r : Result (Unit {0}) E) (w new : Text) (t : Token) →
    begins t ≡ false →
    OnOk r (new ≡ record { text = w.text ++ token_text t; after_value = ends t }) →
    OnOk r (new ≡ prints w (t ∷ []))
unfolding print_from
ended r w new t is = on_ok_weaker r (λ e. e
    ∙ ap (λ l. record { text = w.text ++ l; after_value = ends t })
    (sym (ap (λ c. cond {A = List ℕ} (w.after_value && c) (44 ∷ []) [] ++ (token_text t ++ [])) is
    ∙ ap₂ (λ (a b : List ℕ). a ++ b) (no_comma w.after_value) (append-nil (token_text t)))))

-- ---- texts without an escape

-- a string that needs no escape is printed as it is, in quotes
pub plain_string : (s : List ℕ) → escape s ≡ s → 34 ∷ (s ++ 34 ∷ []) ≡ token_text (string s)
plain_string s e = ap (λ l. 34 ∷ (l ++ 34 ∷ [])) (sym e)

-- a key that needs no escape is printed as it is, in quotes and with a colon
pub plain_key : (s : List ℕ) → escape s ≡ s → 34 ∷ (s ++ 34 ∷ 58 ∷ []) ≡ token_text (key s)
plain_key s e = ap (λ l. 34 ∷ (l ++ 34 ∷ 58 ∷ [])) (sym e)
    ∙ ap (λ l. 34 ∷ l) (sym (append_assoc (escape s) (34 ∷ []) (58 ∷ [])))

-- an object begins with a key that needs no escape
pub first_key : (w : Text) (n : List ℕ) → escape n ≡ n →
    put w role.Opening (123 ∷ 34 ∷ (n ++ 34 ∷ 58 ∷ []))
    ≡ prints w (begin_object ∷ key n ∷ [])
unfolding print_from
first_key w n e = ap (λ s. record { text = w.text ++ s; after_value = false })
    (ap₂ (λ (a b : List ℕ). a ++ b) (sym (comma_of w.after_value))
    (ap (λ l. 123 ∷ l) (plain_key n e ∙ sym (append-nil (token_text (key n))))))

-- and with an array
pub first_array : (w : Text) (n : List ℕ) → escape n ≡ n →
    put w role.Opening (123 ∷ 34 ∷ (n ++ 34 ∷ 58 ∷ 91 ∷ []))
    ≡ prints w (begin_object ∷ key n ∷ begin_array ∷ [])
unfolding print_from
first_array w n e = ap (λ s. record { text = w.text ++ s; after_value = false })
    (ap₂ (λ (a b : List ℕ). a ++ b) (sym (comma_of w.after_value))
    (ap (λ l. 123 ∷ l) (ap (λ l. 34 ∷ l) (sym (append_assoc n (34 ∷ 58 ∷ []) (91 ∷ [])))
    ∙ ap (λ l. l ++ 91 ∷ []) (plain_key n e))))

-- an array and the object around it end
pub array_member_ended : (w : Text) →
    put w role.Closing (93 ∷ 125 ∷ []) ≡ prints w (end_array ∷ end_object ∷ [])
unfolding print_from
array_member_ended w = ap (λ (l : List ℕ). record { text = w.text ++ l; after_value = true })
    (sym (ap (λ (l : List ℕ). l ++ 93 ∷ 125 ∷ []) (no_comma w.after_value)))

-- a text is escaped part by part
pub escape_append : (a b : List ℕ) → escape (a ++ b) ≡ escape a ++ escape b
escape_append [] b = refl
escape_append (x ∷ a) b = ap (λ l. escape_byte x ++ l) (escape_append a b)
    ∙ sym (append_assoc (escape_byte x) _ _)

-- a character from the minus sign to the digit 9 needs no escape
pub escape_one : (x : ℕ) → 45 ≤ x → x < 58 → escape (x ∷ []) ≡ x ∷ []
escape_one x low high = ap (λ l. l ++ [])
    (escape_byte_plain x (λ e. omega (arith, e, low)) (λ e. omega (arith, e, high))
    (omega (arith, low)))

-- the decimal digits of a number of up to 128 bits need no escape
pub escape_decimal : (n : ℕ) → n < 2 ^ 128 → escape (decimal n) ≡ decimal n
escape_decimal n h = decimal_by_steps_wide (λ m ds. escape ds ≡ ds)
    (λ m l. escape_one (48 + m) (omega arith) (omega (arith, l)))
    (λ m ds l e. escape_append ds ((48 + m % 10) ∷ [])
    ∙ ap₂ (λ (a b : List ℕ). a ++ b) e (escape_one (48 + m % 10) (omega arith) (omega arith)))
    n (omega (arith, h))

-- the decimal digits of an integer of 128 bits, with its sign, need no escape
pub escape_signed : (z : ℤ) → FitsSigned w128 z → escape (signed_decimal z) ≡ signed_decimal z
unfolding escape_byte
escape_signed (pos n) h = let fits = h.sfits in escape_decimal n (omega arith)
escape_signed (negsuc n) h =
    let fits = h.sfits in
    ap₂ (λ (a b : List ℕ). a ++ b) (escape_one 45 (omega arith) (omega arith))
    (escape_decimal (suc n) (omega arith))

-- hexadecimal digits below n need none
abbrev plain_below : ℕ → Bool
plain_below zero = true
plain_below (suc n) = is_plain (slice_index lower_digits n) && plain_below n

-- if all hexadecimal digits below a number are plain, the one at each place below it is
plain_digit : (n d : ℕ) → plain_below n ≡ true → d < n →
    is_plain (slice_index lower_digits d) ≡ true
plain_digit zero d e h = absurd (omega (arith, h))
plain_digit (suc n) d e h =
    let p = and_parts _ _ e in
    elim (cases_eq d n) [
      | inl same ↦ rw same p.0
      | inr other ↦ plain_digit n d p.1 (omega (arith, h))
    ]

-- each hexadecimal digit of bytes needs no escape
plain_hex : (bytes : List ℕ) → ((i : ℕ) → Fits w8 (get_or bytes i 0)) → (k : ℕ) →
    k < length (encode_lower bytes) → is_plain (get_or (encode_lower bytes) k 0) ≡ true
unfolding encode_with
plain_hex [] h k l = absurd (omega (arith, l))
plain_hex (b ∷ bytes) h zero l =
    let small = (h 0).fits in plain_digit 16 (b / 16) refl (omega (arith, small))
plain_hex (b ∷ bytes) h (suc zero) l = plain_digit 16 (b % 16) refl (omega arith)
plain_hex (b ∷ bytes) h (suc (suc k)) l =
    plain_hex bytes (λ i. h (suc i)) k (omega (arith, l))

-- the hexadecimal digits of bytes after 0x, in quotes, are printed as one string token
pub hex_string : (bytes : List ℕ) → ((i : ℕ) → Fits w8 (get_or bytes i 0)) →
    34 ∷ 48 ∷ 120 ∷ (encode_lower bytes ++ 34 ∷ [])
    ≡ token_text (string (48 ∷ 120 ∷ encode_lower bytes))
unfolding escape_byte
hex_string bytes h = plain_string (48 ∷ 120 ∷ encode_lower bytes)
    (ap (λ l. 48 ∷ 120 ∷ l) (escape_on_plain true (encode_lower bytes)
    (λ k from to. plain_hex bytes h k to)))

-- ---- what was written is UTF-8 again

-- a list that is found to be of ASCII characters is
small_ascii : (xs : List ℕ) → are_ascii xs ≡ true → IsAscii xs
small_ascii [] e = IsAscii-nil
small_ascii (x ∷ xs) e =
    let p = and_parts _ _ e in IsAscii-cons x xs (ltb-true _ _ p.0) (small_ascii xs p.1)

-- the JSON text of a run of bytes is UTF-8
pub hex_utf8 : (bytes : List ℕ) → ((i : ℕ) → Fits w8 (get_or bytes i 0)) →
    IsUtf8 (quoted (48 ∷ 120 ∷ encode_lower bytes))
hex_utf8 bytes h = subst IsUtf8 (hex_string bytes h) (IsUtf8-append (34 ∷ 48 ∷ 120 ∷ []) _
    (IsUtf8-are_ascii (34 ∷ 48 ∷ 120 ∷ []) refl) (IsUtf8-append (encode_lower bytes) (34 ∷ [])
    (IsUtf8-from_ascii _
    (IsAscii-encode_with lower_digits bytes (small_ascii lower_digits refl)))
    (IsUtf8-are_ascii (34 ∷ []) refl)))

-- a comma that may be wanted takes one byte at most
pub comma_short : (b : Bool) → length (cond {A = List ℕ} b (44 ∷ []) []) ≤ 1
comma_short true = omega arith
comma_short false = omega arith

-- a comma that may be wanted is UTF-8
pub comma_utf8 : (b : Bool) → IsUtf8 (cond b (44 ∷ []) [])
comma_utf8 true = IsUtf8-are_ascii (44 ∷ []) refl
comma_utf8 false = IsUtf8-nil

-- ---- a text with an escape

-- a key with an escape is a string and a colon
pub escaped_key : (w : Text) (n : List ℕ) →
    put (put w role.Opening (quoted n)) role.Opening (58 ∷ []) ≡ prints w (key n ∷ [])
escaped_key w n =
    let comma = cond {A = List ℕ} w.after_value (44 ∷ []) [] in
    written w _ w.after_value _ (key n) refl refl refl
    (append_assoc w.text (comma ++ quoted n) (58 ∷ [])
    ∙ ap (λ l. w.text ++ l) (append_assoc comma (quoted n) (58 ∷ [])))

-- ---- bytes that grow

-- bytes that were placed where room had been made
pub appended : {items grown old new xs : List ℕ} {at end n : ℕ} → at ≤ length items →
    take at grown ≡ take at items → length items ≤ length grown → old ≡ grown →
    length old ≡ n → Placed old new at xs end →
    Appended items (take n (new ++ drop (length new) grown)) at xs end
appended {items} {grown} {old} {new} {xs} {at} {end} {n} inside same kept value long placed =
    let whole : take n (new ++ drop (length new) grown) ≡ new =
    take_at new _ n (placed.len ∙ long) in
    let start : take at old ≡ take at items = ap (take at) value ∙ same in
    let bytes : take end new ≡ take at items ++ xs =
    placed.bytes ∙ ap (λ l. l ++ xs) start in
    let few : length (take at items) ≡ at = length-take-le at items inside in
    let moved = placed.moved in
    subst (λ b. Appended items b at xs end) (sym whole) (record {
      bytes = bytes;
      within = omega (
        arith,
        ap length bytes,
        length-append (take at items) xs,
        ap length (take-append-drop end new),
        length-append (take end new) (drop end new),
        few,
        moved,
      );
      front = sym (take-take at end new (omega (arith, moved))) ∙ ap (take at) bytes
          ∙ take_at (take at items) xs at few;
      kept = omega (arith, kept, ap length value, placed.len);
    })

-- where the first bytes are kept, the first of them are
pub front_kept : (old new : List ℕ) {len at : ℕ} → len ≤ at → take at new ≡ take at old →
    take len new ≡ take len old
front_kept old new {len} {at} l e =
    sym (take-take len at new l) ∙ ap (take len) e ∙ take-take len at old l

-- ---- a text after which a comma that may be wanted was written, and then xs

module _ (comma : Bool) {items bytes xs : List ℕ} {len end : ℕ}
    (added : Appended items bytes len (cond comma (44 ∷ []) [] ++ xs) end)
  where
    -- it is UTF-8 again, and lies within the bytes
    pub utf8_after : IsUtf8 (take len items) → IsUtf8 xs →
        (end ≤ length bytes) × IsUtf8 (take end bytes)
    utf8_after before utf8 = (
      added.within,
      subst IsUtf8 (sym added.bytes)
          (IsUtf8-append (take len items) _ before (IsUtf8-append _ xs (comma_utf8 comma) utf8)),
    )

    -- where xs are those of a token that begins a value or a member, the token was added
    pub token_after : (w : Text) (t : Token) →
        record { text = take len items; after_value = comma } ≡ w → xs ≡ token_text t →
        begins t ≡ true → record { text = take end bytes; after_value = ends t } ≡ prints w (t ∷ [])
    token_after w t view says is = written w _ comma xs t (ap (λ v. v.after_value) view) says is
        (added.bytes ∙ ap (λ v. v.text ++ (cond comma (44 ∷ []) [] ++ xs)) view)

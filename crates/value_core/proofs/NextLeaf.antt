-- The values that a node without children may be, by the form that is next.
use Rattle.std.proofs.Common.{◌≡◌, ◌-◌, ℕ, suc, ◌*◌, ℤ, pos, negsuc, ◌/◌, ◌<◌, ◌≤◌, ◌^◌, List, []}
use Rattle.std.proofs.Common.{◌∷◌, ◌++◌, Bool, true, false, length, refl, sym, ap, ◌∙◌, arith}
use Rattle.std.specs.Prelude.{not, nat_lt, ◌||◌, ◌&&◌, if◌then◌else◌}
use Rattle.std.specs.Str.{is_utf8}
use Rattle.std.proofs.lemmas.Bool.{lt-ltb, le-ltb, ltb-false}
use Rattle.scale_core.specs.Number.{AreBytes, number, signed_number, le_bytes, signed_bytes}
use Rattle.scale_core.specs.Number.{bool_byte, is_scalar}
use Rattle.scale_core.specs.Compact.{IsCompact, compact, target_bytes}
use Rattle.scale_core.specs.declared.compact.Target.{Target}
use Rattle.scale_core.specs.declared.compact.Target.TheVariants as target
use Rattle.scale_core.proofs.Numbers.{length-le_bytes, number-le_bytes, both_bytes, le_bytes-are}
use Rattle.scale_core.proofs.Modes.{are_compact}
use Rattle.types_core.specs.Kinds.{kind_of, width_bytes}
use Rattle.types_core.specs.declared.kind.IntegerWidth.{IntegerWidth}
use Rattle.types_core.specs.declared.kind.Signedness.{Signedness}
use Rattle.types_core.specs.declared.kind.PrimitiveKind.TheVariants as K
use Rattle.types_core.proofs.Widths.{width_halves, width_numbers}
use Rattle.types_core.specs.declared.primitive.Primitive.{Primitive}
use Rattle.types_core.specs.declared.primitive.Primitive.TheVariants as P
use Rattle.widths_core.specs.Layouts.{Plain, kind_layout, layout}
use Rattle.widths_core.specs.Layouts as layout
use Rattle.grammar_core.specs.Grammar.{Val}
use Rattle.grammar_core.specs.Forms.{form_of}
use Rattle.grammar_core.specs.Preorder as head
use Rattle.grammar_core.specs.Tree as tree
use Rattle.grammar_core.specs.Ways.{SpelledBy, way_of}
use Rattle.grammar_core.specs.declared.form.Form.{Form}
use Rattle.grammar_core.specs.declared.form.Form.TheVariants as form
use Rattle.grammar_core.specs.declared.form.Next.TheVariants as next
use Rattle.value_core.specs.Built.{FitsKind, IsNextLeaf}
use Rattle.widths_core.specs.RunBytes.{run_bytes}
use Rattle.widths_core.specs.declared.run_kind.RunKind.{RunKind}
use Rattle.widths_core.specs.declared.run_kind.RunKind.TheVariants as kind
use Rattle.grammar_core.specs.Runs.{IsRun, IsRunLength, run_form, run_leaf}
use Rattle.value_core.specs.Refusals.{most_unsigned, most_signed, is_within}
use Rattle.value_core.specs.Walked.{Walked, next_of}
use Rattle.value_core.proofs.Forms.{wanted, run_layout, empty_layout, primitive_has_layout}
use Rattle.value_core.proofs.Forms.{compact_has_layout, count_layout}

-- where a form is next whose types are laid out as a kind, what is spelled in the kind's way is a
-- value for it
leaf_next : (w : Walked) (f : Form) (p : Plain) (l : tree.Leaf) (own : List ℕ) →
    next_of w ≡ next.Wants f →
    ((t : ℕ) → form_of w.types t ≡ next.Wants f → layout w.types t ≡ layout.plain p) →
    AreBytes own → SpelledBy (way_of p) l own → IsNextLeaf w (head.leaf l)
unfolding Val
leaf_next w f p l own e laid are h = let k = wanted w f e in
    record {
      ty = k.ty;
      next = k.is_next;
      room = k.room;
      leaf = tt;
      own = own;
      are_bytes = are;
      value = (p, laid k.ty k.form_is, h);
    }

-- where the empty form is next, the unit is a value for it
pub empty_next : (w : Walked) → next_of w ≡ next.Wants form.Empty →
    IsNextLeaf w (head.leaf tree.unit)
empty_next w e =
    leaf_next w form.Empty layout.empty tree.unit [] e (empty_layout w.types) tt (refl, refl)

-- the byte of a boolean is below 256, and spells the boolean in its way
bool_spelled : (x : Bool) → (bool_byte x < 256)
    × SpelledBy (way_of layout.bool) (tree.bool x) (bool_byte x ∷ [])
bool_spelled true = (omega arith, (refl, refl, refl))
bool_spelled false = (omega arith, (refl, refl, refl))

-- where a boolean is next, each boolean is a value for it
pub bool_next : (w : Walked) (x : Bool) → next_of w ≡ next.Wants (form.Primitive P.Bool) →
    IsNextLeaf w (head.leaf (tree.bool x))
bool_next w x e =
    leaf_next w (form.Primitive P.Bool) layout.bool (tree.bool x) (bool_byte x ∷ []) e
    (λ t f. primitive_has_layout w.types t P.Bool f) ((bool_spelled x).0, tt) (bool_spelled x).1

-- where a count is next, each number below 2^32 is a value for it
pub count_next : (w : Walked) (n : ℕ) → n < 2 ^ 32 → next_of w ≡ next.Wants form.Count →
    IsNextLeaf w (head.leaf (tree.count n))
count_next w n h e =
    leaf_next w form.Count layout.counted (tree.count n) (compact n) e (count_layout w.types)
    (are_compact n) (n, refl, (omega (arith, h), refl))

-- numbers up to the greatest are those that fit the width
fits_width : (k n : ℕ) → 0 < k → n ≤ k - 1 → n < k
fits_width k n some h = omega (arith, some, h)

-- where an unsigned integer is next, each number up to its greatest is a value for it
pub unsigned_next : (w : Walked) (p : Primitive) (v : IntegerWidth) (n : ℕ) →
    next_of w ≡ next.Wants (form.Primitive p) → kind_of p ≡ K.Unsigned v → n ≤ most_unsigned v →
    IsNextLeaf w (head.leaf (tree.unsigned n))
unsigned_next w p v n e f h =
    let k = width_bytes v in
    leaf_next w (form.Primitive p) (layout.unsigned k) (tree.unsigned n) (le_bytes k n) e
    (λ t g. primitive_has_layout w.types t p g ∙ ap kind_layout f) (le_bytes-are k n) (
      length-le_bytes k n,
      ap tree.unsigned
          (sym (number-le_bytes k n (fits_width (256 ^ k) n (omega (arith, width_numbers v)) h))),
      refl,
    )

-- the length that stands before a run
run_own : (k : RunKind) (n : ℕ) → n < 2 ^ 32 → FitsKind k n → (c : List ℕ) × AreBytes c
    × IsRunLength k n c
run_own kind.Text n h f = (compact n, are_compact n, (omega (arith, h), refl))
run_own kind.Bytes n h f = (compact n, are_compact n, (omega (arith, h), refl))
run_own (kind.ByteArray m) n h f = ([], tt, (f, refl))
run_own (kind.Bits f) n h fits = (compact n, are_compact n, (omega (arith, h), refl))

-- where a run is next, one of its kind of a length below 2^32 is a value for it, if it allows that
pub run_next : (w : Walked) (k : RunKind) (n : ℕ) (s : List ℕ) →
    next_of w ≡ next.Wants (run_form k) → IsRun k n s → AreBytes s → length s ≡ run_bytes k n →
    n < 2 ^ 32 → FitsKind k n → IsNextLeaf w (head.leaf (run_leaf k (n, s)))
run_next w k n s e f a len h fits =
    let own = run_own k n h fits in
    leaf_next w (run_form k) (layout.run k) (run_leaf k (n, s)) (own.0 ++ s) e
    (λ t g. run_layout w.types t k g) (both_bytes own.0 s own.1 a)
    ((n, s), refl, (own.0, own.2, len, f, refl))

-- where a text is next, fewer than 2^32 bytes of UTF-8 are a value for it
pub text_next : (w : Walked) (s : List ℕ) → next_of w ≡ next.Wants (form.Primitive P.Str) →
    is_utf8 s ≡ true → AreBytes s → length s < 2 ^ 32 → IsNextLeaf w (head.leaf (tree.text s))
text_next w s e f a h = run_next w kind.Text (length s) s e f a refl h tt

-- where an integer of 256 bits is next, any 32 bytes are a value for it
pub wide_next : (w : Walked) (p : Primitive) (s : Signedness) (b : List ℕ) →
    next_of w ≡ next.Wants (form.Primitive p) → kind_of p ≡ K.Wide s → length b ≡ 32 → AreBytes b →
    IsNextLeaf w (head.leaf (tree.wide b))
wide_next w p s b e f h a = leaf_next w (form.Primitive p) layout.wide (tree.wide b) b e
    (λ t g. primitive_has_layout w.types t p g ∙ ap kind_layout f) a (h, refl, refl)

-- a number that the target's bytes can hold has a compact spelling
compact_own : (m : Target) (n : ℕ) → n < 256 ^ target_bytes m → (b : List ℕ) × AreBytes b
    × IsCompact m n b
compact_own target.Unit n h = ([], tt, (omega (arith, h), refl))
compact_own target.U8 n h = (compact n, are_compact n, (h, refl))
compact_own _ n h = (compact n, are_compact n, (h, refl))

-- where a compact is next, each number that its target's bytes can hold is a value for it
pub compact_next : (w : Walked) (m : Target) (n : ℕ) → next_of w ≡ next.Wants (form.Compact m) →
    n < 256 ^ target_bytes m → IsNextLeaf w (head.leaf (tree.compact n))
compact_next w m n e h =
    let own = compact_own m n h in
    leaf_next w (form.Compact m) (layout.compact m) (tree.compact n) own.0 e
    (λ t g. compact_has_layout w.types t m g) own.1 (n, refl, own.2)

-- ---- characters

-- a number that passes the three comparisons is a Unicode scalar value
pub scalar_is : (c : ℕ) →
    (if nat_lt c 0xd800 then true else (nat_lt 0xdfff c && nat_lt c 0x110000)) ≡ true →
    is_scalar c ≡ true
scalar_is c h = by (nat_lt c 0xd800) (nat_lt 0xdfff c && nat_lt c 0x110000) h where
  by : (a b : Bool) → (if a then true else b) ≡ true → (a || b) ≡ true
  by true b e = refl
  by false b e = e

-- where a character is next, each Unicode scalar value of four bytes is a value for it
pub char_next : (w : Walked) (c : ℕ) → next_of w ≡ next.Wants (form.Primitive P.Char) →
    is_scalar c ≡ true → c < 256 ^ 4 → IsNextLeaf w (head.leaf (tree.char c))
char_next w c e f h =
    let spelled : number (le_bytes 4 c) ≡ c = number-le_bytes 4 c h in
    leaf_next w (form.Primitive P.Char) layout.char (tree.char c) (le_bytes 4 c) e
    (λ t g. primitive_has_layout w.types t P.Char g) (le_bytes-are 4 c)
    (length-le_bytes 4 c, ap tree.char (sym spelled), rw (spelled, f) refl)

-- ---- signed integers

-- a number that does not lie above the greatest one is at most that
within_is : (n most : ℕ) → not (nat_lt most n) ≡ true → n ≤ most
within_is n most h = by (nat_lt most n) refl h where
  by : (b : Bool) → nat_lt most n ≡ b → not b ≡ true → n ≤ most
  by true e k = absurd cc
  by false e k = ltb-false most n e

-- what an integer of k bytes is in two's complement
signed_again : (k : ℕ) (half : ℕ) (z : ℤ) → 256 ^ k ≡ 2 * half → is_within z (half - 1) ≡ true →
    0 < half → signed_number (signed_bytes k z) ≡ z
signed_again k half (pos n) e h some =
    let small : n < half = omega (arith, within_is n (half - 1) h, some) in
    let spelled : number (le_bytes k n) ≡ n = number-le_bytes k n (omega (arith, e, small)) in
    rw (length-le_bytes k n, spelled, lt-ltb (2 * n) (256 ^ k) (omega (arith, e, small))) refl
signed_again k half (negsuc m) e h some =
    let small : m < half = omega (arith, within_is m (half - 1) h, some) in
    let word : number (le_bytes k (256 ^ k - suc m)) ≡ 256 ^ k - suc m =
    number-le_bytes k (256 ^ k - suc m) (omega (arith, e, small)) in
    let back : 256 ^ k - (256 ^ k - suc m) ≡ suc m = omega (arith, e, small) in
    rw (
      length-le_bytes k (256 ^ k - suc m),
      word,
      le-ltb (2 * (256 ^ k - suc m)) (256 ^ k) (omega (arith, e, small)),
      back,
    ) refl

-- an integer in k bytes of two's complement has k bytes
signed_long : (k : ℕ) (z : ℤ) → length (signed_bytes k z) ≡ k
signed_long k (pos n) = length-le_bytes k n
signed_long k (negsuc m) = length-le_bytes k (256 ^ k - suc m)

-- what spells an integer in two's complement is made of bytes
are_signed_bytes : (k : ℕ) (z : ℤ) → AreBytes (signed_bytes k z)
are_signed_bytes k (pos n) = le_bytes-are k n
are_signed_bytes k (negsuc m) = le_bytes-are k (256 ^ k - suc m)

-- where a signed integer is next, each number within its width is a value for it
pub signed_next : (w : Walked) (p : Primitive) (v : IntegerWidth) (z : ℤ) →
    next_of w ≡ next.Wants (form.Primitive p) → kind_of p ≡ K.Signed v →
    is_within z (most_signed v) ≡ true → IsNextLeaf w (head.leaf (tree.signed z))
signed_next w p v z e f h =
    let k = width_bytes v in
    leaf_next w (form.Primitive p) (layout.signed k) (tree.signed z) (signed_bytes k z) e
    (λ t g. primitive_has_layout w.types t p g ∙ ap kind_layout f) (are_signed_bytes k z) (
      signed_long k z,
      ap tree.signed
          (sym (signed_again k (256 ^ k / 2) z (width_halves v) h
          (omega (arith, width_halves v, width_numbers v)))),
      refl,
    )

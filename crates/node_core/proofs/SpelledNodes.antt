-- The bytes of a node as it is kept: what is computed, and after it what lies in the pool.
use Rattle.std.proofs.Common.{◌≡◌, ℕ, ◌+◌, ◌-◌, ◌*◌, ◌≤◌, ◌<◌, Bool, true, false, List}
use Rattle.std.proofs.Common.{[], ◌∷◌, ◌++◌, length, take, drop, Option, refl, sym, ap, subst, ◌∙◌}
use Rattle.std.proofs.Common.{arith}
use Rattle.std.specs.Prelude.{ℤ, pos, negsuc, slice_set, slice_range}
use mir.Val.{bool_byte as byte_of}
use Rattle.std.specs.Int.{w32, w128, cast_unsigned, to_le_bytes}
use Rattle.std.proofs.lemmas.List.{append-nil, take_at, length-take, length-drop}
use Rattle.scale_core.specs.Compact.{compact}
use Rattle.scale_core.specs.Number.{le_bytes, bool_byte}
use Rattle.scale_core.proofs.Numbers.{length-le_bytes}
use Rattle.scale_core.proofs.Fronts.{take-to_le_bytes_16, to_le_bytes_4}
use Rattle.types_core.specs.declared.definition.TypeDef.{TypeDef}
use Rattle.grammar_core.specs.Spelled.{width_of, word, index_of, index_byte, length_bytes}
use Rattle.node_core.specs.Encoding.{Starts}
use Rattle.node_core.specs.declared.node.Content.{Content}
use Rattle.node_core.specs.declared.node.Content.TheVariants as is

-- ---- what is put at the front of an array

-- where a byte was put at the front of an array, it is what this front of one byte has
pub one_front : (out : List ℕ) (x : ℕ) → 0 < length out → take 1 (slice_set out 0 x) ≡ x ∷ []
one_front [] x h = absurd (omega arith)
one_front (y ∷ out) x h = refl

-- where a compact spelling was put over the front of an array, it is what this front has
pub compact_front : (out old : List ℕ) (n k x : ℕ) → k ≡ length (compact n) →
    out ≡ compact n ++ drop k old → n ≡ x → take k out ≡ compact x
compact_front out old n k x len e same = ap (take k) e
    ∙ take_at (compact n) (drop k old) k (sym len) ∙ ap compact same

-- the first k of a number's sixteen bytes, at the front of an array, are the number in k bytes
pub integer_front : (part back spelled : List ℕ) (k n : ℕ) → k ≤ 16 → part ≡ take k spelled →
    spelled ≡ to_le_bytes w128 n → take k (part ++ back) ≡ le_bytes k n
integer_front part back spelled k n small front all =
    let is : part ≡ le_bytes k n = front ∙ ap (take k) all ∙ take-to_le_bytes_16 k n small in
    take_at part back k (ap length is ∙ length-le_bytes k n) ∙ is

-- a character's four bytes, at the front of an array, are the number in four bytes
pub char_front : (part back spelled : List ℕ) (n x : ℕ) → part ≡ spelled →
    spelled ≡ to_le_bytes w32 n → n ≡ x → take 4 (part ++ back) ≡ le_bytes 4 x
char_front part back spelled n x front all same =
    let is : part ≡ le_bytes 4 x = front ∙ all ∙ to_le_bytes_4 n ∙ ap (le_bytes 4) same in
    take_at part back 4 (ap length is) ∙ is

-- ---- an integer in two's complement

-- an integer cast to 128 bits without sign is its word
word-of : (z : ℤ) → cast_unsigned w128 z ≡ word z
word-of (pos n) = refl
word-of (negsuc m) = refl

-- ---- each kind of node

-- what stands before a node's bytes in the pool stays so where the content is an equal one
pub starts_as : (f : List ℕ) (d : Option TypeDef) (pool : List ℕ) (k : ℕ) (c e : Content) →
    c ≡ e → Starts f d pool k e → Starts f d pool k c
starts_as f d pool k c e is h = subst (Starts f d pool k) (sym is) h

-- the byte that is written for a boolean is the one that spells it
byte-of : (x : Bool) → byte_of x ≡ bool_byte x
byte-of true = refl
byte-of false = refl

-- the bytes of a boolean's node are its one byte
pub starts_bool : (f : List ℕ) (d : Option TypeDef) (pool : List ℕ) (k : ℕ) (x : Bool) →
    f ≡ byte_of x ∷ [] → Starts f d pool k (is.Bool x)
starts_bool f d pool k x e = append-nil f ∙ e ∙ ap (λ (b : ℕ). b ∷ []) (byte-of x)

-- the bytes of a character's node are its number in four bytes
pub starts_char : (f : List ℕ) (d : Option TypeDef) (pool : List ℕ) (k x : ℕ) → f ≡ le_bytes 4 x →
    Starts f d pool k (is.Char x)
starts_char f d pool k x e = append-nil f ∙ e

-- the bytes of an unsigned integer's node are the number in as many bytes as the type has
pub starts_unsigned : (f : List ℕ) (d : Option TypeDef) (pool : List ℕ) (k m n : ℕ) →
    f ≡ le_bytes (width_of d) m → m ≡ n → Starts f d pool k (is.Unsigned n)
starts_unsigned f d pool k m n e same = append-nil f ∙ e ∙ ap (le_bytes (width_of d)) same

-- the bytes of a signed integer's node are its word in as many bytes as the type has
pub starts_signed : (f : List ℕ) (d : Option TypeDef) (pool : List ℕ) (k m : ℕ) (y z : ℤ) →
    f ≡ le_bytes (width_of d) m → m ≡ cast_unsigned w128 y → y ≡ z →
    Starts f d pool k (is.Signed z)
starts_signed f d pool k m y z e cast same = append-nil f ∙ e
    ∙ ap (le_bytes (width_of d)) (cast ∙ ap (cast_unsigned w128) same ∙ word-of z)

-- the bytes of a compact integer's node are its compact spelling
pub starts_compact : (f : List ℕ) (d : Option TypeDef) (pool : List ℕ) (k n : ℕ) → f ≡ compact n →
    Starts f d pool k (is.Compact n)
starts_compact f d pool k n e = append-nil f ∙ e

-- the bytes of a count's node are its compact spelling
pub starts_count : (f : List ℕ) (d : Option TypeDef) (pool : List ℕ) (k n : ℕ) → f ≡ compact n →
    Starts f d pool k (is.Count n)
starts_count f d pool k n e = append-nil f ∙ e

-- the bytes of an arm's node are its index
pub starts_arm : (f : List ℕ) (d : Option TypeDef) (pool : List ℕ) (k q size : ℕ) →
    f ≡ index_byte (index_of d q) → Starts f d pool k (is.Arm q size)
starts_arm f d pool k q size e = append-nil f ∙ e

-- the bytes of a list's node are its length, or none for an array
pub starts_list : (f : List ℕ) (d : Option TypeDef) (pool : List ℕ) (k size : ℕ) →
    f ≡ length_bytes d k → Starts f d pool k (is.List size)
starts_list f d pool k size e = append-nil f ∙ e

-- a range that lies within the pool is as long as it says
length-range : (pool : List ℕ) (start len : ℕ) → start + len ≤ length pool →
    length (slice_range pool start (start + len)) ≡ len
length-range pool start len h =
    omega (
      arith,
      length-take (start + len - start) (drop start pool),
      length-drop {A = ℕ} start pool,
    )

-- before a text's bytes in the pool stands their compact length
pub starts_text : (f : List ℕ) (d : Option TypeDef) (pool : List ℕ) (k len start : ℕ) →
    start + len ≤ length pool → f ≡ compact len → Starts f d pool k (is.Text len start)
starts_text f d pool k len start h e =
    ap (λ (x : List ℕ). x ++ slice_range pool start (start + len))
    (e ∙ ap compact (sym (length-range pool start len h)))

-- before a run's bytes in the pool stands their length, or nothing for an array
pub starts_bytes : (f : List ℕ) (d : Option TypeDef) (pool : List ℕ) (k len start : ℕ) →
    start + len ≤ length pool → f ≡ length_bytes d len → Starts f d pool k (is.Bytes len start)
starts_bytes f d pool k len start h e =
    ap (λ (x : List ℕ). x ++ slice_range pool start (start + len))
    (e ∙ ap (length_bytes d) (sym (length-range pool start len h)))

-- before the words of bits in the pool stands the compact number of bits
pub starts_bits : (f : List ℕ) (d : Option TypeDef) (pool : List ℕ) (k unused len start : ℕ) →
    f ≡ compact (8 * len - unused) → Starts f d pool k (is.Bits unused len start)
starts_bits f d pool k unused len start e =
    ap (λ (x : List ℕ). x ++ slice_range pool start (start + len)) e

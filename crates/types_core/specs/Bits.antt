-- How bit sequences are read where bits are allowed: in which words, and in which order.
use Rattle.std.specs.Prelude.{ℕ, suc, ◌+◌, ◌-◌, ◌*◌, ◌/◌, ◌%◌, ◌^◌, min, nat_lt, ◌==◌, Bool, false}
use Rattle.std.specs.Prelude.{List, [], ◌∷◌, Option, Some, None, map, codes, length, slice_get}
use Rattle.std.specs.Prelude.{option_and_then, option_map, if◌then◌else◌}
use Rattle.std.specs.Str.{bytes_eq}
use Rattle.types_core.specs.declared.bits.BitForm.{BitForm}
use Rattle.types_core.specs.declared.bits.BitOrder.{BitOrder}
use Rattle.types_core.specs.declared.bits.BitOrder.TheVariants as order
use Rattle.types_core.specs.declared.definition.TypeDef.{TypeDef}
use Rattle.types_core.specs.declared.definition.TypeDef.TheVariants as def
use Rattle.types_core.specs.Kinds.{width_bytes}
use Rattle.types_core.specs.declared.kind.IntegerWidth.{IntegerWidth}
use Rattle.types_core.specs.declared.kind.IntegerWidth.TheVariants.{Bits8, Bits16, Bits32, Bits64}
use Rattle.types_core.specs.declared.primitive.Primitive.TheVariants as P
use Rattle.types_core.specs.declared.type_info.TypeInfo.{TypeInfo}

-- ---- the words of a bit sequence

-- how many bytes the words of n bits have
abbrev pub bits_bytes : BitForm → ℕ → ℕ
bits_bytes f n = let w = width_bytes f.store in (n / (8 * w) + min 1 (n % (8 * w))) * w

-- how many bits of the byte at a place stand for none of n bits, by the order: the highest ones; or
-- the lowest ones, which are those of the last word
abbrev pub spare_by : BitOrder → ℕ → ℕ → ℕ → ℕ → ℕ
spare_by order.Lsb0 len word n place = min (8 * (place + 1) - n) 8
spare_by order.Msb0 len word n place = if nat_lt place (len - word) then 0
    else min ((8 * len - n) - 8 * (place - (len - word))) 8

abbrev pub spare_bits : BitForm → ℕ → ℕ → ℕ
spare_bits f n place = spare_by f.order (bits_bytes f n) (width_bytes f.store) n place

-- so many bits of a byte are 0, by the order
abbrev pub is_clean_by : BitOrder → ℕ → ℕ → Bool
is_clean_by order.Lsb0 spare x = nat_lt x (2 ^ (8 - spare))
is_clean_by order.Msb0 spare x = x % 2 ^ spare == 0

-- the bits of the byte at a place that stand for none of n bits are 0
abbrev pub is_clean : BitForm → ℕ → ℕ → ℕ → Bool
is_clean f n place x = is_clean_by f.order (spare_bits f n place) x

-- how many bytes stand before the first one whose unused bits are not all 0, if there is one; the
-- bytes begin at a place
abbrev pub first_unused : BitForm → ℕ → ℕ → List ℕ → Option ℕ
first_unused f n place [] = None
first_unused f n place (x ∷ xs) =
    if is_clean f n place x then option_map suc (first_unused f n (suc place) xs) else Some 0

-- where the bit at a position stands: the place of its byte, and the weight 2^k of the bit there
abbrev pub bit_place : BitOrder → ℕ → ℕ → ℕ × ℕ
bit_place order.Lsb0 word i = (i / 8, i % 8)
bit_place order.Msb0 word i = (
  i / (8 * word) * word + (word - 1 - i % (8 * word) / 8),
  7 - i % (8 * word) % 8,
)

abbrev pub is_one_at : List ℕ → ℕ × ℕ → Bool
is_one_at s at = elim (slice_get s at.0) [ Some x ↦ x / 2 ^ at.1 % 2 == 1 | None ↦ false ]

-- the bit at a position is 1
abbrev pub is_one : BitForm → List ℕ → ℕ → Bool
is_one f s i = is_one_at s (bit_place f.order (width_bytes f.store) i)

-- ---- the bit sequences that are read

-- the width of the words that an unsigned integer of at most 64 bits is
abbrev pub store_of : TypeDef → Option IntegerWidth
store_of (def.Primitive P.U8) = Some Bits8
store_of (def.Primitive P.U16) = Some Bits16
store_of (def.Primitive P.U32) = Some Bits32
store_of (def.Primitive P.U64) = Some Bits64
store_of _ = None

-- the order that this name stands for
abbrev pub order_named : List ℕ → Option BitOrder
order_named name = if bytes_eq name (codes "Lsb0") then Some order.Lsb0
    else (if bytes_eq name (codes "Msb0") then Some order.Msb0 else None)

-- the order that the last name of a composite without fields stands for
abbrev pub order_by : TypeDef → List (List ℕ) → Option BitOrder
order_by (def.Composite []) path =
    option_and_then order_named (slice_get path (length path - 1))
order_by _ path = None

abbrev pub store_at : List TypeInfo → ℕ → Option IntegerWidth
store_at r t = option_and_then (λ i. store_of i.shape) (slice_get r t)

abbrev pub order_at : List TypeInfo → ℕ → Option BitOrder
order_at r t = option_and_then (λ i. order_by i.shape i.path) (slice_get r t)

-- how a bit sequence is read whose store and order are known
abbrev pub bit_form : List TypeInfo → ℕ → ℕ → Option BitForm
bit_form r store order =
    option_and_then (λ w. option_map (λ o. record { store = w; order = o }) (order_at r order))
    (store_at r store)

-- the definition with how it is read, where bits are allowed
abbrev pub allowed : List TypeInfo → TypeDef → TypeDef
allowed r (def.BitSequence store order form) =
    def.BitSequence store order (bit_form r store.0 order.0)
allowed r d = d

abbrev pub type_with_bits : List TypeInfo → TypeInfo → TypeInfo
type_with_bits r i = record {
  path = i.path;
  params = i.params;
  shape = allowed r i.shape;
  docs = i.docs;
}

-- the registry in which every known bit sequence is read
abbrev pub with_bits : List TypeInfo → List TypeInfo
with_bits r = map (type_with_bits r) r

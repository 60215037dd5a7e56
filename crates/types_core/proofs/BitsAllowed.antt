-- What stays of a registry while bits are allowed type by type.
use Rattle.std.proofs.Common.{◌≡◌, ℕ, ◌+◌, ◌<◌, zero, suc, List, [], ◌∷◌, ◌++◌, Option, refl}
use Rattle.std.proofs.Common.{arith, length, ap, get_or, set, sym, ◌∙◌, ◌≤◌}
use Rattle.std.specs.Prelude.{map, take, drop, slice_get, option_and_then}
use Rattle.std.specs.List.{AllByRecursion}
use Rattle.std.proofs.lemmas.List.Edits.{map_over_more}
use Rattle.types_core.specs.Bits.{allowed, bit_form, order_by, store_of}
use Rattle.types_core.specs.Bits.{type_with_bits, with_bits}
use Rattle.types_core.specs.Fits.{FitsDefinition, FitsRegistry, FitsType}
use Rattle.types_core.specs.declared.definition.TypeDef.{TypeDef}
use Rattle.types_core.specs.declared.definition.TypeDef.TheVariants as def
use Rattle.types_core.specs.declared.type_info.TypeInfo.{TypeInfo}

-- the registry whose first k types are allowed bits
abbrev pub so_far : ℕ → List TypeInfo → List TypeInfo
so_far k r = map (type_with_bits r) (take k r) ++ drop k r

-- what is the same of a type before and after is the same at each position
kept : {X : Type 0} (f : TypeInfo → TypeInfo) (g : TypeInfo → Option X) →
    ((i : TypeInfo) → g (f i) ≡ g i) → (r : List TypeInfo) (k t : ℕ) →
    option_and_then g (slice_get (map f (take k r) ++ drop k r) t)
    ≡ option_and_then g (slice_get r t)
kept f g same [] zero t = refl
kept f g same [] (suc k) t = refl
kept f g same (x ∷ r) zero t = refl
kept f g same (x ∷ r) (suc k) zero = same x
kept f g same (x ∷ r) (suc k) (suc t) = kept f g same r k t

-- allowing bits changes no store
store_same : (r : List TypeInfo) (d : TypeDef) → store_of (allowed r d) ≡ store_of d
store_same r (def.Composite fields) = refl
store_same r (def.Variant arms) = refl
store_same r (def.Sequence t) = refl
store_same r (def.Array n t) = refl
store_same r (def.Tuple ts) = refl
store_same r (def.Primitive p) = refl
store_same r (def.Compact t) = refl
store_same r (def.BitSequence store order form) = refl

-- nor an order
order_same : (r : List TypeInfo) (path : List (List ℕ)) (d : TypeDef) →
    order_by (allowed r d) path ≡ order_by d path
order_same r path (def.Composite fields) = refl
order_same r path (def.Variant arms) = refl
order_same r path (def.Sequence t) = refl
order_same r path (def.Array n t) = refl
order_same r path (def.Tuple ts) = refl
order_same r path (def.Primitive p) = refl
order_same r path (def.Compact t) = refl
order_same r path (def.BitSequence store order form) = refl

-- how a bit sequence is read is found alike in the registry that is under way
form_same : (r : List TypeInfo) (k store order : ℕ) →
    bit_form (so_far k r) store order ≡ bit_form r store order
form_same r k store order = rw (
  kept (type_with_bits r) (λ i. store_of i.shape) (λ i. store_same r i.shape) r k store,
  kept (type_with_bits r) (λ i. order_by i.shape i.path) (λ i. order_same r i.path i.shape) r k
      order,
) refl

-- a definition is allowed the same by a registry in which the first types are
allowed_same : (r : List TypeInfo) (k : ℕ) (d : TypeDef) → allowed (so_far k r) d ≡ allowed r d
allowed_same r k (def.Composite fields) = refl
allowed_same r k (def.Variant arms) = refl
allowed_same r k (def.Sequence t) = refl
allowed_same r k (def.Array n t) = refl
allowed_same r k (def.Tuple ts) = refl
allowed_same r k (def.Primitive p) = refl
allowed_same r k (def.Compact t) = refl
allowed_same r k (def.BitSequence store order form) =
    ap (def.BitSequence store order) (form_same r k store.0 order.0)

-- there are as many types
same_length : (f : TypeInfo → TypeInfo) (r : List TypeInfo) (k : ℕ) →
    length (map f (take k r) ++ drop k r) ≡ length r
same_length f [] zero = refl
same_length f [] (suc k) = refl
same_length f (x ∷ r) zero = refl
same_length f (x ∷ r) (suc k) = ap suc (same_length f r k)

-- one more type is allowed bits
pub one_more : (r types : List TypeInfo) (k : ℕ) (x : TypeInfo) (d : TypeDef) → k < length types →
    types ≡ so_far k r → x ≡ get_or types k x → d ≡ allowed types x.shape →
    set types k (record { path = x.path; params = x.params; shape = d; docs = x.docs })
    ≡ so_far (k + 1) r
one_more r types k x d lt e at is = rw (is, e, allowed_same r k x.shape)
    (map_over_more (type_with_bits r) r (so_far k r) k x inside refl
    (at ∙ ap (λ s. get_or s k x) e))
  where
    inside : k < length r
    inside = rw (sym (same_length (type_with_bits r) r k), sym e) lt

-- a registry in which bits are allowed has an encoding
fits_definition : (r : List TypeInfo) (d : TypeDef) → FitsDefinition d →
    FitsDefinition (allowed r d)
fits_definition r (def.Composite fields) h = h
fits_definition r (def.Variant arms) h = h
fits_definition r (def.Sequence t) h = h
fits_definition r (def.Array n t) h = h
fits_definition r (def.Tuple ts) h = h
fits_definition r (def.Primitive p) h = h
fits_definition r (def.Compact t) h = h
fits_definition r (def.BitSequence store order form) h = h

-- a type that fits still does
fits_type : (r : List TypeInfo) (x : TypeInfo) → FitsType x → FitsType (type_with_bits r x)
fits_type r x h = (h.0, h.1, fits_definition r x.shape h.2, h.3)

-- so do the types, of which the first are allowed bits
fits_types : (f : TypeInfo → TypeInfo) → ((x : TypeInfo) → FitsType x → FitsType (f x)) →
    (r : List TypeInfo) (k : ℕ) → AllByRecursion FitsType r →
    AllByRecursion FitsType (map f (take k r) ++ drop k r)
fits_types f fit [] zero h = h
fits_types f fit [] (suc k) h = h
fits_types f fit (x ∷ r) zero h = h
fits_types f fit (x ∷ r) (suc k) h = (fit x h.0, fits_types f fit r k h.1)

-- a registry in which the first types are allowed bits has an encoding
pub fits : (r types : List TypeInfo) (k : ℕ) → types ≡ so_far k r → FitsRegistry r →
    FitsRegistry types
fits r types k e h = rw e (
  rw (same_length (type_with_bits r) r k) h.0,
  fits_types (type_with_bits r) (fits_type r) r k h.1,
)

-- all are allowed bits
pub all_done : (r types : List TypeInfo) (k : ℕ) → types ≡ so_far k r → length types ≤ k →
    types ≡ with_bits r
all_done r types k e le = e ∙ done (type_with_bits r) r k
    (rw (sym (same_length (type_with_bits r) r k), sym e) le)
  where
    done : (f : TypeInfo → TypeInfo) (r : List TypeInfo) (k : ℕ) → length r ≤ k →
        map f (take k r) ++ drop k r ≡ map f r
    done f [] zero le = refl
    done f [] (suc k) le = refl
    done f (x ∷ r) zero le = elim le [ ]
    done f (x ∷ r) (suc k) le = ap (λ s. f x ∷ s) (done f r k (omega arith))

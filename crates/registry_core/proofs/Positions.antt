-- Types, each after its position: one more at the end.
use Rattle.std.proofs.Common.{◌≡◌, ℕ, ◌+◌, ◌<◌, List, [], ◌∷◌, ◌++◌, length, take, get_or, refl}
use Rattle.std.proofs.Common.{append_assoc, arith, length-take}
use Rattle.std.proofs.lemmas.List.{append-nil, take_more}
use Rattle.scale_core.specs.Compact.{compact}
use Rattle.types_core.specs.declared.type_info.TypeInfo.{TypeInfo}
use Rattle.registry_core.specs.Spelling.{type_info, types_from}

-- a type more at the end adds its position and its spelling
types_from-push : (i k : ℕ) (ts : List TypeInfo) (t : TypeInfo) → i + length ts ≡ k →
    types_from i (ts ++ t ∷ []) ≡ types_from i ts ++ (compact k ++ type_info t)
types_from-push i k [] t e = let same : i ≡ k = omega (arith, e) in rw (same, append-nil) refl
types_from-push i k (s ∷ ts) t e =
    let ih = types_from-push (i + 1) k ts t (omega (arith, e)) in
    rw (
      ih,
      append_assoc (compact i ++ type_info s) (types_from (i + 1) ts)
          (compact k ++ type_info t),
    ) refl

-- after the types before it, a type's position and its spelling come next
pub types_from-take : (bytes : List ℕ) (ts : List TypeInfo) (k : ℕ) (t : TypeInfo) → k < length ts →
    t ≡ get_or ts k t →
    ((bytes ++ types_from 0 (take k ts)) ++ compact k) ++ type_info t
    ≡ bytes ++ types_from 0 (take (k + 1) ts)
types_from-take bytes ts k t lt is =
    let len : length (take k ts) ≡ k = omega (arith, length-take k ts) in
    let more : types_from 0 (take (k + 1) ts)
    ≡ types_from 0 (take k ts) ++ (compact k ++ type_info t) =
    rw (take_more ts k t lt, ← is) (types_from-push 0 k (take k ts) t (omega (arith, len))) in
    rw more (simp append_assoc)

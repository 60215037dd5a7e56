-- How many synthetic types there are.
use Rattle.std.proofs.Common.{◌≡◌, ◌+◌, ◌≤◌, ℕ, List, [], ◌∷◌, ◌++◌, Bool, true, false, not, arith}
use Rattle.std.proofs.Common.{length, length-append, ◌&&◌, ap}
use Rattle.std.proofs.lemmas.List.{length-map}
use Rattle.types_core.specs.declared.definition.TypeDef.{TypeDef}
use Rattle.types_core.specs.declared.definition.TypeDef.TheVariants as def
use Rattle.types_core.specs.declared.primitive.Primitive.TheVariants.{U8}
use Rattle.types_core.specs.declared.type_info.TypeInfo.{TypeInfo}
use Rattle.chain_core.specs.declared.needs.Needs.{Needs}
use Rattle.chain_core.specs.declared.needs.SmallTypes.{SmallTypes}
use Rattle.chain_core.specs.declared.thing.Thing.{Thing}
use Rattle.chain_core.specs.Synthetic.{all_made, made, small_made, type_if}
use Rattle.chain_core.specs.Things.{Named, Stands, all_named, extrinsic, key, named, own, params}

-- a thing has at most one synthetic type
length-made : (s : SmallTypes) (t : Stands) → length (made s t) ≤ 1
length-made s (own id) = omega arith
length-made s (extrinsic types) = omega arith
length-made s (key parts) = omega arith
length-made s (params inputs) = omega arith

-- things have at most one each
length-all_made : (s : SmallTypes) (ts : List Named) → length (all_made s ts) ≤ length ts
length-all_made s [] = omega arith
length-all_made s (t ∷ ts) = omega (
  arith,
  length-append (made s t.stands) (all_made s ts),
  length-made s t.stands,
  length-all_made s ts,
)

-- a small type is one type at most
length-type_if : (b : Bool) (d : TypeDef) → length (type_if b d) ≤ 1
length-type_if true d = omega arith
length-type_if false d = omega arith

-- there are at most four small types
length-small_made : (n : Needs) (byte : ℕ) (has : Bool) → length (small_made n byte has) ≤ 4
length-small_made n byte has = simp length-append (omega (
  arith,
  length-type_if n.bytes8 (def.Array 8 (record { 0 = byte })),
  length-type_if n.bytes16 (def.Array 16 (record { 0 = byte })),
  length-type_if n.bytes32 (def.Array 32 (record { 0 = byte })),
  length-type_if (n.byte && not has) (def.Primitive U8),
))

-- there are at most as many synthetic types as things, and four
pub length-synthetic : (s : SmallTypes) (things : List Thing) (n : Needs) (byte : ℕ) (has : Bool)
    (ws xs ys : List TypeInfo) → ws ≡ [] → xs ≡ ws ++ all_made s (all_named things) →
    ys ≡ xs ++ small_made n byte has → length ys ≤ length things + 4
length-synthetic s things n byte has ws xs ys none first then = omega (
  arith,
  ap length then,
  length-append xs (small_made n byte has),
  ap length first,
  length-append ws (all_made s (all_named things)),
  ap length none,
  length-all_made s (all_named things),
  length-map things named,
  length-small_made n byte has,
)

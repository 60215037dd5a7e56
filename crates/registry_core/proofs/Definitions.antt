-- Definitions and types.
use Rattle.std.proofs.Common.{◌≡◌, ℕ, zero, suc, [], ◌∷◌, length}
use Rattle.std.proofs.Common.{Some, None, refl, append_assoc, arith, inl, inr}
use Rattle.std.specs.Prelude.{slice_get}
use Rattle.std.specs.List.{range_with_len}
use Rattle.std.proofs.lemmas.List.FromFn.{get_or-range_with_len}
use Rattle.std.proofs.lemmas.Option.{slice_get_within, slice_get-map, get_or_from_slice_get}
use Rattle.std.proofs.lemmas.Bool.{cases_lt, le-ltb, lt-ltb}
use Rattle.scale_core.specs.Read.{number_at}
use Rattle.types_core.specs.declared.definition.TypeDef.{TypeDef}
use Rattle.types_core.specs.declared.definition.TypeDef.TheVariants as def
use Rattle.types_core.specs.declared.primitive.Primitive.{Primitive}
use Rattle.types_core.specs.declared.primitive.Primitive.TheVariants.{Bool as bool_type}
use Rattle.types_core.specs.declared.type_info.TypeInfo.{TypeInfo}
use Rattle.registry_core.specs.declared.fault.RegistryReason.TheVariants as registry
use Rattle.types_core.specs.Bytes.{primitives, primitive_byte}
use Rattle.registry_core.specs.AsRead.{ReadDefinition, ReadType}
use Rattle.registry_core.specs.Spelling.{definition, type_info}
use Rattle.registry_core.specs.Reading.{lifted, primitive_at, array_at}
use Rattle.registry_core.specs.Reading.{bit_sequence_at, definition_at}
use Rattle.registry_core.specs.Reading.{type_info_at}
use Rattle.registry_core.specs.Laws.{SpelledIsRead}
use Rattle.registry_core.specs.Splits.{EndsBefore, AreFaults}
use Rattle.registry_core.proofs.Parts.{IsPart, stops, refused_is, Parts, next, last, then, again}
use Rattle.registry_core.proofs.Parts.{made}
use Rattle.registry_core.proofs.Atoms.{IsBehind, refused, followed, tagged_is, named_is, number_is}
use Rattle.registry_core.proofs.Atoms.{texts_is, id_is, ids_is}
use Rattle.registry_core.proofs.Records.{params_is, fields_is, arms_is}

-- ---- primitives

-- a primitive at a place of the list has that place's number as its byte
byte_of_place : (b : ℕ) (p : Primitive) → slice_get primitives b ≡ Some p → b ≡ primitive_byte p
byte_of_place b p e =
    let numbers = range_with_len 0 (length primitives) in
    let there : slice_get numbers b ≡ Some (primitive_byte p) =
    rw (slice_get-map primitive_byte primitives b, e) refl in
    omega (
      arith,
      get_or-range_with_len 0 (length primitives) b 0 (slice_get_within primitives b p e),
      get_or_from_slice_get numbers b (primitive_byte p) 0 there,
    )

-- each primitive is at the place of its byte
place_of_byte : (p : Primitive) → slice_get primitives (primitive_byte p) ≡ Some p
place_of_byte bool_type = refl
place_of_byte _ = refl

-- a primitive
primitive_is : IsPart (λ _. Unit {0}) (λ p. primitive_byte p ∷ []) primitive_at
primitive_is = named_is registry.BadPrimitive (slice_get primitives) primitive_byte
    (λ e. absurd cc) (λ e. absurd cc) byte_of_place place_of_byte

-- ---- definitions

-- a number of four bytes is rejected if there are fewer
pub number_faults : AreFaults (λ b. lifted (number_at 4 b)) (EndsBefore 4)
number_faults b why left bytes = elim (cases_lt (length b) 4) [
  | inl lt ↦ rw (lt-ltb (length b) 4 lt)
      (λ e. let r = refused_is e in (lt, r.0, r.1), λ h. rw (h.1, h.2) refl)
  | inr le ↦ rw (le-ltb (length b) 4 le) (λ e. absurd cc, λ h. absurd (omega (arith, le, h.0)))
]

-- the parts of an array's definition
abbrev pub array_parts : Parts TypeDef
array_parts = next number_is (stops number_is (EndsBefore 4) number_faults) (λ n.
    last id_is (λ element. def.Array n element))

-- the parts of a bit sequence's definition
abbrev pub bits_parts : Parts TypeDef
bits_parts = then id_is (λ store. last id_is (λ order. def.BitSequence store order None))

-- what is read of a definition after its byte
behind : (x : ℕ) → IsBehind ReadDefinition definition x (λ b. definition_at (x ∷ b))
unfolding definition_at array_at bit_sequence_at
behind zero = followed 0 (last fields_is def.Composite) (λ v h. (h, refl))
behind (suc zero) = followed 1 (last arms_is def.Variant) (λ v h. (h, refl))
behind (suc (suc zero)) = followed 2 (last id_is def.Sequence) (λ v h. (h, refl))
behind (suc (suc (suc zero))) = followed 3 array_parts (λ v h. (h, refl))
behind (suc (suc (suc (suc zero)))) = followed 4 (last ids_is def.Tuple) (λ v h. (h, refl))
behind (suc (suc (suc (suc (suc zero))))) =
    followed 5 (last primitive_is def.Primitive) (λ v h. (h, refl))
behind (suc (suc (suc (suc (suc (suc zero)))))) =
    followed 6 (last id_is def.Compact) (λ v h. (h, refl))
behind (suc (suc (suc (suc (suc (suc (suc zero))))))) =
    followed 7 bits_parts (λ v h. ((h.0, h.1, refl), refl))
behind (suc (suc (suc (suc (suc (suc (suc (suc x)))))))) =
    refused (suc (suc (suc (suc (suc (suc (suc (suc x)))))))) registry.BadDefinition
    (λ e. absurd cc) (λ e. absurd cc)

-- a definition is read as it is spelled
definition_again : SpelledIsRead ReadDefinition definition definition_at
unfolding definition_at array_at bit_sequence_at
definition_again (def.Composite fields) rest h = rw (fields_is.again fields rest h) refl
definition_again (def.Variant arms) rest h = rw (arms_is.again arms rest h) refl
definition_again (def.Sequence element) rest h = rw (id_is.again element rest h) refl
definition_again (def.Array n element) rest h = again array_parts (n, element) rest h
definition_again (def.Tuple members) rest h = rw (ids_is.again members rest h) refl
definition_again (def.Primitive p) rest h = rw (primitive_is.again p rest h) refl
definition_again (def.Compact target) rest h = rw (id_is.again target rest h) refl
definition_again (def.BitSequence store order form) rest h =
    rw h.2 (again bits_parts (store, order) rest (h.0, h.1))

-- a definition
pub definition_is : IsPart ReadDefinition definition definition_at
unfolding definition_at
definition_is = tagged_is refl behind definition_again

-- ---- types

-- the parts of a type
abbrev pub type_parts : Parts TypeInfo
type_parts = then texts_is (λ path.
    then params_is (λ params.
    then definition_is (λ shape.
    last texts_is (λ docs.
    record { path = path; params = params; shape = shape; docs = docs }))))

-- a type
pub type_is : IsPart ReadType type_info type_info_at
unfolding type_info_at
type_is =
    made type_parts (λ x h. ((h.0, h.1.0, h.1.1.0, h.1.1.1), simp append_assoc))
    (λ t h. ((t.path, (t.params, (t.shape, t.docs))), (h.0, (h.1, (h.2, h.3))), refl))

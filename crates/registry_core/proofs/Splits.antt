-- How the parts of a registry are rejected, by splits of their bytes.
use Rattle.std.proofs.Common.{◌≡◌, ℕ, zero, suc, ◌<◌, ◌≤◌, ◌^◌, Bool, true, false, cond}
use Rattle.std.proofs.Common.{List, [], ◌∷◌, ◌++◌, length, take, drop, Option, Some, None, Ok, Err}
use Rattle.std.proofs.Common.{refl, sym, ap, subst, ◌∙◌, append_assoc, arith, inl, inr}
use Rattle.std.specs.Prelude.{◌⊎◌, flat_map, slice_get}
use Rattle.std.specs.Str.{is_utf8}
use Rattle.std.specs.Str.Lossy.{utf8_valid_len}
use Rattle.std.specs.List.{AllByRecursion}
use Rattle.std.proofs.lemmas.Option.{slice_get_past}
use Rattle.std.proofs.lemmas.Bool.{cases_lt, le-ltb, lt-ltb}
use Rattle.std.proofs.lemmas.List.{take-append-drop, length-take, length-append, take_at}
use Rattle.scale_core.specs.Compact.{compact}
use Rattle.scale_core.specs.Read.{Read, ◌>>=◌, bytes_at, compact_at, text_at}
use Rattle.scale_core.specs.declared.compact.Target.TheVariants.{U32 as u32_target}
use Rattle.scale_core.specs.declared.fault.Reason.{Reason}
use Rattle.scale_core.specs.declared.fault.Reason.TheVariants as scale
use Rattle.scale_core.proofs.Results.{judged_front}
use Rattle.types_core.specs.declared.definition.TypeDef.TheVariants as def
use Rattle.types_core.specs.Bytes.{primitives}
use Rattle.registry_core.specs.declared.fault.RegistryReason.{RegistryReason}
use Rattle.registry_core.specs.declared.fault.RegistryReason.TheVariants as registry
use Rattle.registry_core.specs.Reading.{Reader, lifted, length_at, repeated, sequence_at, string_at}
use Rattle.registry_core.specs.Reading.{texts_at, option_at, type_id_at, type_ids_at, byte_at}
use Rattle.registry_core.specs.Reading.{param_at, params_at, field_at, fields_at, arm_read_at}
use Rattle.registry_core.specs.Reading.{arms_read_at, named, primitive_at, array_at}
use Rattle.registry_core.specs.Reading.{bit_sequence_at, pick, definitions, definition_at}
use Rattle.registry_core.specs.Reading.{type_info_at}
use Rattle.registry_core.specs.Splits.{Refusals, Fails, Then, NextOf, OneOf, EndsBefore, IsNoText}
use Rattle.registry_core.specs.Splits.{IsByte, Behind, OptionFails, AreFaults, PieceFaults}
use Rattle.registry_core.specs.Splits.{PartFaults, DefinitionFaults}
use Rattle.registry_core.proofs.Parts.{IsPart, told, fails, refused_is, mapped_faults}
use Rattle.registry_core.proofs.Parts.{then_stops, last, faults}
use Rattle.registry_core.proofs.Atoms.{byte_first, length_is, text_is, id_is, ids_is}
use Rattle.registry_core.proofs.Records.{param_parts, param_is, field_parts, field_is, fields_is}
use Rattle.registry_core.proofs.Records.{arm_parts, arm_is, arms_is}
use Rattle.registry_core.proofs.Definitions.{array_parts, bits_parts, type_parts}

-- ---- lists

-- n parts are rejected if fewer of them are there, and the next one is rejected
times_faults : {X : Type 0} {Fits : X → Type 0} {spell : X → List ℕ} {at : Reader X} →
    IsPart Fits spell at → (n : ℕ) → AreFaults (repeated n at) (NextOf Fits spell at n)
times_faults part zero = λ b why left all. (λ e. absurd cc, λ s. absurd (omega (arith, s.2)))
times_faults {X = X} {Fits = Fits} {spell = spell} {at = at} part (suc n) =
    told (repeated (suc n) at) (Then Fits spell at (λ _. NextOf Fits spell at n))
    (NextOf Fits spell at (suc n))
    ((then_stops part).faults
    (λ x b. repeated n at b >>= λ others. Ok (x ∷ others.0, others.1))
    (λ _. NextOf Fits spell at n) (λ x fits.
    mapped_faults (repeated n at) (λ others. x ∷ others) (NextOf Fits spell at n)
    (times_faults part n))) to (λ b why left s. from b why left s.0 s.1 s.2 s.3 s.4 s.5) where
      to : (b : List ℕ) (why : RegistryReason) (left : List ℕ) →
          Then Fits spell at (λ _. NextOf Fits spell at n) b why left →
          NextOf Fits spell at (suc n) b why left
      to b why left s = elim s [
        | inl e ↦ ([], b, omega arith, tt, refl, e)
        | inr s ↦ (
          s.0 ∷ s.4.0,
          s.4.1,
          omega (arith, s.4.2),
          (s.2, s.4.3),
          rw (s.3, s.4.4) (simp append_assoc),
          s.4.5,
        )
      ]

      from : (b : List ℕ) (why : RegistryReason) (left : List ℕ) (xs : List X) (c : List ℕ) →
          length xs < suc n → AllByRecursion Fits xs → b ≡ flat_map spell xs ++ c →
          Fails at c why left → Then Fits spell at (λ _. NextOf Fits spell at n) b why left
      from b why left [] c few fit is e = inl (rw is e)
      from b why left (x ∷ xs) c few fit is e = inr (
        x,
        flat_map spell xs ++ c,
        fit.0,
        rw is (simp append_assoc),
        (xs, c, omega (arith, few), fit.1, refl, e),
      )

-- a sequence is rejected if its length is, or one of its elements
sequence_faults : {X : Type 0} {Fits : X → Type 0} {spell : X → List ℕ} {at : Reader X} →
    IsPart Fits spell at → AreFaults (sequence_at at) (OneOf Fits spell at)
sequence_faults {Fits = Fits} {spell = spell} {at = at} part =
    (then_stops length_is).faults (λ n. repeated n at) (NextOf Fits spell at)
    (λ n small. times_faults part n)

-- ---- texts, options and bytes

-- two readings that are reported as those of a registry, one after the other
lifted_then : {X Y : Type 0} (r : Read Reason X) (f : X × List ℕ → Read Reason Y) →
    lifted (r >>= f) ≡ lifted r >>= λ x. lifted (f x)
lifted_then (Ok x) f = refl
lifted_then (Err e) f = refl

-- n bytes are rejected as a text if they end too soon, or if they are no text
front_faults : (n : ℕ) → AreFaults (λ b. lifted (bytes_at n b >>= judged_front b))
    (λ b why left. EndsBefore n b why left ⊎ IsNoText n b why left)
front_faults n b why left all = elim (cases_lt (length b) n) [
  | inl lt ↦ rw (lt-ltb (length b) n lt) (
    λ e. let r = refused_is e in inl (lt, r.0, r.1),
    λ s. elim s [
      | inl k ↦ rw (k.1, k.2) refl
      | inr k ↦ absurd (omega (arith, lt, length-append k.0 k.1, ap length k.2, k.3))
    ],
  )
  | inr le ↦ rw (le-ltb (length b) n le) (by (is_utf8 (take n b)) refl le)
] where
  judged : Bool → Read RegistryReason (List ℕ)
  judged t = lifted (cond t (Ok (take n b, drop n b))
      (Err (scale.BadUtf8, drop (utf8_valid_len (take n b)) b)))

  Fault : Type 0
  Fault = EndsBefore n b why left ⊎ IsNoText n b why left

  front : (s c : List ℕ) → b ≡ s ++ c → length s ≡ n → s ≡ take n b
  front s c is len = sym (take_at s c n len) ∙ ap (take n) (sym is)

  by : (t : Bool) → is_utf8 (take n b) ≡ t → n ≤ length b →
      (judged t ≡ Err (why, left) → Fault) × (Fault → judged t ≡ Err (why, left))
  by true is le = (
    λ e. absurd cc,
    λ s. elim s [
      | inl k ↦ absurd (omega (arith, le, k.0))
      | inr k ↦ let bad = rw (front k.0 k.1 k.2 k.3) at k.4 in absurd cc
    ],
  )
  by false is le = (
    λ e. let r = refused_is e in inr (
      take n b,
      drop n b,
      sym (take-append-drop n b),
      omega (arith, le, length-take n b),
      is,
      r.0,
      r.1,
    ),
    λ s. elim s [
      | inl k ↦ absurd (omega (arith, le, k.0))
      | inr k ↦ rw (k.5, k.6, front k.0 k.1 k.2 k.3) refl
    ],
  )

-- a text is rejected if its length is, if it ends too soon, or if its bytes are no text
string_faults : AreFaults string_at (Then (λ n. n < 2 ^ 32) compact length_at
    (λ n b why left. EndsBefore n b why left ⊎ IsNoText n b why left))
unfolding text_at
string_faults b why left all =
    let same : string_at b ≡ (length_at b >>= λ n. lifted (bytes_at n.0 n.1 >>= judged_front n.1)) =
    lifted_then (compact_at u32_target b) (λ n. bytes_at n.0 n.1 >>= judged_front n.1) in
    rw same
    ((then_stops length_is).faults (λ n b. lifted (bytes_at n b >>= judged_front b))
    (λ n b why left. EndsBefore n b why left ⊎ IsNoText n b why left)
    (λ n small. front_faults n) b why left all)

-- an option is rejected if it has no byte, if that is neither 0 nor 1, or if its part is
option_faults : {X : Type 0} (at : Reader X) → AreFaults (option_at at) (OptionFails at)
option_faults {X = X} at = byte_first (option_at at) Byte refl (λ why left k. elim k [
  | inl k ↦ absurd cc
  | inr k ↦ absurd cc
]) behind where
  Byte : Refusals
  Byte b why left = IsByte (λ x. 1 < x) registry.BadOption b why left
      ⊎ Behind 1 (Fails at) b why left

  behind : (x : ℕ) → x < 256 → AreFaults (λ c. option_at at (x ∷ c)) (λ c. Byte (x ∷ c))
  behind zero small c why left all = (
    λ e. absurd cc,
    λ s. elim s [
      | inl k ↦ let same : zero ≡ k.0 = cc in absurd (omega (arith, same, k.3))
      | inr k ↦ absurd cc
    ],
  )
  behind (suc zero) small c why left all =
      let same = mapped_faults at (λ x. Some x) (Fails at) (fails at) c why left all in (
        λ e. inr (c, refl, same.0 e),
        λ s. elim s [
          | inl k ↦ let one : suc zero ≡ k.0 = cc in absurd (omega (arith, one, k.3))
          | inr k ↦ let rest : c ≡ k.0 = cc in same.1 (rw rest k.2)
        ],
      )
  behind (suc (suc x)) small c why left all = (
    λ e. let r = refused_is e in inl (suc (suc x), c, refl, omega arith, r.0, r.1),
    λ s. elim s [ inl k ↦ rw (k.4, k.5) refl | inr k ↦ absurd cc ],
  )

-- a byte that has to name something is rejected if it names nothing
unnamed : {X : Type 0} (reason : RegistryReason) (name : ℕ → Option X) (x : ℕ) (o : Option X) →
    name x ≡ o → AreFaults (λ c. named reason (x ∷ c) o c)
    (λ c. IsByte (λ x. name x ≡ None) reason (x ∷ c))
unnamed reason name x (Some n) is c why left all = (
  λ e. absurd cc,
  λ k. let same : k.0 ≡ x = cc in
      let none : name x ≡ None = subst (λ (y : ℕ). name y ≡ None) same k.3 in absurd cc,
)
unnamed reason name x None is c why left all = (
  λ e. let r = refused_is e in (x, c, refl, is, r.0, r.1),
  λ k. rw (k.4, k.5) refl,
)

-- the same, if there may be no byte
pub named_faults : {X : Type 0} (reason : RegistryReason) (name : ℕ → Option X) →
    AreFaults (λ b. byte_at b >>= λ x. named reason b (name x.0) x.1)
    (λ b why left. EndsBefore 1 b why left ⊎ IsByte (λ x. name x ≡ None) reason b why left)
named_faults reason name = byte_first (λ b. byte_at b >>= λ x. named reason b (name x.0) x.1)
    (IsByte (λ x. name x ≡ None) reason) refl (λ why left k. absurd cc)
    (λ x small. unnamed reason name x (name x) refl)

-- ---- lists, records and definitions

-- the faults of lengths, texts, options and lists
pub piece_faults : PieceFaults
unfolding texts_at type_ids_at params_at fields_at arms_read_at
piece_faults = record {
  text_faults = string_faults;
  option_of_text = option_faults string_at;
  option_of_id = option_faults type_id_at;
  texts_faults = sequence_faults text_is;
  ids = sequence_faults id_is;
  params = sequence_faults param_is;
  fields = sequence_faults field_is;
  arms = sequence_faults arm_is;
}

-- the faults of parameters, fields, arms and types
pub part_faults : PartFaults
unfolding param_at field_at arm_read_at type_info_at
part_faults = record {
  param_faults = faults param_parts;
  field_faults = faults field_parts;
  arm_faults = faults arm_parts;
  type_faults = faults type_parts;
}

-- a place where a list has nothing is past its end
none_past : {X : Type 0} (xs : List X) (i : ℕ) → slice_get xs i ≡ None → length xs ≤ i
none_past [] i e = omega arith
none_past (x ∷ xs) zero e = absurd cc
none_past (x ∷ xs) (suc i) e = omega (arith, none_past xs i e)

-- a primitive is rejected if its byte is missing or above 14
primitive_faults : AreFaults primitive_at (λ b why left. EndsBefore 1 b why left
    ⊎ IsByte (λ x. 14 < x) registry.BadPrimitive b why left)
primitive_faults = told primitive_at
    (λ b why left. EndsBefore 1 b why left
    ⊎ IsByte (λ x. slice_get primitives x ≡ None) registry.BadPrimitive b why left)
    (λ b why left. EndsBefore 1 b why left ⊎ IsByte (λ x. 14 < x) registry.BadPrimitive b why left)
    (named_faults registry.BadPrimitive (slice_get primitives)) (λ b why left s. elim s [
      | inl k ↦ inl k
      | inr k ↦ inr (k.0, k.1, k.2, omega (arith, none_past primitives k.0 k.3), k.4, k.5)
    ]) (λ b why left s. elim s [
      | inl k ↦ inl k
      | inr k ↦ inr (k.0, k.1, k.2, slice_get_past primitives k.0 (omega (arith, k.3)), k.4, k.5)
    ])

-- past the end of a list, the other is picked
pick_past : {X : Type 0} (xs : List X) (i : ℕ) (other : X) → length xs ≤ i →
    pick xs i other ≡ other
pick_past [] i other h = refl
pick_past (x ∷ xs) zero other h = absurd (omega (arith, h))
pick_past (x ∷ xs) (suc i) other h = pick_past xs i other (omega (arith, h))

-- the faults of definitions
pub definition_faults : DefinitionFaults
unfolding definition_at array_at bit_sequence_at
definition_faults = record {
  none = refl;
  unknown = λ x c past.
      rw (pick_past definitions x (λ _. Err (registry.BadDefinition, x ∷ c)) past) refl;
  composite = faults (last fields_is def.Composite);
  variant = faults (last arms_is def.Variant);
  sequence = faults (last id_is def.Sequence);
  array = faults array_parts;
  tuple = faults (last ids_is def.Tuple);
  primitive = mapped_faults primitive_at def.Primitive (λ b why left. EndsBefore 1 b why left
      ⊎ IsByte (λ x. 14 < x) registry.BadPrimitive b why left) primitive_faults;
  compact = faults (last id_is def.Compact);
  bit_sequence = faults bits_parts;
}

-- The smallest parts of a registry, and lists and options of parts.
use Rattle.std.proofs.Common.{◌≡◌, ℕ, zero, suc, ◌<◌, ◌≤◌, ◌^◌, ltb, List, [], ◌∷◌, ◌++◌, length}
use Rattle.std.proofs.Common.{take, drop, Option, Some, None, Ok, Err, refl, sym, ap, ◌∙◌, arith}
use Rattle.std.proofs.Common.{inl, inr, length-append}
use Rattle.std.specs.Prelude.{◌≢◌, ◌⊎◌, flat_map}
use Rattle.std.specs.List.{AllByRecursion}
use Rattle.std.proofs.lemmas.Bool.{cases_lt, le-ltb, lt-ltb, ltb-false}
use Rattle.std.proofs.lemmas.List.{take-append-drop, length-take, take-append-le, drop-append-le}
use Rattle.growth_core.specs.Evidence.{evidence}
use Rattle.scale_core.specs.Number.{AreBytes, le_bytes}
use Rattle.scale_core.specs.Compact.{compact}
use Rattle.scale_core.specs.Text.{IsText}
use Rattle.scale_core.specs.Read.{Read, ◌>>=◌, compact_at, text_at, number_at}
use Rattle.scale_core.specs.declared.compact.Target.TheVariants.{U32 as u32_target}
use Rattle.scale_core.specs.declared.fault.Reason.{Reason}
use Rattle.scale_core.specs.declared.fault.Reason.TheVariants as scale
use Rattle.scale_core.proofs.Again.{compact_again, text_again, number_again}
use Rattle.scale_core.proofs.Numbers.{front_bytes, length-le_bytes, number-le_bytes}
use Rattle.scale_core.proofs.Numbers.{le_bytes-number, number-bound}
use Rattle.scale_core.proofs.Results.{Takes, Extends, cond_takes, then_takes, mapped}
use Rattle.scale_core.proofs.Results.{compact_takes, text_takes, compact_extends, text_extends}
use Rattle.registry_core.specs.declared.fault.RegistryReason.{RegistryReason}
use Rattle.registry_core.specs.declared.fault.RegistryReason.TheVariants as registry
use Rattle.types_core.specs.Fits.{FitsList, FitsText, FitsTexts, FitsOption, FitsId}
use Rattle.registry_core.specs.Spelling.{sequence, text, texts, option, type_id}
use Rattle.registry_core.specs.Reading.{Reader, registry_reason_of, lifted, length_at, repeated}
use Rattle.registry_core.specs.Reading.{sequence_at, string_at, texts_at, option_at, type_id_at}
use Rattle.registry_core.specs.Reading.{type_ids_at, byte_at, named}
use Rattle.registry_core.specs.Laws.{SpelledIsRead}
use Rattle.registry_core.specs.Splits.{Refusals, EndsBefore, Behind, AreFaults}
use Rattle.registry_core.proofs.Inside.{Inside, CutAtEnd, at_end, at_front, after_byte}
use Rattle.registry_core.proofs.Inside.{number_inside, compact_inside, text_inside}
use Rattle.registry_core.proofs.Parts.{IsReported, Spelled, IsPart, refused_is, StopsBy}
use Rattle.registry_core.proofs.Parts.{Parts, last, tail, then, read, Values, value, bytes, Fit}
use Rattle.registry_core.proofs.Parts.{AreSpelled, takes, inside, extends, made}

-- ---- integers and texts

-- a fault is reported as cut only where it was one
cut : (reason : Reason) → registry_reason_of reason ≡ registry.Truncated → reason ≡ scale.Truncated
cut scale.Truncated e = refl
cut _ e = absurd cc

-- no fault of an integer or a text is reported as an allocation failure
no_memory : (reason : Reason) → registry_reason_of reason ≢ registry.OutOfMemory evidence
no_memory scale.Truncated e = absurd cc
no_memory _ e = absurd cc

-- the same bytes are taken where a fault is reported as one of a registry
lifted_takes : {X : Type 0} (P : X → List ℕ → Type 0) (b : List ℕ) (r : Read Reason X) →
    Takes P b r → Takes P b (lifted r)
lifted_takes P b (Ok x) h = h
lifted_takes P b (Err e) h = tt

-- a fault stands within the bytes also where it is reported as one of a registry
lifted_inside : {X : Type 0} (b : List ℕ) (r : Read Reason X) → Inside CutAtEnd b r →
    Inside IsReported b (lifted r)
lifted_inside b (Ok x) h = h
lifted_inside b (Err e) h = (h.0, (no_memory e.0, λ same. h.1 (cut e.0 same)))

-- what is read alike from a longer input is so also where its fault is reported as one of a
-- registry
lifted_extends : {X : Type 0} (more : List ℕ) (r s : Read Reason X) →
    Extends scale.Truncated more r s → Extends registry.Truncated more (lifted r) (lifted s)
lifted_extends more (Ok x) s h = rw h refl
lifted_extends more (Err e) s h = λ ne. rw (h (λ same. ne (ap registry_reason_of same))) refl

-- an integer or a text is a part of a registry
lifted_is : {X : Type 0} {Fits : X → Type 0} {spell : X → List ℕ}
    (at : List ℕ → Read Reason X) →
    ((b : List ℕ) → AreBytes b → Takes (Spelled Fits spell) b (at b)) →
    ((x : X) (rest : List ℕ) → Fits x → at (spell x ++ rest) ≡ Ok (x, rest)) →
    ((b : List ℕ) → Inside CutAtEnd b (at b)) →
    ((b more : List ℕ) → Extends scale.Truncated more (at b) (at (b ++ more))) →
    IsPart Fits spell (λ b. lifted (at b))
lifted_is {Fits = Fits} {spell = spell} at takes again inside extends = record {
  takes = λ b bytes. lifted_takes (Spelled Fits spell) b (at b) (takes b bytes);
  again = λ x rest fits. rw (again x rest fits) refl;
  inside = λ b. lifted_inside b (at b) (inside b);
  extends = λ b more. lifted_extends more (at b) (at (b ++ more)) (extends b more);
}

-- a length
pub length_is : IsPart (λ n. n < 2 ^ 32) compact length_at
length_is = lifted_is (compact_at u32_target) (λ b bytes. compact_takes u32_target b)
    (λ n rest small. compact_again u32_target n (compact n) rest (small, refl)) compact_inside
    (compact_extends u32_target)

-- a text
pub text_is : IsPart FitsText text string_at
text_is = lifted_is text_at
    (λ b bytes. mapped IsText (Spelled FitsText text) b (text_at b) (text_takes b)
    (λ s c h. ((h.1.0, h.2), h.3 ∙ ap (λ (x : List ℕ). x ++ s) h.1.1)))
    (λ s rest h. text_again s (text s) rest (compact (length s), (h.0, refl), h.1, refl))
    text_inside text_extends

-- a number of four bytes that is read stood on the front, and fits 32 bits
u32_takes : (b : List ℕ) → AreBytes b →
    Takes (Spelled (λ n. n < 2 ^ 32) (le_bytes 4)) b (number_at 4 b)
u32_takes b bytes = cond_takes (Spelled (λ n. n < 2 ^ 32) (le_bytes 4)) b (ltb (length b) 4) _ _
    (λ e. tt) (λ e.
    let long : 4 ≤ length b = ltb-false _ _ e in
    let len : length (take 4 b) ≡ 4 = omega (arith, length-take 4 b) in
    let split = sym (take-append-drop 4 b) in
    let both : AreBytes (take 4 b ++ drop 4 b) = rw (← split) bytes in
    let front = front_bytes (take 4 b) (drop 4 b) both in (
      take 4 b,
      split,
      (
        rw len at (number-bound (take 4 b) front),
        sym (rw len at (le_bytes-number (take 4 b) front)),
      ),
    ))

-- a number is read alike from a longer input, where it was not cut
number_extends : (k : ℕ) (b more : List ℕ) →
    Extends scale.Truncated more (number_at k b) (number_at k (b ++ more))
number_extends k b more = elim (cases_lt (length b) k) [
  | inl lt ↦ rw (lt-ltb (length b) k lt) (λ ne. absurd (ne refl))
  | inr le ↦ rw (
    le-ltb (length b) k le,
    le-ltb (length (b ++ more)) k (omega (arith, length-append b more)),
    take-append-le k b more le,
    drop-append-le k b more le,
  ) refl
]

-- a number of four bytes
pub number_is : IsPart (λ n. n < 2 ^ 32) (le_bytes 4) (λ b. lifted (number_at 4 b))
number_is = lifted_is (number_at 4) u32_takes (λ n rest small. rw (
  number_again 4 (le_bytes 4 n) rest (length-le_bytes 4 n),
  number-le_bytes 4 n small,
) refl) (number_inside 4) (number_extends 4)

-- ---- bytes

-- the laws of what is read after the byte x
pub record IsBehind {Z : Type 0} (Fits : Z → Type 0) (spell : Z → List ℕ) (x : ℕ)
    (at : Reader Z) : Type 0 where
  pub takes : (b : List ℕ) → x < 256 → AreBytes b → Takes (Spelled Fits spell) (x ∷ b) (at b)
  pub inside : (b : List ℕ) → Inside IsReported (x ∷ b) (at b)
  pub extends : (b more : List ℕ) → Extends registry.Truncated more (at b) (at (b ++ more))

-- after a byte that is all of the spelling of z, nothing is read
pub taken : {Z : Type 0} {Fits : Z → Type 0} {spell : Z → List ℕ} (x : ℕ) (z : Z) →
    (x < 256 → Spelled Fits spell z (x ∷ [])) → IsBehind Fits spell x (λ b. Ok (z, b))
taken x z is = record {
  takes = λ b small all. (x ∷ [], refl, is small);
  inside = λ b. (x ∷ [], refl);
  extends = λ b more. refl;
}

-- a byte is rejected, neither as a cut nor as an allocation failure
pub refused : {Z : Type 0} {Fits : Z → Type 0} {spell : Z → List ℕ} (x : ℕ)
    (reason : RegistryReason) → reason ≢ registry.OutOfMemory evidence →
    reason ≢ registry.Truncated →
    IsBehind Fits spell x (λ b. Err (reason, x ∷ b))
refused x reason no_memory no_cut = record {
  takes = λ b small all. tt;
  inside = λ b. (at_front (x ∷ b), (no_memory, λ e. absurd (no_cut e)));
  extends = λ b more ne. refl;
}

-- parts are read after a byte
pub followed : {Z : Type 0} {Fits : Z → Type 0} {spell : Z → List ℕ} (x : ℕ) (parts : Parts Z) →
    ((v : Values parts) → Fit parts v →
    Spelled Fits spell (value parts v) (x ∷ bytes parts v)) → IsBehind Fits spell x (read parts)
followed {Fits = Fits} {spell = spell} x parts to = record {
  takes = λ b small all. then_takes (Spelled Fits spell) (x ∷ b) (x ∷ []) b (read parts b) refl
      (mapped (AreSpelled parts) (λ z c. Spelled Fits spell z (x ∷ c)) b (read parts b)
      (takes parts b all) (λ z c s. rw (s.2, s.3) (to s.0 s.1)));
  inside = λ b. after_byte IsReported x b (read parts b) (inside parts b);
  extends = extends parts;
}

-- a part that begins with a byte, by what is read after each
pub tagged_is : {Z : Type 0} {Fits : Z → Type 0} {spell : Z → List ℕ} {at : Reader Z} →
    at [] ≡ Err (registry.Truncated, []) →
    ((x : ℕ) → IsBehind Fits spell x (λ b. at (x ∷ b))) → SpelledIsRead Fits spell at →
    IsPart Fits spell at
tagged_is none behind again = record {
  takes = elim [ [] ↦ λ all. rw none tt | x ∷ b ↦ λ all. (behind x).takes b all.0 all.1 ];
  again = again;
  inside = elim [
    | [] ↦ rw none (at_end [], (λ e. absurd cc, λ e. refl))
    | x ∷ b ↦ (behind x).inside b
  ];
  extends = elim [
    | [] ↦ λ more. rw none (λ ne. absurd (ne refl))
    | x ∷ b ↦ (behind x).extends b
  ];
}

-- a byte
pub byte_is : IsPart (λ x. x < 256) (λ x. x ∷ []) byte_at
byte_is = tagged_is refl (λ x. taken x x (λ small. (small, refl))) (λ x rest fits. refl)

-- a byte that names something
pub named_is : {X : Type 0} (reason : RegistryReason) (name : ℕ → Option X) (byte : X → ℕ) →
    reason ≢ registry.OutOfMemory evidence → reason ≢ registry.Truncated →
    ((b : ℕ) (x : X) → name b ≡ Some x → b ≡ byte x) → ((x : X) → name (byte x) ≡ Some x) →
    IsPart (λ _. Unit {0}) (λ x. byte x ∷ [])
    (λ bytes. byte_at bytes >>= λ b. named reason bytes (name b.0) b.1)
named_is {X = X} reason name byte no_memory no_cut names named_by =
    tagged_is refl (λ b. by b (name b) (names b)) (λ x rest fits. rw (named_by x) refl) where
      by : (b : ℕ) (o : Option X) → ((x : X) → o ≡ Some x → b ≡ byte x) →
          IsBehind (λ _. Unit {0}) (λ x. byte x ∷ []) b (λ rest. named reason (b ∷ rest) o rest)
      by b (Some x) is = taken b x (λ small. (tt, ap (λ (n : ℕ). n ∷ []) (is x refl)))
      by b None is = refused b reason no_memory no_cut

-- what begins with a byte is rejected if there is none, or after the byte in the ways R
pub byte_first : {Z : Type 0} (at : Reader Z) (R : Refusals) →
    at [] ≡ Err (registry.Truncated, []) →
    ((why : RegistryReason) (left : List ℕ) → R [] why left → ⊥) →
    ((x : ℕ) → x < 256 → AreFaults (λ c. at (x ∷ c)) (λ c. R (x ∷ c))) →
    AreFaults at (λ b why left. EndsBefore 1 b why left ⊎ R b why left)
byte_first at R none never h [] why left all = (
  λ e. let r = refused_is (rw none at e) in inl (omega arith, r.0, r.1),
  λ s. elim s [ inl k ↦ rw (none, k.1, k.2) refl | inr k ↦ absurd (never why left k) ],
)
byte_first at R none never h (x ∷ c) why left all =
    let both = h x all.0 c why left all.1 in (
      λ e. inr (both.0 e),
      λ s. elim s [ inl k ↦ absurd (omega (arith, k.0)) | inr k ↦ both.1 k ],
    )

-- a byte and what follows it are rejected if there is no byte, or if what follows is
pub byte_stops : StopsBy (λ x. x < 256) byte_at
    (λ S b why left. EndsBefore 1 b why left ⊎ ((x : ℕ) × Behind x (S x) b why left))
byte_stops = record {
  faults = λ rest S h. byte_first (λ b. byte_at b >>= λ x. rest x.0 x.1)
      (λ b why left. (x : ℕ) × Behind x (S x) b why left) refl (λ why left k. absurd cc)
      (λ x small c why left all. let both = h x small c why left all in (
        λ e. (x, (c, refl, both.0 e)),
        λ k. let same : x ≡ k.0 = cc in let rest : c ≡ k.1.0 = cc in
            both.1 (rw (same, rest) k.1.2),
      ));
}

-- ---- lists and options

-- n parts, one after the other
times_is : {X : Type 0} {Fits : X → Type 0} {spell : X → List ℕ} {at : Reader X} →
    IsPart Fits spell at → (n : ℕ) →
    IsPart (λ xs. (length xs ≡ n) × AllByRecursion Fits xs) (flat_map spell) (repeated n at)
times_is part zero = record {
  takes = λ b bytes. ([], refl, ((refl, tt), refl));
  again = elim [ [] ↦ λ rest fits. refl | x ∷ xs ↦ λ rest fits. absurd (omega (arith, fits.0)) ];
  inside = at_front;
  extends = λ b more. refl;
}
times_is part (suc n) = made (then part (λ x. last (times_is part n) (λ xs. x ∷ xs)))
    (λ x fits. ((ap (λ (i : ℕ). suc i) fits.1.0, (fits.0, fits.1.1)), refl))
    (elim [
      | [] ↦ λ fits. absurd (omega (arith, fits.0))
      | x ∷ xs ↦ λ fits. ((x, xs), (fits.1.0, (omega (arith, fits.0), fits.1.1)), refl)
    ])

-- a sequence of parts
pub sequence_is : {X : Type 0} {Fits : X → Type 0} {spell : X → List ℕ} {at : Reader X} →
    IsPart Fits spell at → IsPart (FitsList Fits) (sequence spell) (sequence_at at)
sequence_is part = made (then length_is (λ n. tail (times_is part n)))
    (λ x fits. ((omega (arith, fits.0, fits.1.0), fits.1.1), rw fits.1.0 refl))
    (λ xs fits. ((length xs, xs), (fits.0, (refl, fits.1)), refl))

-- an option of a part
pub option_is : {X : Type 0} {Fits : X → Type 0} {spell : X → List ℕ} {at : Reader X} →
    IsPart Fits spell at → IsPart (FitsOption Fits) (option spell) (option_at at)
option_is {Fits = Fits} {spell = spell} {at = at} part = tagged_is refl behind (elim [
  | None ↦ λ rest fits. refl
  | Some x ↦ λ rest fits. rw (part.again x rest fits) refl
]) where
  behind : (x : ℕ) → IsBehind (FitsOption Fits) (option spell) x (λ b. option_at at (x ∷ b))
  behind zero = taken 0 None (λ small. (tt, refl))
  behind (suc zero) = followed 1 (last part (λ x. Some x)) (λ x fits. (fits, refl))
  behind (suc (suc x)) =
      refused (suc (suc x)) registry.BadOption (λ e. absurd cc) (λ e. absurd cc)

-- texts
pub texts_is : IsPart FitsTexts texts texts_at
unfolding texts_at
texts_is = sequence_is text_is

-- a reference to a type
pub id_is : IsPart FitsId type_id type_id_at
id_is = made (last length_is (λ n. record { 0 = n })) (λ n fits. (fits, refl))
    (λ t fits. (t.0, fits, refl))

-- references to types
pub ids_is : IsPart (FitsList FitsId) (sequence type_id) type_ids_at
unfolding type_ids_at
ids_is = sequence_is id_is

-- How types, registries and metadata are rejected, by splits of their bytes.
use Rattle.std.proofs.Common.{◌≡◌, ℕ, zero, suc, ◌+◌, ◌<◌, ◌≤◌, ◌^◌, Bool, true, false}
use Rattle.std.proofs.Common.{List, [], ◌∷◌, ◌++◌, length, Option, Some, None, Ok, Err}
use Rattle.std.proofs.Common.{add-zero, refl, ap, subst, ◌∙◌, append_assoc, arith, inl, inr}
use Rattle.std.specs.Prelude.{◌≢◌, ◌⊎◌, ◌==◌}
use Rattle.std.specs.List.{AllByRecursion}
use Rattle.std.proofs.lemmas.Bool.{eqb-true, eq-eqb}
use Rattle.scale_core.specs.Compact.{compact}
use Rattle.scale_core.specs.Read.{Read, ◌>>=◌}
use Rattle.registry_core.specs.declared.fault.RegistryReason.{RegistryReason}
use Rattle.registry_core.specs.declared.fault.RegistryReason.TheVariants as registry
use Rattle.types_core.specs.declared.type_info.TypeInfo.{TypeInfo}
use Rattle.registry_core.specs.declared.version.Version.{Version}
use Rattle.registry_core.specs.AsRead.{ReadType}
use Rattle.registry_core.specs.Bytes.{magic, version_byte, version_of}
use Rattle.registry_core.specs.Spelling.{type_info, types_from}
use Rattle.registry_core.specs.Reading.{length_at, type_info_at, id_at, types_at}
use Rattle.registry_core.specs.Reading.{registry_at, letter_at, letters_at, version_at, prefix_at}
use Rattle.registry_core.specs.Reading.{metadata_at}
use Rattle.registry_core.specs.Splits.{Refusals, Fails, Then, EndsBefore, IsByte}
use Rattle.registry_core.specs.Splits.{PlacedFails, NextType, LetterFails, VersionFails, AreFaults}
use Rattle.registry_core.specs.Splits.{RegistryFaults}
use Rattle.registry_core.proofs.Parts.{told, refused_is, mapped_faults, fails, OrAfter, stops}
use Rattle.registry_core.proofs.Parts.{then_stops}
use Rattle.registry_core.proofs.Atoms.{byte_first, length_is}
use Rattle.registry_core.proofs.Definitions.{type_is}
use Rattle.registry_core.proofs.Registries.{tested, position_is, letter_is, letters_is}
use Rattle.registry_core.proofs.Registries.{byte_of_version, version_of_byte, version_is}
use Rattle.registry_core.proofs.Splits.{named_faults}

-- j is rejected at the bytes b, since it differs from i
abbrev Differs : ℕ → ℕ → RegistryReason → List ℕ → RegistryReason → List ℕ → Type 0
Differs i j reason b why left = (j ≢ i) × (why ≡ reason) × (left ≡ b)

-- a number that has to be i is rejected if it differs
tested_faults : {X : Type 0} (i j : ℕ) (x : X × List ℕ) (reason : RegistryReason) (b : List ℕ)
    (why : RegistryReason) (left : List ℕ) →
    (tested reason b (j == i) x ≡ Err (why, left) → Differs i j reason b why left)
    × (Differs i j reason b why left → tested reason b (j == i) x ≡ Err (why, left))
tested_faults i j x reason b why left = by (j == i) refl where
  by : (t : Bool) → (j == i) ≡ t →
      (tested reason b t x ≡ Err (why, left) → Differs i j reason b why left)
      × (Differs i j reason b why left → tested reason b t x ≡ Err (why, left))
  by true is = (λ e. absurd cc, λ k. absurd (k.0 (eqb-true j i is)))
  by false is = (
    λ e. let r = refused_is e in
        (λ same. let also : (j == i) ≡ true = eq-eqb j i same in absurd cc, r.0, r.1),
    λ k. rw (k.1, k.2) refl,
  )

-- ---- types

-- there is no id, or it isn't i
abbrev Misplaced : ℕ → Refusals
Misplaced i b = Then (λ j. j < 2 ^ 32) compact length_at
    (λ j c. Differs i j registry.IdOutOfPlace b) b

-- the id before a type is rejected if there is none, or if it isn't i
position_faults : (i : ℕ) → AreFaults (id_at i) (Misplaced i)
position_faults i b =
    (then_stops length_is).faults (λ j c. tested registry.IdOutOfPlace b (j == i) (j, c))
    (λ j c. Differs i j registry.IdOutOfPlace b)
    (λ j small c why left all. tested_faults i j (j, c) registry.IdOutOfPlace b why left) b

-- the type at position i is rejected, or one of the n after it
abbrev Next : ℕ → ℕ → Refusals
Next i n = OrAfter (λ j. (j ≡ i) × (j < 2 ^ 32)) compact (Misplaced i)
    (λ _. Then ReadType type_info type_info_at (λ _. NextType (i + 1) n))

-- one of n + 1 types is rejected, if the first is or one of the others
next_to : (i n : ℕ) (b : List ℕ) (why : RegistryReason) (left : List ℕ) → Next i n b why left →
    NextType i (suc n) b why left
next_to i n b why left s = elim s [
  | inl k ↦ here (elim k [ inl e ↦ inl e | inr k ↦ inr (k.0, k.1, k.2, k.3, inl k.4) ])
  | inr s ↦ elim s.4 [
    | inl e ↦ here (inr (s.0, s.1, s.2.1, s.3, inr (s.2.0, e)))
    | inr t ↦ (
      t.0 ∷ t.4.0,
      t.4.1,
      omega (arith, t.4.2),
      (t.2, t.4.3),
      rw (s.3, t.3, t.4.4, s.2.0) (simp append_assoc),
      subst (λ (p : ℕ). PlacedFails p t.4.1 why left) (later (length t.4.0)) t.4.5,
    )
  ]
] where
  here : PlacedFails i b why left → NextType i (suc n) b why left
  here s = ([], b, omega arith, tt, refl, rw add-zero s)

  later : (k : ℕ) → (i + 1) + k ≡ i + suc k
  later k = omega arith

-- the converse
next_from : (i n : ℕ) → i < 2 ^ 32 → (b : List ℕ) (why : RegistryReason) (left : List ℕ) →
    NextType i (suc n) b why left → Next i n b why left
next_from i n small b why left s = rw s.4 (by s.0 s.1 s.2 s.3 s.5) where
  by : (ts : List TypeInfo) (c : List ℕ) → length ts < suc n → AllByRecursion ReadType ts →
      PlacedFails (i + length ts) c why left → Next i n (types_from i ts ++ c) why left
  by [] c few fit s = elim (rw add-zero at s) [
    | inl e ↦ inl (inl e)
    | inr k ↦ elim k.4 [
      | inl m ↦ inl (inr (k.0, k.1, k.2, k.3, m))
      | inr m ↦ inr (k.0, k.1, (m.0, k.2), k.3, inl m.1)
    ]
  ]
  by (t ∷ ts) c few fit s = let later : i + suc (length ts) ≡ (i + 1) + length ts = omega arith in
      inr (
        i,
        type_info t ++ (types_from (i + 1) ts ++ c),
        (refl, small),
        simp append_assoc,
        inr (
          t,
          types_from (i + 1) ts ++ c,
          fit.0,
          refl,
          (ts, c, omega (arith, few), fit.1, refl, rw later at s),
        ),
      )

-- n types from position i on are rejected if fewer of them are there, and the next one is rejected
types_faults : (n i : ℕ) → i + n ≤ 2 ^ 32 → AreFaults (types_at n i) (NextType i n)
types_faults zero i small = λ b why left all. (λ e. absurd cc, λ s. absurd (omega (arith, s.2)))
types_faults (suc n) i small = told (types_at (suc n) i) (Next i n) (NextType i (suc n))
    ((stops (position_is i) (Misplaced i) (position_faults i)).faults
    (λ _ b. type_info_at b >>= λ t.
    types_at n (i + 1) t.1 >>= λ others. Ok (t.0 ∷ others.0, others.1))
    (λ _. Then ReadType type_info type_info_at (λ _. NextType (i + 1) n)) (λ j fits.
    (then_stops type_is).faults
    (λ t b. types_at n (i + 1) b >>= λ others. Ok (t ∷ others.0, others.1))
    (λ _. NextType (i + 1) n) (λ t fits.
    mapped_faults (types_at n (i + 1)) (λ others. t ∷ others) (NextType (i + 1) n)
    (types_faults n (i + 1) (omega (arith, small)))))) (next_to i n)
    (next_from i n (omega (arith, small)))

-- a registry is rejected if its length is, or one of its types
registry_faults : AreFaults registry_at (Then (λ n. n < 2 ^ 32) compact length_at (NextType 0))
unfolding registry_at
registry_faults = (then_stops length_is).faults (λ n. types_at n 0) (NextType 0)
    (λ n small. types_faults n 0 (omega (arith, small)))

-- ---- metadata

-- there is no letter, or another
abbrev OtherLetter : ℕ → Refusals
OtherLetter letter b why left = EndsBefore 1 b why left
    ⊎ IsByte (λ x. x ≢ letter) registry.NotMetadata b why left

-- a letter is rejected if there is none, or another
letter_faults : (letter : ℕ) → AreFaults (letter_at letter) (OtherLetter letter)
letter_faults letter = byte_first (letter_at letter)
    (IsByte (λ x. x ≢ letter) registry.NotMetadata) refl (λ why left k. absurd cc)
    (λ x small c why left all.
    let both = tested_faults letter x (tt, c) registry.NotMetadata (x ∷ c) why left in (
      λ e. let k = both.0 e in (x, c, refl, k.0, k.1, k.2),
      λ k. let same : k.0 ≡ x = cc in both.1 (λ e. k.3 (same ∙ e), k.4, k.5),
    ))

-- letters are rejected if one of them is missing, or another stands there
letters_faults : (letters : List ℕ) → AreFaults (letters_at letters) (LetterFails letters)
letters_faults [] = λ b why left all. (
  λ e. absurd cc,
  λ s. absurd (none s.0 s.1 s.2 s.4),
) where
  none : (front : List ℕ) (l : ℕ) (others : List ℕ) → [] ≡ front ++ l ∷ others → ⊥
  none [] l others e = absurd cc
  none (x ∷ front) l others e = absurd cc
letters_faults (letter ∷ letters) =
    told (letters_at (letter ∷ letters)) First (LetterFails (letter ∷ letters))
    ((stops (letter_is letter) (OtherLetter letter) (letter_faults letter)).faults
    (λ _. letters_at letters) (λ _. LetterFails letters) (λ _ fits. letters_faults letters)) to
    (λ b why left s. from b why left s.0 s.1 s.2 s.3 s.4 s.5 s.6) where
      First : Refusals
      First = OrAfter {X = Unit {0}} (λ _. Unit {0}) (λ _. letter ∷ []) (OtherLetter letter)
          (λ _. LetterFails letters)

      to : (b : List ℕ) (why : RegistryReason) (left : List ℕ) → First b why left →
          LetterFails (letter ∷ letters) b why left
      to b why left s = elim s [
        | inl k ↦ ([], letter, letters, b, refl, refl, k)
        | inr k ↦ let s = k.4 in (
          letter ∷ s.0,
          s.1,
          s.2,
          s.3,
          ap (λ (y : List ℕ). letter ∷ y) s.4,
          rw (k.3, s.5) refl,
          s.6,
        )
      ]

      from : (b : List ℕ) (why : RegistryReason) (left front : List ℕ) (l : ℕ)
          (others c : List ℕ) → letter ∷ letters ≡ front ++ l ∷ others → b ≡ front ++ c →
          OtherLetter l c why left → First b why left
      from b why left [] l others c names split k =
          let same : l ≡ letter = cc in
          inl (rw split (subst (λ (y : ℕ). OtherLetter y c why left) same k))
      from b why left (x ∷ front) l others c names split k =
          let same : x ≡ letter = cc in
          let rest : letters ≡ front ++ l ∷ others = cc in
          inr (tt, front ++ c, tt, rw (split, same) refl, (front, l, others, c, rest, refl, k))

-- metadata after its version
abbrev with_version : Version × List ℕ → Read RegistryReason (List TypeInfo × Version)
with_version version = registry_at version.1 >>= λ types. Ok ((types.0, version.0), types.1)

-- what follows the letters is rejected if the version is missing or unknown, or the registry is
version_faults : AreFaults (λ b. version_at b >>= with_version) VersionFails
version_faults = told (λ b. version_at b >>= with_version) First VersionFails
    ((stops version_is Unknown (named_faults registry.WrongVersion version_of)).faults
    (λ v b. with_version (v, b)) (λ _. Fails registry_at) (λ v fits.
    mapped_faults registry_at (λ types. (types, v)) (Fails registry_at) (fails registry_at)))
    (λ b why left s. elim s [
      | inl k ↦ elim k [ inl k ↦ inl k | inr k ↦ inr (inl k) ]
      | inr k ↦ inr (inr (version_byte k.0, known k.0, (k.1, k.3, k.4)))
    ]) (λ b why left s. elim s [
      | inl k ↦ inl (inl k)
      | inr s ↦ elim s [
        | inl k ↦ inl (inr k)
        | inr k ↦ by b why left k.0 (version_of k.0) refl k.1 k.2.0 k.2.1 k.2.2
      ]
    ]) where
      Unknown : Refusals
      Unknown b why left = EndsBefore 1 b why left
          ⊎ IsByte (λ x. version_of x ≡ None) registry.WrongVersion b why left

      First : Refusals
      First = OrAfter (λ _. Unit {0}) (λ v. version_byte v ∷ []) Unknown (λ _. Fails registry_at)

      known : (v : Version) → version_of (version_byte v) ≢ None
      known v none = let some = version_of_byte v in absurd cc

      by : (b : List ℕ) (why : RegistryReason) (left : List ℕ) (x : ℕ) (o : Option Version) →
          version_of x ≡ o → version_of x ≢ None → (c : List ℕ) → b ≡ x ∷ c →
          Fails registry_at c why left → First b why left
      by b why left x None is named c split e = absurd (named is)
      by b why left x (Some v) is named c split e =
          inr (v, c, tt, rw (split, byte_of_version x v is) refl, e)

-- what is read after two parts is read after the first and then the second
bind_assoc : {X Y Z : Type 0} (r : Read RegistryReason X) (f : X × List ℕ → Read RegistryReason Y)
    (g : Y × List ℕ → Read RegistryReason Z) →
    ((r >>= f) >>= g) ≡ (r >>= λ x. f x >>= g)
bind_assoc (Ok x) f g = refl
bind_assoc (Err e) f g = refl

-- metadata is rejected if its letters are, or what follows them
metadata_faults : AreFaults metadata_at (λ b why left. LetterFails magic b why left
    ⊎ ((c : List ℕ) × (b ≡ magic ++ c) × VersionFails c why left))
unfolding metadata_at prefix_at
metadata_faults b why left all =
    let same : metadata_at b ≡ (letters_at magic b >>= λ letters.
    version_at letters.1 >>= with_version) =
    bind_assoc (letters_at magic b) (λ letters. version_at letters.1) with_version in
    let both = (stops (letters_is magic) (LetterFails magic) (letters_faults magic)).faults
    (λ _ b. version_at b >>= with_version) (λ _. VersionFails) (λ _ fits. version_faults) b why
    left all in
    rw same (
      λ e. elim (both.0 e) [ inl k ↦ inl k | inr k ↦ inr (k.1, k.3, k.4) ],
      λ s. both.1 (elim s [ inl k ↦ inl k | inr k ↦ inr (tt, k.0, tt, k.1, k.2) ]),
    )

-- the faults of registries
pub all_faults : RegistryFaults
all_faults = record { registry = registry_faults; metadata = metadata_faults }

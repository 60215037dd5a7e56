-- How a registry is rejected, by splits of its bytes: parts that have a spelling come first, and
-- the part after them is rejected.
use Rattle.std.specs.Prelude.{◌≡◌, ◌≢◌, ◌⊎◌, ℕ, ◌+◌, ◌<◌, ◌^◌, List, [], ◌∷◌, ◌++◌, length, drop}
use Rattle.std.specs.Prelude.{Err, None, false, flat_map}
use Rattle.std.specs.List.{AllByRecursion}
use Rattle.std.specs.Str.{is_utf8}
use Rattle.std.specs.Str.Lossy.{utf8_valid_len}
use Rattle.scale_core.specs.Number.{AreBytes, le_bytes}
use Rattle.scale_core.specs.Compact.{compact}
use Rattle.registry_core.specs.declared.fault.RegistryReason.{RegistryReason}
use Rattle.registry_core.specs.declared.fault.RegistryReason.TheVariants as registry
use Rattle.types_core.specs.declared.type_info.TypeInfo.{TypeInfo}
use Rattle.types_core.specs.Fits.{FitsList, FitsText, FitsTexts, FitsOption, FitsId, FitsParam}
use Rattle.types_core.specs.Fits.{FitsField, FitsArm}
use Rattle.registry_core.specs.AsRead.{ReadDefinition, ReadType}
use Rattle.registry_core.specs.Bytes.{magic, version_of}
use Rattle.registry_core.specs.Spelling.{sequence, text, texts, option, type_id, param, field, arm}
use Rattle.registry_core.specs.Spelling.{definition, types_from}
use Rattle.registry_core.specs.Reading.{Reader, length_at, string_at, texts_at, option_at}
use Rattle.registry_core.specs.Reading.{type_id_at, type_ids_at, param_at, params_at, field_at}
use Rattle.registry_core.specs.Reading.{fields_at, arm_read_at, arms_read_at}
use Rattle.registry_core.specs.Reading.{definition_at, type_info_at, registry_at, metadata_at}

-- a way to reject bytes: the bytes, the reason, and the bytes from the fault's place on
abbrev pub Refusals : Type 1
Refusals = List ℕ → RegistryReason → List ℕ → Type 0

-- this part is rejected
abbrev pub Fails : {X : Type 0} → Reader X → Refusals
Fails part b why left = part b ≡ Err (why, left)

-- the first part is rejected, or it is there and what follows it is rejected
abbrev pub Then : {X : Type 0} → (X → Type 0) → (X → List ℕ) → Reader X → (X → Refusals) → Refusals
Then {X = X} Fits spell part Behind b why left = Fails part b why left
    ⊎ ((x : X) × (c : List ℕ) × Fits x × (b ≡ spell x ++ c) × Behind x c why left)

-- fewer than n elements come first, and the next one is rejected
abbrev pub NextOf : {X : Type 0} → (X → Type 0) → (X → List ℕ) → Reader X → ℕ → Refusals
NextOf {X = X} Fits spell part n b why left = (xs : List X) × (c : List ℕ) × (length xs < n)
    × AllByRecursion Fits xs × (b ≡ flat_map spell xs ++ c) × Fails part c why left

-- the length is rejected, or it is there and one of so many elements is rejected
abbrev pub OneOf : {X : Type 0} → (X → Type 0) → (X → List ℕ) → Reader X → Refusals
OneOf Fits spell part = Then (λ n. n < 2 ^ 32) compact length_at (λ n. NextOf Fits spell part n)

-- the input ends before n bytes
abbrev pub EndsBefore : ℕ → Refusals
EndsBefore n b why left = (length b < n) × (why ≡ registry.Truncated) × (left ≡ [])

-- n bytes are there but aren't UTF-8: the fault's place is after their longest valid front
abbrev pub IsNoText : ℕ → Refusals
IsNoText n b why left = (s c : List ℕ) × (b ≡ s ++ c) × (length s ≡ n) × (is_utf8 s ≡ false)
    × (why ≡ registry.BadUtf8) × (left ≡ drop (utf8_valid_len s) b)

-- the first byte is one of these, and is rejected with this reason
abbrev pub IsByte : (ℕ → Type 0) → RegistryReason → Refusals
IsByte P reason b why left = (x : ℕ) × (c : List ℕ) × (b ≡ x ∷ c) × P x × (why ≡ reason)
    × (left ≡ b)

-- the first byte is x, and what follows is rejected in this way
abbrev pub Behind : ℕ → Refusals → Refusals
Behind x Rest b why left = (c : List ℕ) × (b ≡ x ∷ c) × Rest c why left

-- an option is rejected: it has no byte, its byte is neither 0 nor 1, or the part after 1 is
-- rejected
abbrev pub OptionFails : {X : Type 0} → Reader X → Refusals
OptionFails part b why left = EndsBefore 1 b why left
    ⊎ (IsByte (λ x. 1 < x) registry.BadOption b why left ⊎ Behind 1 (Fails part) b why left)

-- a type's id is rejected, or it differs from the type's position, or the type after it is rejected
abbrev pub PlacedFails : ℕ → Refusals
PlacedFails i b why left = Fails length_at b why left
    ⊎ ((j : ℕ) × (c : List ℕ) × (j < 2 ^ 32) × (b ≡ compact j ++ c)
    × (((j ≢ i) × (why ≡ registry.IdOutOfPlace) × (left ≡ b))
    ⊎ ((j ≡ i) × Fails type_info_at c why left)))

-- fewer than n types come first, from position i on, and the next one is rejected
abbrev pub NextType : ℕ → ℕ → Refusals
NextType i n b why left = (ts : List TypeInfo) × (c : List ℕ) × (length ts < n)
    × AllByRecursion ReadType ts × (b ≡ types_from i ts ++ c)
    × PlacedFails (i + length ts) c why left

-- one of the letters is missing or wrong
abbrev pub LetterFails : List ℕ → Refusals
LetterFails letters b why left = (front : List ℕ) × (letter : ℕ) × (others c : List ℕ)
    × (letters ≡ front ++ letter ∷ others) × (b ≡ front ++ c)
    × (EndsBefore 1 c why left ⊎ IsByte (λ x. x ≢ letter) registry.NotMetadata c why left)

-- what follows the letters is rejected: the version is missing or unknown, or the registry after it
-- is rejected
abbrev pub VersionFails : Refusals
VersionFails b why left = EndsBefore 1 b why left
    ⊎ (IsByte (λ x. version_of x ≡ None) registry.WrongVersion b why left
    ⊎ ((x : ℕ) × (version_of x ≢ None) × Behind x (Fails registry_at) b why left))

-- this part is rejected in exactly these ways
abbrev pub AreFaults : {X : Type 0} → Reader X → Refusals → Type 0
AreFaults part Refused = (b : List ℕ) (why : RegistryReason) (left : List ℕ) → AreBytes b →
    (Fails part b why left → Refused b why left) × (Refused b why left → Fails part b why left)

-- the faults of lengths, texts, options and lists
pub record PieceFaults : Type 0 where
  pub text_faults : AreFaults string_at
      (Then (λ n. n < 2 ^ 32) compact length_at (λ n b why left. EndsBefore n b why left
      ⊎ IsNoText n b why left))
  pub option_of_text : AreFaults (option_at string_at) (OptionFails string_at)
  pub option_of_id : AreFaults (option_at type_id_at) (OptionFails type_id_at)
  pub texts_faults : AreFaults texts_at (OneOf FitsText text string_at)
  pub ids : AreFaults type_ids_at (OneOf FitsId type_id type_id_at)
  pub params : AreFaults params_at (OneOf FitsParam param param_at)
  pub fields : AreFaults fields_at (OneOf FitsField field field_at)
  pub arms : AreFaults arms_read_at (OneOf FitsArm arm arm_read_at)

-- the faults of parameters, fields, arms and types: those of the first part that is rejected
pub record PartFaults : Type 0 where
  pub param_faults : AreFaults param_at
      (Then FitsText text string_at (λ _. Fails (option_at type_id_at)))
  pub field_faults : AreFaults field_at
      (Then (FitsOption FitsText) (option text) (option_at string_at)
      (λ _. Then FitsId type_id type_id_at
      (λ _. Then (FitsOption FitsText) (option text) (option_at string_at) (λ _. Fails texts_at))))
  pub arm_faults : AreFaults arm_read_at
      (Then FitsText text string_at (λ _. Then (FitsList FitsField) (sequence field) fields_at
      (λ _ b why left. EndsBefore 1 b why left
      ⊎ ((x : ℕ) × Behind x (Fails texts_at) b why left))))
  pub type_faults : AreFaults type_info_at
      (Then FitsTexts texts texts_at (λ _. Then (FitsList FitsParam) (sequence param) params_at
      (λ _. Then ReadDefinition definition definition_at (λ _. Fails texts_at))))

-- the faults of a definition: there is no byte, the byte is above 7, or what follows it is rejected
pub record DefinitionFaults : Type 0 where
  pub none : definition_at [] ≡ Err (registry.Truncated, [])
  pub unknown : (x : ℕ) (c : List ℕ) → 7 < x →
      definition_at (x ∷ c) ≡ Err (registry.BadDefinition, x ∷ c)
  pub composite : AreFaults (λ c. definition_at (0 ∷ c)) (Fails fields_at)
  pub variant : AreFaults (λ c. definition_at (1 ∷ c)) (Fails arms_read_at)
  pub sequence : AreFaults (λ c. definition_at (2 ∷ c)) (Fails type_id_at)
  pub array : AreFaults (λ c. definition_at (3 ∷ c))
      (λ b why left. EndsBefore 4 b why left
      ⊎ ((n : ℕ) × (c : List ℕ) × (n < 2 ^ 32) × (b ≡ le_bytes 4 n ++ c)
      × Fails type_id_at c why left))
  pub tuple : AreFaults (λ c. definition_at (4 ∷ c)) (Fails type_ids_at)
  pub primitive : AreFaults (λ c. definition_at (5 ∷ c))
      (λ b why left. EndsBefore 1 b why left
      ⊎ IsByte (λ x. 14 < x) registry.BadPrimitive b why left)
  pub compact : AreFaults (λ c. definition_at (6 ∷ c)) (Fails type_id_at)
  pub bit_sequence : AreFaults (λ c. definition_at (7 ∷ c))
      (Then FitsId type_id type_id_at (λ _. Fails type_id_at))

-- the faults of a registry, and of one in metadata
pub record RegistryFaults : Type 0 where
  pub registry : AreFaults registry_at (Then (λ n. n < 2 ^ 32) compact length_at (NextType 0))
  pub metadata : AreFaults metadata_at
      (λ b why left. LetterFails magic b why left
      ⊎ ((c : List ℕ) × (b ≡ magic ++ c) × VersionFails c why left))

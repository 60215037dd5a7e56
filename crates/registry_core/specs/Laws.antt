-- What is spelled is read, what is read is spelled so, and a fault is the first from the left.
use Rattle.std.specs.Prelude.{◌≡◌, ◌≢◌, ℕ, List, [], ◌++◌, Ok, Err}
use Rattle.growth_core.specs.Evidence.{evidence}
use Rattle.scale_core.specs.Number.{AreBytes}
use Rattle.registry_core.specs.declared.fault.RegistryReason.{RegistryReason}
use Rattle.registry_core.specs.declared.fault.RegistryReason.TheVariants.{Truncated, OutOfMemory}
use Rattle.types_core.specs.declared.type_info.TypeInfo.{TypeInfo}
use Rattle.registry_core.specs.declared.version.Version.{Version}
use Rattle.registry_core.specs.Spelling.{metadata}
use Rattle.registry_core.specs.Reading.{Reader}
use Rattle.registry_core.specs.AsRead.{ReadRegistry}

-- the part of metadata that is read: a version, and the registry after it
abbrev pub FitsMetadata : List TypeInfo × Version → Type 0
FitsMetadata m = ReadRegistry m.0

abbrev pub metadata_of : List TypeInfo × Version → List ℕ
metadata_of m = metadata m.1 m.0

-- a spelling is read as what it spells, whatever follows
abbrev pub SpelledIsRead : {X : Type 0} → (X → Type 0) → (X → List ℕ) → Reader X → Type 0
SpelledIsRead {X = X} Fits spell part = (x : X) (rest : List ℕ) → Fits x →
    part (spell x ++ rest) ≡ Ok (x, rest)

-- the bytes that a reading takes are the spelling of what it reads
abbrev pub ReadIsSpelled : {X : Type 0} → (X → Type 0) → (X → List ℕ) → Reader X → Type 0
ReadIsSpelled {X = X} Fits spell part = (b : List ℕ) (x : X) (rest : List ℕ) → AreBytes b →
    part b ≡ Ok (x, rest) → Fits x × (b ≡ spell x ++ rest)

-- the input ends with these bytes
abbrev pub IsAfter : List ℕ → List ℕ → Type 0
IsAfter b left = (front : List ℕ) × (b ≡ front ++ left)

-- a fault lies within the input, or at its end if it is `Truncated`; none is an allocation failure
abbrev pub FaultIsWithin : {X : Type 0} → Reader X → Type 0
FaultIsWithin part = (b : List ℕ) (reason : RegistryReason) (left : List ℕ) →
    part b ≡ Err (reason, left) → IsAfter b left × (reason ≢ OutOfMemory evidence)
    × (reason ≡ Truncated → left ≡ [])

-- a fault other than `Truncated` stays the same, at the same place, whatever follows
abbrev pub FaultIsKept : {X : Type 0} → Reader X → Type 0
FaultIsKept part = (b more : List ℕ) (reason : RegistryReason) (left : List ℕ) →
    part b ≡ Err (reason, left) → reason ≢ Truncated →
    part (b ++ more) ≡ Err (reason, left ++ more)

-- reading an incomplete spelling gives `Truncated` at its end
abbrev pub FrontIsCut : {X : Type 0} → (X → Type 0) → (X → List ℕ) → Reader X → Type 0
FrontIsCut {X = X} Fits spell part = (x : X) (front more : List ℕ) → Fits x →
    spell x ≡ front ++ more → more ≢ [] → part front ≡ Err (Truncated, [])

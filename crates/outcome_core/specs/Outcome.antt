-- What a decoder returns for all the bytes that it was fed.
use Rattle.std.specs.Prelude.{◌≡◌, ◌≢◌, ℕ, suc, ◌+◌, ◌<◌, ◌≤◌, List, [], ◌∷◌, ◌++◌, length, take}
use Rattle.std.specs.Prelude.{Ok, Err, nat_lt, if◌then◌else◌, ◌⊎◌}
use Rattle.scale_core.specs.Read.{Read, place, mode_len}
use Rattle.scale_core.specs.declared.fault.Reason.TheVariants as scale
use Rattle.types_core.specs.declared.type_info.TypeInfo.{TypeInfo}
use Rattle.grammar_core.specs.Tree.{Tree, levels}
use Rattle.grammar_core.specs.Grammar.{Val}
use Rattle.grammar_core.specs.Reading.{value_at, Refusal, basic, no_such_variant, too_deep}
use Rattle.grammar_core.specs.Reading.{no_finite_value, bit_sequence, bad_compact, truncated}
use Rattle.grammar_core.specs.Laws.{ValueFails}
use Rattle.outcome_core.specs.Taken.{value_taken}

pub data Outcome : Type 0 where
  done : Tree → Outcome
  refused : Refusal → ℕ → Outcome
  more : Outcome
  too_long : Outcome

-- what is decoded: a type of a registry, within a depth limit and a byte limit
pub record Query : Type 0 where
  pub registry : List TypeInfo
  pub ty : ℕ
  pub depth : ℕ
  pub bytes : ℕ

-- P holds for the first n bytes, and for no shorter front
pub record IsShortest (P : List ℕ → Type 0) (input : List ℕ) (n : ℕ) : Type 0 where
  pub there : n ≤ length input
  pub holds : P (take n input)
  pub least : (k : ℕ) → k < n → ¬ P (take k input)

-- the input is rejected with this reason at this place
abbrev pub FailsAt : Query → Refusal → ℕ → List ℕ → Type 0
FailsAt j reason at input = (left : List ℕ)
    × ValueFails j.registry (suc j.depth) j.ty input reason left
    × (place input left ≡ at)

-- the outcome of the input, and how many bytes of it were taken
abbrev pub IsOutcome : Query → List ℕ → Outcome → ℕ → Type 0
IsOutcome j input (done v) taken = (front rest : List ℕ) × (take j.bytes input ≡ front ++ rest)
    × Val j.registry j.ty v front × (levels v ≤ suc j.depth) × (taken ≡ length front)
IsOutcome j input (refused reason at) taken = (reason ≢ truncated)
    × FailsAt j reason at (take j.bytes input)
    × IsShortest (FailsAt j reason at) (take j.bytes input) taken
IsOutcome j input more taken = ((at : ℕ) × FailsAt j truncated at input) × (length input ≤ j.bytes)
    × (taken ≡ length input)
IsOutcome j input too_long taken = ((at : ℕ) × FailsAt j truncated at (take j.bytes input))
    × (j.bytes < length input) × (taken ≡ j.bytes)

-- a value that is encoded within the limits is decoded, and all its bytes are taken
abbrev pub EncodedIsDone : Type 0
EncodedIsDone = (j : Query) (v : Tree) (b : List ℕ) → Val j.registry j.ty v b →
    levels v ≤ suc j.depth → length b ≤ j.bytes → IsOutcome j b (done v) (length b)

-- an input has no more than one outcome
abbrev pub OneOutcome : Type 0
OneOutcome = (j : Query) (input : List ℕ) (one two : Outcome) (n m : ℕ) → IsOutcome j input one n →
    IsOutcome j input two m → (one ≡ two) × (n ≡ m)

-- ---- the same, computed

-- bytes are missing: more may come, or the input is longer than the limit
abbrev pub missing : Query → List ℕ → Outcome × ℕ
missing j input = if nat_lt j.bytes (length input) then (too_long, j.bytes) else
    (more, length input)

abbrev pub refusal : Query → List ℕ → Refusal → List ℕ → Outcome × ℕ
refusal j input (basic scale.Truncated) left = missing j input
refusal j input reason left = (
  refused reason (place (take j.bytes input) left),
  value_taken j.registry (suc j.depth) j.ty (take j.bytes input),
)

abbrev pub answer : Query → List ℕ → Read Refusal Tree → Outcome × ℕ
answer j input (Ok x) = (done x.0, place (take j.bytes input) x.1)
answer j input (Err e) = refusal j input e.0 e.1

-- the outcome of the input, and how many bytes of it are taken
unfoldable pub outcome_of : Query → List ℕ → Outcome × ℕ
outcome_of j input = answer j input (value_at j.registry (suc j.depth) j.ty (take j.bytes input))

-- every input has exactly one outcome, the computed one
abbrev pub OutcomeIsComputed : Type 0
OutcomeIsComputed = (j : Query) (input : List ℕ) →
    IsOutcome j input (outcome_of j input).0 (outcome_of j input).1
    × ((one : Outcome) (n : ℕ) → IsOutcome j input one n → outcome_of j input ≡ (one, n))

-- the bytes taken of an input that is rejected for good: the shortest front that is rejected with
-- this reason at this place
abbrev pub TakenIsShortest : Type 0
TakenIsShortest = (j : Query) (reason : Refusal) (at : ℕ) (input : List ℕ) → reason ≢ truncated →
    FailsAt j reason at input →
    IsShortest (FailsAt j reason at) input (value_taken j.registry (suc j.depth) j.ty input)

-- once the outcome is decided, further bytes don't change it
abbrev pub OutcomeIsKept : Type 0
OutcomeIsKept = (j : Query) (input later : List ℕ) (one : Outcome) (n : ℕ) → one ≢ more →
    IsOutcome j input one n → IsOutcome j (input ++ later) one n

-- ---- what is taken, by the fault alone

-- the length of the compact at the front
abbrev pub compact_end : List ℕ → ℕ
compact_end [] = 0
compact_end (first ∷ rest) = mode_len first

-- how many bytes are taken, by the reason, the bytes from the fault's place on, and the place. The
-- fault Truncated is at the end of the input. A text is taken to its end, which isn't before the
-- place
abbrev pub IsTakenBefore : Refusal → List ℕ → ℕ → ℕ → Type 0
IsTakenBefore (basic scale.Truncated) left at taken = left ≡ []
IsTakenBefore (basic scale.BadBool) left at taken = taken ≡ at + 1
IsTakenBefore (basic scale.BadChar) left at taken = taken ≡ at + 4
IsTakenBefore (basic scale.BadUtf8) left at taken = at ≤ taken
IsTakenBefore (basic scale.UnusedBits) left at taken = taken ≡ at + 1
IsTakenBefore (basic scale.CompactNotShortest) left at taken = taken ≡ at + compact_end left
IsTakenBefore (basic scale.CompactTooLarge) left at taken = (taken ≡ at + 1)
    ⊎ (taken ≡ at + compact_end left)
IsTakenBefore no_such_variant left at taken = taken ≡ at + 1
IsTakenBefore too_deep left at taken = taken ≡ at
IsTakenBefore no_finite_value left at taken = taken ≡ at
IsTakenBefore bit_sequence left at taken = taken ≡ at
IsTakenBefore bad_compact left at taken = taken ≡ at

abbrev pub TakenByFault : Type 0
TakenByFault = (r : List TypeInfo) (room t : ℕ) (input : List ℕ) (reason : Refusal)
    (left : List ℕ) → ValueFails r room t input reason left →
    IsTakenBefore reason left (place input left) (value_taken r room t input)

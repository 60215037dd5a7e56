-- The value that all bytes spell, and why they spell none.
use Rattle.std.specs.Prelude.{◌≡◌, ◌==◌, ℕ, List, length, if◌then◌else◌, Option, Some, None}
use Rattle.std.specs.Prelude.{option_map, Result, Ok, Err}
use Rattle.grammar_core.specs.Tree.{Tree}
use Rattle.node_core.specs.Shown.{Seen}
use Rattle.json_core.specs.Json.{json_text}
use Rattle.outcome_core.specs.Outcome.{Query, Outcome, done, refused, more, too_long, outcome_of}
use Rattle.decode_core.specs.Decoding.{FinishesDecoder}
use Rattle.decode_core.specs.Streaming.{Trails}
use Rattle.decode_core.specs.declared.fault.OpenFault.{OpenFault}
use Rattle.decode_core.specs.declared.fault.OpenFault.TheVariants as opening
use Rattle.scale_calls.specs.declared.refusal.ValueRefusal.{ValueRefusal}
use Rattle.scale_calls.specs.declared.refusal.ValueRefusal.TheVariants as refusal

-- the value, if it takes exactly `len` bytes
abbrev pub value_of_all : ℕ → Outcome → ℕ → Option Tree
value_of_all len (done v) taken = if taken == len then Some v else None
value_of_all len (refused reason at) taken = None
value_of_all len more taken = None
value_of_all len too_long taken = None

-- the value of the job's type that all the bytes spell
abbrev pub value_in : Query → List ℕ → Option Seen
value_in j bytes = option_map (λ v. record { types = j.registry; ty = j.ty; tree = v })
    (value_of_all (length bytes) (outcome_of j bytes).0 (outcome_of j bytes).1)

-- why bytes are rejected: the type or a limit, a fault of the bytes, or bytes that follow the
-- value, unless an allocation failed
abbrev pub RefusesValue : Option OpenFault → Query → List ℕ → ValueRefusal → Type 0
RefusesValue forbidden j b refusal.UnknownType = forbidden ≡ Some opening.UnknownType
RefusesValue forbidden j b refusal.LimitOutOfRange = forbidden ≡ Some opening.LimitOutOfRange
RefusesValue forbidden j b (refusal.Fault f) = (forbidden ≡ None) × (value_in j b ≡ None)
    × FinishesDecoder j b (Err f)
RefusesValue forbidden j b (refusal.TrailingBytes at) = (forbidden ≡ None) × (value_in j b ≡ None)
    × Trails j at b
RefusesValue forbidden j b (refusal.Memory _) = Unit {0}

-- the value, or why there is none
abbrev pub ReadsValue : Option OpenFault → Query → List ℕ → Result Seen ValueRefusal → Type 0
ReadsValue forbidden j b (Ok v) = (forbidden ≡ None) × (value_in j b ≡ Some v)
ReadsValue forbidden j b (Err e) = RefusesValue forbidden j b e

-- the text of its JSON, whose bytes `bytes_of` gives, or why there is none
abbrev pub ShowsValue : {X : Type 0} → (X → List ℕ) → Option OpenFault → Query → List ℕ →
    Result X ValueRefusal → Type 0
ShowsValue bytes_of forbidden j b (Ok text) = (forbidden ≡ None)
    × (option_map json_text (value_in j b) ≡ Some (bytes_of text))
ShowsValue bytes_of forbidden j b (Err e) = RefusesValue forbidden j b e

-- The value of a job, by what its file holds.
use Rattle.std.specs.Prelude.{◌≡◌, ◌≤◌, ◌^◌, ◌||◌, ℕ, List, drop, Bool, true, false, Option, Some}
use Rattle.std.specs.Prelude.{None, option_and_then, Result, Ok, Err, IfSome}
use Rattle.limits_core.specs.declared.limits.Limits.{Limits}
use Rattle.node_core.specs.Shown.{Seen}
use Rattle.outcome_core.specs.Outcome as decoder
use Rattle.decode_core.specs.Decoding.{FinishesDecoder}
use Rattle.decode_core.specs.Streaming.{StopsOpen, Trails}
use Rattle.scale_calls.specs.Values.{value_in}
use Rattle.scale_calls.specs.declared.refusal.ValueRefusal.{ValueRefusal}
use Rattle.scale_calls.specs.declared.refusal.ValueRefusal.TheVariants as value
use Rattle.hex_text.specs.HexText.{hex_bytes}
use Rattle.hex_text.specs.declared.fault.HexFault.{HexFault}
use Rattle.scale_calls.specs.Opaque.{opaque_start}
use Rattle.scale_tool.specs.Opaque.{placed_after}
use Rattle.scale_tool.specs.Refused.{IsRejected, refusal_of_value}
use Rattle.scale_tool.specs.declared.form.Form.{Form}
use Rattle.scale_tool.specs.declared.refusal.Refusal.{Refusal}
use Rattle.scale_tool.specs.declared.refusal.Refusal.TheVariants as refusal

-- the limits are those that the decoder takes
abbrev pub AreInRange : Limits → Type 0
AreInRange limits = (limits.depth ≤ 1024) × (limits.bytes ≤ 2 ^ 40)

-- ---- the value

abbrev pub reported : Result (List ℕ) HexFault → Option (List ℕ)
reported (Ok bytes) = Some bytes
reported (Err f) = None

-- the bytes of a file: those in it, or those that its digits stand for
abbrev pub file_bytes : Bool → List ℕ → Option (List ℕ)
file_bytes true file = reported (hex_bytes file)
file_bytes false file = Some file

-- the value of the bytes after a length
abbrev pub value_after : decoder.Query → List ℕ → Result ℕ ValueRefusal → Option Seen
value_after j b (Ok start) = value_in j (drop start b)
value_after j b (Err e) = None

-- the value of all the bytes, which is opaque or stands alone
abbrev pub spelled_value : Bool → decoder.Query → List ℕ → Option Seen
spelled_value true j b = value_after j b (opaque_start b)
spelled_value false j b = value_in j b

-- the value of a file
abbrev pub file_value : Form → decoder.Query → List ℕ → Option Seen
file_value form j file =
    option_and_then (spelled_value form.opaque j) (file_bytes form.hex file)

-- the value, or a refusal; if it rejects the input, there is no value
abbrev pub ReadsFile : Option Seen → Result Seen Refusal → Type 0
ReadsFile value (Ok v) = value ≡ Some v
ReadsFile value (Err e) = IsRejected e → value ≡ None

-- ---- what a refusal says

-- what a refusal says about bytes whose value stands alone: a fault, or bytes that follow the value
abbrev pub ReportsPlain : decoder.Query → List ℕ → ValueRefusal → Type 0
ReportsPlain j b (value.Fault f) = FinishesDecoder j b (Err f)
ReportsPlain j b (value.TrailingBytes at) = Trails j at b
ReportsPlain j b _ = Unit {0}

-- what it says about an opaque value that begins here: why it doesn't, or what the bytes from here
-- on are rejected for, with the place from the first byte of all
abbrev pub ReportsAfter : decoder.Query → List ℕ → Result ℕ ValueRefusal → ValueRefusal → Type 0
ReportsAfter j b (Err front) e = e ≡ front
ReportsAfter j b (Ok start) e = (own : ValueRefusal) × (e ≡ placed_after start own)
    × ReportsPlain j (drop start b) own

-- what it says about all bytes of a value
abbrev pub ReportsBytes : Bool → decoder.Query → List ℕ → ValueRefusal → Type 0
ReportsBytes true j b e = ReportsAfter j b (opaque_start b) e
ReportsBytes false j b e = ReportsPlain j b e

-- the value of all the bytes, or why they are rejected; if they are, there is no value
abbrev pub ReadsBytes : Bool → decoder.Query → List ℕ → Result Seen ValueRefusal → Type 0
ReadsBytes opaque j b (Ok v) = spelled_value opaque j b ≡ Some v
ReadsBytes opaque j b (Err e) = ReportsBytes opaque j b e
    × (IsRejected (refusal_of_value e) → spelled_value opaque j b ≡ None)

-- what it says about the bytes of a file
abbrev pub ReportsSpelled : Form → decoder.Query → ValueRefusal → List ℕ → Type 0
ReportsSpelled form j e file = (b : List ℕ) × (file_bytes form.hex file ≡ Some b)
    × ReportsBytes form.opaque j b e

-- the digits have a fault
abbrev pub IsBadHex : Bool → HexFault → List ℕ → Type 0
IsBadHex hex fault file = (hex ≡ true) × (hex_bytes file ≡ Err fault)

-- what a refusal says about a file whose bytes are not read to the end, if they are known
abbrev pub ReportsUnread : Bool → Option (List ℕ) → Refusal → Type 0
ReportsUnread hex known (refusal.Hex fault) = IfSome known (IsBadHex hex fault)
ReportsUnread hex known refusal.ValueDevice = Unit {0}
ReportsUnread hex known (refusal.Memory _) = Unit {0}
ReportsUnread hex known _ = ⊥

-- what a refusal says about a value's file if its bytes are known, unless the device or an
-- allocation failed: a fault of its digits, a fault of its bytes, or bytes that follow the value
abbrev pub ReportsFile : Form → decoder.Query → Option (List ℕ) → Refusal → Type 0
ReportsFile form j known (refusal.Hex fault) = IfSome known (IsBadHex form.hex fault)
ReportsFile form j known (refusal.Value fault) =
    IfSome known (ReportsSpelled form j (value.Fault fault))
ReportsFile form j known (refusal.TrailingValue at) =
    IfSome known (ReportsSpelled form j (value.TrailingBytes at))
ReportsFile form j known refusal.ValueDevice = Unit {0}
ReportsFile form j known (refusal.Memory _) = Unit {0}
ReportsFile form j known _ = ⊥

-- a read of a value's file failed, and the bytes before it left the answer open; they always do
-- if all are read before any answer
abbrev pub StopsFile : Bool → decoder.Query → (List ℕ → Type 0) → Option (List ℕ) →
    Option (List ℕ) → Type 0
StopsFile true j fails known left = (b : List ℕ) × fails b
StopsFile false j fails known left = StopsOpen j fails known left

-- whether all bytes of a file are read before any answer: those of digits and of opaque values are
abbrev pub is_gathered : Form → Bool
is_gathered form = form.hex || form.opaque

-- Which calls a builder rejects, and with what: the first reason that applies.
use Rattle.std.specs.Prelude.{◌≡◌, ℕ, ◌+◌, ◌-◌, ◌/◌, ◌^◌, ℤ, pos, negsuc, List, [], ◌∷◌, length}
use Rattle.std.specs.Prelude.{Bool}
use Rattle.std.specs.Prelude.{true, false, Option, Some, None, Result, Ok, Err, nat_lt, ◌==◌, not}
use Rattle.std.specs.Prelude.{is_none, option_map, if◌then◌else◌, ◌&&◌}
use Rattle.std.specs.Str.{is_utf8}
use Rattle.std.specs.Str.Lossy.{utf8_valid_len}
use Rattle.growth_core.specs.Evidence.{evidence}
use Rattle.scale_core.specs.Compact.{target_bytes}
use Rattle.types_core.specs.Bits.{bits_bytes, first_unused}
use Rattle.types_core.specs.Kinds.{kind_of, width_bytes}
use Rattle.types_core.specs.declared.kind.IntegerWidth.{IntegerWidth}
use Rattle.types_core.specs.declared.kind.PrimitiveKind.{PrimitiveKind}
use Rattle.types_core.specs.declared.kind.PrimitiveKind.TheVariants as K
use Rattle.types_core.specs.declared.primitive.Primitive.{Primitive}
use Rattle.types_core.specs.declared.primitive.Primitive.TheVariants as P
use Rattle.types_core.specs.declared.definition.Arm.{Arm}
use Rattle.types_core.specs.declared.type_info.TypeInfo.{TypeInfo}
use Rattle.grammar_core.specs.Cells.{fields_part}
use Rattle.grammar_core.specs.Parts.{first_of, how_many_left}
use Rattle.grammar_core.specs.Spelled.{index_of}
use Rattle.grammar_core.specs.declared.form.Form.{Form}
use Rattle.grammar_core.specs.declared.form.Form.TheVariants as form
use Rattle.grammar_core.specs.declared.form.Next.{Next}
use Rattle.grammar_core.specs.declared.form.Next.TheVariants as next
use Rattle.grammar_core.specs.declared.form.StopReason.{StopReason}
use Rattle.grammar_core.specs.declared.form.StopReason.TheVariants as stop
use Rattle.widths_core.specs.RunBytes.{run_bytes}
use Rattle.widths_core.specs.declared.run_kind.RunKind.{RunKind}
use Rattle.widths_core.specs.declared.run_kind.RunKind.TheVariants as kind
use Rattle.value_core.specs.Built.{Built, Pieces, arm_in, next_layout}
use Rattle.node_core.specs.Shown.{Seen}
use Rattle.value_core.specs.Opened.{next_shape}
use Rattle.value_core.specs.Walked.{OpenPart, next_of}
use Rattle.value_core.specs.declared.build_fault.BuildFault.{BuildFault}
use Rattle.value_core.specs.declared.build_fault.BuildFault.TheVariants as fault

abbrev pub build_fault_of : StopReason → BuildFault
build_fault_of stop.TooDeep = fault.TooDeep
build_fault_of stop.NoFiniteValue = fault.NoFiniteValue
build_fault_of stop.BitSequence = fault.BitSequence
build_fault_of stop.BadCompact = fault.BadCompact

-- the fault of a call that doesn't suit what comes next
abbrev pub other_fault : Next → BuildFault
other_fault (next.Stop r) = build_fault_of r
other_fault _ = fault.WrongKind

abbrev pub wrong : Option BuildFault
wrong = Some fault.WrongKind

-- the form of what comes next, for a complete node: it is rejected while a run is open
abbrev pub while_closed : Option Pieces → Form → Result Form BuildFault
while_closed None f = Ok f
while_closed (Some t) f = Err fault.WrongKind

abbrev pub wanted_from : Option Pieces → Next → Result Form BuildFault
wanted_from run (next.Wants f) = while_closed run f
wanted_from run next.Finished = Err fault.WrongKind
wanted_from run (next.Stop r) = Err (build_fault_of r)

abbrev pub wanted_of : Built → Result Form BuildFault
wanted_of b = wanted_from b.run (next_of b.walk)

-- a call is judged first by what comes next, and then by whether it suits that form
abbrev pub judged : (Form → Option BuildFault) → Built → Option BuildFault
judged suits b = elim (wanted_of b) [ Ok f ↦ suits f | Err e ↦ Some e ]

abbrev pub in_range : Bool → Option BuildFault
in_range fits = if fits then None else Some fault.OutOfRange

abbrev pub suits_empty : Form → Option BuildFault
suits_empty form.Empty = None
suits_empty _ = wrong

abbrev pub bool_kind : PrimitiveKind → Option BuildFault
bool_kind K.Bool = None
bool_kind _ = wrong

abbrev pub suits_bool : Form → Option BuildFault
suits_bool (form.Primitive p) = bool_kind (kind_of p)
suits_bool _ = wrong

abbrev pub suits_text : List ℕ → Form → Option BuildFault
suits_text s (form.Primitive P.Str) = in_range (nat_lt (length s) (2 ^ 32))
suits_text s _ = wrong

-- the greatest unsigned integer of this width
abbrev pub most_unsigned : IntegerWidth → ℕ
most_unsigned w = 256 ^ width_bytes w - 1

abbrev pub unsigned_kind : PrimitiveKind → Option ℕ
unsigned_kind (K.Unsigned w) = Some (most_unsigned w)
unsigned_kind _ = None

abbrev pub greatest_unsigned : Primitive → Option ℕ
greatest_unsigned p = unsigned_kind (kind_of p)

abbrev pub up_to : ℕ → Option ℕ → Option BuildFault
up_to n None = wrong
up_to n (Some most) = in_range (not (nat_lt most n))

abbrev pub suits_unsigned : ℕ → Form → Option BuildFault
suits_unsigned n (form.Primitive p) = up_to n (greatest_unsigned p)
suits_unsigned n _ = wrong

-- the greatest signed integer of this width
abbrev pub most_signed : IntegerWidth → ℕ
most_signed w = 256 ^ width_bytes w / 2 - 1

abbrev pub signed_kind : PrimitiveKind → Option ℕ
signed_kind (K.Signed w) = Some (most_signed w)
signed_kind _ = None

abbrev pub greatest_signed : Primitive → Option ℕ
greatest_signed p = signed_kind (kind_of p)

-- a number from -(most + 1) to most
abbrev pub is_within : ℤ → ℕ → Bool
is_within (pos n) most = not (nat_lt most n)
is_within (negsuc n) most = not (nat_lt most n)

abbrev pub within : ℤ → Option ℕ → Option BuildFault
within z None = wrong
within z (Some most) = in_range (is_within z most)

abbrev pub suits_signed : ℤ → Form → Option BuildFault
suits_signed z (form.Primitive p) = within z (greatest_signed p)
suits_signed z _ = wrong

abbrev pub char_kind : PrimitiveKind → Option BuildFault
char_kind K.Char = None
char_kind _ = wrong

abbrev pub suits_char : Form → Option BuildFault
suits_char (form.Primitive p) = char_kind (kind_of p)
suits_char _ = wrong

abbrev pub wide_kind : PrimitiveKind → Option BuildFault
wide_kind (K.Wide s) = None
wide_kind _ = wrong

abbrev pub suits_wide : Form → Option BuildFault
suits_wide (form.Primitive p) = wide_kind (kind_of p)
suits_wide _ = wrong

abbrev pub suits_compact : ℕ → Form → Option BuildFault
suits_compact n (form.Compact m) = in_range (nat_lt n (256 ^ target_bytes m))
suits_compact n _ = wrong

abbrev pub suits_count : Form → Option BuildFault
suits_count form.Count = None
suits_count _ = wrong

abbrev pub suits_fields : Form → Option BuildFault
suits_fields form.Fields = None
suits_fields _ = wrong

abbrev pub suits_list : ℕ → Form → Option BuildFault
suits_list n (form.Array len) = in_range (len == n)
suits_list n form.Sequence = None
suits_list n _ = wrong

abbrev pub found_fault : Option (ℕ × Arm) → Option BuildFault
found_fault (Some found) = None
found_fault None = Some fault.NoSuchVariant

abbrev pub suits_arm : Option (ℕ × Arm) → Form → Option BuildFault
suits_arm found form.Arm = found_fault found
suits_arm found _ = wrong

abbrev pub judged_arm : Built → ℕ → Option BuildFault
judged_arm b index = judged (suits_arm (arm_in (next_layout b) index)) b

-- a composite or a tuple of n fields or members
abbrev pub suits_fields_of : Built → ℕ → Form → Option BuildFault
suits_fields_of b n form.Fields = in_range (how_many_left (fields_part (next_layout b)) == n)
suits_fields_of b n _ = wrong

-- the first arm of an index must be the one at position q, and have n fields
abbrev pub placed_fault : ℕ → ℕ → Option (ℕ × Arm) → Option BuildFault
placed_fault q n (Some found) =
    if found.0 == q then in_range (length found.1.fields == n) else Some fault.NoSuchVariant
placed_fault q n None = Some fault.NoSuchVariant

abbrev pub indexed_fault : Built → ℕ → ℕ → Option ℕ → Option BuildFault
indexed_fault b q n (Some index) = placed_fault q n (arm_in (next_layout b) index)
indexed_fault b q n None = Some fault.NoSuchVariant

abbrev pub suits_arm_at : Option BuildFault → Form → Option BuildFault
suits_arm_at placed form.Arm = placed
suits_arm_at placed _ = wrong

abbrev pub judged_arm_at : Built → ℕ → ℕ → Option BuildFault
judged_arm_at b q n =
    judged (suits_arm_at (indexed_fault b q n (index_of (next_shape b.walk) q))) b

-- ---- a text or a run of bytes, whole or in pieces

abbrev pub suits_bytes : List ℕ → Form → Option BuildFault
suits_bytes s form.Bytes = in_range (nat_lt (length s) (2 ^ 32))
suits_bytes s (form.ByteArray n) = in_range (length s == n)
suits_bytes s _ = wrong

-- these are the words of n bits, of which the unused ones are 0
abbrev pub suits_bits : ℕ → List ℕ → Form → Option BuildFault
suits_bits n s (form.Bits f) =
    in_range ((length s == bits_bytes f n) && is_none (first_unused f n 0 s))
suits_bits n s _ = wrong

abbrev pub suits_text_start : Form → Option BuildFault
suits_text_start (form.Primitive P.Str) = None
suits_text_start _ = wrong

abbrev pub suits_bytes_start : ℕ → Form → Option BuildFault
suits_bytes_start len form.Bytes = None
suits_bytes_start len (form.ByteArray n) = in_range (n == len)
suits_bytes_start len _ = wrong

-- a run is open, and `missing` bytes of it are missing
abbrev pub RunLacks : Option Pieces → ℕ → Type 0
RunLacks (Some t) missing = length t.bytes + missing ≡ run_bytes t.kind t.len
RunLacks None missing = ⊥

-- the kind of the open run, and how many bytes it lacks
abbrev pub missing_from : Option Pieces → Result (RunKind × ℕ) BuildFault
missing_from (Some t) = Ok (t.kind, run_bytes t.kind t.len - length t.bytes)
missing_from None = Err fault.WrongKind

abbrev pub missing_at : Option Pieces → Next → Result (RunKind × ℕ) BuildFault
missing_at run (next.Wants f) = missing_from run
missing_at run next.Finished = Err fault.WrongKind
missing_at run (next.Stop r) = Err (build_fault_of r)

abbrev pub missing_of : Built → Result (RunKind × ℕ) BuildFault
missing_of b = missing_at b.run (next_of b.walk)

-- the open run lacks no bytes
abbrev pub IsRunComplete : Built → Type 0
IsRunComplete b = (k : RunKind) × (missing_of b ≡ Ok (k, 0))

-- how many bytes the open run lacks, if it is a text; and, below, if it is a run of bytes
abbrev pub of_text : RunKind → ℕ → Result ℕ BuildFault
of_text kind.Text n = Ok n
of_text _ n = Err fault.WrongKind

abbrev pub missing_text : Built → Result ℕ BuildFault
missing_text b = elim (missing_of b) [ Ok m ↦ of_text m.0 m.1 | Err e ↦ Err e ]

abbrev pub of_byte_run : RunKind → ℕ → Result ℕ BuildFault
of_byte_run kind.Text n = Err fault.WrongKind
of_byte_run (kind.Bits f) n = Err fault.WrongKind
of_byte_run _ n = Ok n

abbrev pub missing_bytes : Built → Result ℕ BuildFault
missing_bytes b = elim (missing_of b) [ Ok m ↦ of_byte_run m.0 m.1 | Err e ↦ Err e ]

-- the fault of a piece, by how many bytes the run lacks
abbrev pub judged_piece : Result ℕ BuildFault → List ℕ → Option BuildFault
judged_piece missing piece = elim missing
    [ Ok n ↦ in_range (not (nat_lt n (length piece))) | Err e ↦ Some e ]

-- the length of the longest valid front of a text that isn't UTF-8; a run may have any bytes
abbrev pub bad_bytes : RunKind → List ℕ → Option ℕ
bad_bytes kind.Text s = if is_utf8 s then None else Some (utf8_valid_len s)
bad_bytes _ s = None

abbrev pub bad_text : Option Pieces → Option ℕ
bad_text (Some t) = bad_bytes t.kind t.bytes
bad_text None = None

abbrev pub run_fault : Option Pieces → Option BuildFault
run_fault run = option_map fault.BadText (bad_text run)

-- the fault of ending a run: first that bytes are missing, and then that they aren't UTF-8
abbrev pub judged_end : Result ℕ BuildFault → Built → Option BuildFault
judged_end missing b = elim missing [
  | Ok n ↦ if nat_lt 0 n then Some fault.UnfinishedValue else run_fault b.run
  | Err e ↦ Some e
]

-- if no fault applies, the new value is the one with the node, unless an allocation failed; after a
-- fault the value is unchanged
abbrev pub Adds : Option BuildFault → Built → Built → Built → Result (Unit {0}) BuildFault → Type 0
Adds None with old new (Ok _) = new ≡ with
Adds None with old new (Err e) = (e ≡ fault.OutOfMemory evidence) × (new ≡ old)
Adds (Some f) with old new (Ok _) = ⊥
Adds (Some f) with old new (Err e) = (e ≡ f) × (new ≡ old)

-- why no builder of a type is made: the id is no position, or else the depth limit is above 1024
abbrev pub build_opening_fault : List TypeInfo → ℕ → ℕ → Option BuildFault
build_opening_fault types ty depth =
    if not (nat_lt ty (length types)) then Some fault.UnknownType else in_range
    (not (nat_lt 1024 depth))

abbrev pub Opens : Option BuildFault → Built → Result Built BuildFault → Type 0
Opens None first (Ok b) = b ≡ first
Opens None first (Err e) = e ≡ fault.OutOfMemory evidence
Opens (Some f) first (Ok b) = ⊥
Opens (Some f) first (Err e) = e ≡ f

-- nothing is left, and no node is open
abbrev pub is_whole_in : List OpenPart → Bool
is_whole_in (f ∷ []) = is_none (first_of f.left)
is_whole_in _ = false

abbrev pub is_complete : Built → Bool
is_complete b = is_whole_in b.walk.frames

-- the value if nothing is missing, and otherwise the fault and the unchanged builder
abbrev pub Finishes : Bool → Seen → Built → Result Seen (BuildFault × Built) → Type 0
Finishes true value old (Ok v) = v ≡ value
Finishes true value old (Err e) = ⊥
Finishes false value old (Ok v) = ⊥
Finishes false value old (Err e) = (e.0 ≡ fault.UnfinishedValue) × (e.1 ≡ old)

-- Records as calls of a builder: what each adds, and why one is rejected.
use Rattle.std.specs.Prelude.{◌≡◌, ◌⊎◌, ℕ, suc, ◌+◌, ◌^◌, ◌==◌, nat_lt, not, Bool, true}
use Rattle.std.specs.Prelude.{false, List, [], ◌∷◌, length, Option, Some, None, Result, Ok, Err}
use Rattle.std.specs.Prelude.{if◌then◌else◌, ◌&&◌, ◌||◌}
use Rattle.std.specs.Str.{is_utf8}
use Rattle.std.specs.Str.Lossy.{utf8_valid_len}
use Rattle.growth_core.specs.Evidence.{evidence}
use Rattle.scale_core.specs.Number.{is_scalar}
use Rattle.graph_core.specs.Types.{shape}
use Rattle.grammar_core.specs.Preorder as head
use Rattle.grammar_core.specs.Preorder.{Head}
use Rattle.grammar_core.specs.Tree as tree
use Rattle.node_core.specs.Shown.{Seen}
use Rattle.value_core.specs.Built.{Built, finished, with_arm_at, with_fields, with_leaf, with_list}
use Rattle.types_core.specs.declared.type_info.TypeInfo.{TypeInfo}
use Rattle.value_core.specs.Walked.{start_of}
use Rattle.value_core.specs.Refusals.{in_range, is_complete, judged, judged_arm_at, suits_bits}
use Rattle.value_core.specs.Refusals.{suits_bool}
use Rattle.value_core.specs.Refusals.{suits_bytes, suits_char, suits_compact, suits_count}
use Rattle.value_core.specs.Refusals.{suits_empty, suits_fields_of, suits_list, suits_signed}
use Rattle.value_core.specs.Refusals.{suits_text, suits_unsigned, suits_wide, wrong}
use Rattle.value_core.specs.declared.build_fault.BuildFault.{BuildFault}
use Rattle.value_core.specs.declared.build_fault.BuildFault.TheVariants as fault
use Rattle.record_core.specs.Records.{record_head, range_of, words_len}
use Rattle.record_core.specs.declared.record.Record.{Record}
use Rattle.record_core.specs.declared.replaying.RecordFault.{RecordFault}
use Rattle.record_core.specs.declared.replaying.RecordFault.TheVariants as records

-- the fault of a record by itself: a number out of range, a range outside the pool, bytes that
-- aren't UTF-8, or an unknown kind
abbrev pub scalar_fault : Record → Option BuildFault
scalar_fault r =
    if r.kind == 1 then in_range (not (nat_lt 1 r.low))
    else if r.kind == 2 then in_range (is_scalar r.low)
    else if r.kind == 6 then in_range (nat_lt r.low (2 ^ 32))
    else None

abbrev pub text_fault : List ℕ → Option BuildFault
text_fault s = if is_utf8 s then None else Some (fault.BadText (utf8_valid_len s))

abbrev pub pooled_fault : List ℕ → Record → Option BuildFault
pooled_fault pool r =
    if nat_lt (length pool) (r.low + r.high) then Some fault.OutOfRange
    else if r.kind == 7 then text_fault (range_of pool r)
    else if r.kind == 9 then in_range (r.high == 32)
    else None

-- the words of at most 2^32 - 1 bits lie in the pool
abbrev pub bits_fault : List TypeInfo → List ℕ → Record → Option BuildFault
bits_fault types pool r = in_range (nat_lt r.high (2 ^ 32)
    && not (nat_lt (length pool) (r.low + words_len (shape types r.ty) r.high)))

abbrev pub own_fault : List TypeInfo → List ℕ → Record → Option BuildFault
own_fault types pool r =
    if nat_lt r.kind 7 then scalar_fault r
    else if nat_lt r.kind 10 then pooled_fault pool r
    else if nat_lt r.kind 13 then None
    else if r.kind == 13 then bits_fault types pool r
    else wrong

-- the builder's fault for the node, if any
abbrev pub judged_node : Head → Built → Option BuildFault
judged_node (head.leaf tree.unit) b = judged suits_empty b
judged_node (head.leaf (tree.bool x)) b = judged suits_bool b
judged_node (head.leaf (tree.char c)) b = judged suits_char b
judged_node (head.leaf (tree.unsigned n)) b = judged (suits_unsigned n) b
judged_node (head.leaf (tree.signed z)) b = judged (suits_signed z) b
judged_node (head.leaf (tree.compact n)) b = judged (suits_compact n) b
judged_node (head.leaf (tree.count n)) b = judged suits_count b
judged_node (head.leaf (tree.text s)) b = judged (suits_text s) b
judged_node (head.leaf (tree.bytes s)) b = judged (suits_bytes s) b
judged_node (head.leaf (tree.wide s)) b = judged suits_wide b
judged_node (head.leaf (tree.bits n s)) b = judged (suits_bits n s) b
judged_node (head.branch tree.fields n) b = judged (suits_fields_of b n) b
judged_node (head.branch (tree.arm q) n) b = judged_arm_at b q n
judged_node (head.branch tree.list n) b = judged (suits_list n) b

-- the record's own fault, or else the builder's
abbrev pub earlier_fault : Option BuildFault → Option BuildFault → Option BuildFault
earlier_fault (Some f) later = Some f
earlier_fault None later = later

abbrev pub kind_fault : List TypeInfo → List ℕ → Record → Built → Option BuildFault
kind_fault types pool r b =
    earlier_fault (own_fault types pool r) (judged_node (record_head types pool r) b)

-- the node has neither children nor an arm
abbrev pub is_leaf : Record → Bool
is_leaf r = (r.children == 0) && (r.arm == 0)

-- every number is 0 that the kind gives no meaning; `ty` is not judged, nor the `low` of a node
-- with children, nor a record of no kind
abbrev pub has_only_own : Record → Bool
has_only_own r =
    if r.kind == 0 then is_leaf r && (r.low == 0) && (r.high == 0)
    else if (r.kind == 1) || (r.kind == 2) || (r.kind == 6) then is_leaf r && (r.high == 0)
    else if nat_lt r.kind 10 || (r.kind == 13) then is_leaf r
    else if r.kind == 11 then r.high == 0
    else if nat_lt r.kind 13 then (r.arm == 0) && (r.high == 0)
    else true

abbrev pub record_fault : List TypeInfo → List ℕ → Record → Built → Option BuildFault
record_fault types pool r b =
    earlier_fault (in_range (has_only_own r)) (kind_fault types pool r b)

-- the value with the node
abbrev pub with_node : Head → Built → Built
with_node (head.leaf l) b = with_leaf b (head.leaf l)
with_node (head.branch tree.fields n) b = with_fields b
with_node (head.branch (tree.arm q) n) b = with_arm_at b q
with_node (head.branch tree.list n) b = with_list b n

abbrev pub with_record : List TypeInfo → List ℕ → Record → Built → Built
with_record types pool r b = with_node (record_head types pool r) b

-- ---- all records, one after the other

-- a value of this type that has no nodes yet
abbrev pub start_with : List TypeInfo → ℕ → ℕ → Built
start_with types root depth = record {
  ty = root;
  walk = start_of types root depth;
  entries = [];
  run = None;
  turns = 0;
}

abbrev pub one_later : Result Built (ℕ × BuildFault) → Result Built (ℕ × BuildFault)
one_later (Ok b) = Ok b
one_later (Err e) = Err (suc e.0, e.1)

abbrev pub fault_or_later : Option BuildFault → Result Built (ℕ × BuildFault) →
    Result Built (ℕ × BuildFault)
fault_or_later None later = one_later later
fault_or_later (Some f) later = Err (0, f)

-- the value with the nodes of all records, or the position and fault of the first that is rejected
abbrev pub replay : List TypeInfo → List ℕ → List Record → Built → Result Built (ℕ × BuildFault)
replay types pool [] b = Ok b
replay types pool (r ∷ rs) b = fault_or_later (record_fault types pool r b)
    (replay types pool rs (with_record types pool r b))

-- the value if no node is missing, and otherwise a fault at the end of the records
abbrev pub ended_at : ℕ → Bool → Built → Result Seen (ℕ × BuildFault)
ended_at n true b = Ok (finished b)
ended_at n false b = Err (n, fault.UnfinishedValue)

abbrev pub ended : ℕ → Result Built (ℕ × BuildFault) → Result Seen (ℕ × BuildFault)
ended n (Ok b) = ended_at n (is_complete b) b
ended n (Err e) = Err e

-- the value, or which record is rejected and why, unless an allocation failed
abbrev pub GivesValue : Result Seen (ℕ × BuildFault) → Result Seen RecordFault → Type 0
GivesValue wanted (Ok v) = wanted ≡ Ok v
GivesValue wanted (Err (records.Record at reason)) =
    (wanted ≡ Err (at, reason)) ⊎ (reason ≡ fault.OutOfMemory evidence)
GivesValue wanted (Err (records.Open reason)) = reason ≡ fault.OutOfMemory evidence

-- the type and the depth are judged first
abbrev pub ReadsRecords : Option BuildFault → Result Seen (ℕ × BuildFault) →
    Result Seen RecordFault → Type 0
ReadsRecords None wanted r = GivesValue wanted r
ReadsRecords (Some f) wanted (Err (records.Open reason)) = reason ≡ f
ReadsRecords (Some f) wanted _ = ⊥

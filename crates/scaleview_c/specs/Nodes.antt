-- What the calls on a value's nodes write and report.
use Rattle.std.specs.Prelude.{◌≡◌, ◌⊎◌, ℕ, ◌&&◌, List, length, nat_le, if◌then◌else◌, Option, Some}
use Rattle.std.specs.Prelude.{None}
use Rattle.std.specs.Prelude.{Result, Ok, Err}
use Rattle.types_core.specs.declared.type_info.TypeInfo.{TypeInfo}
use Rattle.grammar_core.specs.Cells.{Cell}
use Rattle.limits_core.specs.declared.limits.Limits.{Limits}
use Rattle.node_core.specs.Encoding.{IsEncoding}
use Rattle.node_core.specs.Shown.{Seen}
use Rattle.value_core.specs.Refusals.{build_opening_fault}
use Rattle.value_core.specs.declared.build_fault.BuildFault.{BuildFault}
use Rattle.decode_core.specs.Decoding.{opening_fault}
use Rattle.decode_core.specs.Streaming.{query_of}
use Rattle.record_core.specs.Records.{nodes_of, pool_of, tree_read}
use Rattle.record_core.specs.Replayed.{ReadsRecords, ended, replay, start_with}
use Rattle.record_core.specs.Written.{WritesNodes}
use Rattle.record_core.specs.declared.record.Record.{Record}
use Rattle.record_core.specs.declared.replaying.RecordFault.{RecordFault}
use Rattle.record_core.specs.declared.replaying.RecordFault.TheVariants as records
use Rattle.scale_calls.specs.Values.{ReadsValue}
use Rattle.scale_calls.specs.declared.refusal.ValueRefusal.{ValueRefusal}
use Rattle.scaleview_c.specs.Calls.{Ends, Keeps, Leaves, Writes}
use Rattle.c_answers.specs.Codes.{plain, records_answer, value_answer}
use Rattle.c_answers.specs.declared.answer.Answer.{Answer}
use Rattle.scaleview_c.specs.declared.opened.Opened.{Opened}
use Rattle.scaleview_c.specs.declared.resource.Resource.{Resource}
use Rattle.scaleview_c.specs.declared.resource.Resource.TheVariants as held
use Rattle.scaleview_c.specs.declared.session.Stage.{Stage}
use Rattle.scaleview_c.specs.declared.session.Stage.TheVariants as stage

-- ---- nodes that are written

-- how many records and bytes of their pool there are, and whether both fit
abbrev pub nodes_answer : List Cell → List Record → List ℕ → Answer
nodes_answer cs records pool = record {
  code =
      if nat_le (length cs) (length records) && nat_le (length (pool_of cs)) (length pool)
      then 0 else 2;
  from = 0;
  at = length (pool_of cs);
  length = length cs;
}

-- the records of a value and its pool are written, if they fit
pub record PutsNodes (v : Seen) (old new : List Record) (old_pool pool : List ℕ) (a : Answer) :
    Type 0
  where
    pub writes : WritesNodes (nodes_of v) old new old_pool pool
    pub reports : a ≡ nodes_answer (nodes_of v) old old_pool

-- nothing is written, and this answer is reported
pub record LeavesNodes (reported : Answer) (old new : List Record) (old_pool pool : List ℕ)
    (a : Answer) : Type 0
  where
    pub same_nodes : new ≡ old
    pub same_pool : pool ≡ old_pool
    pub reports : a ≡ reported

abbrev pub PutsResult : Result Seen ValueRefusal → List Record → List Record → List ℕ → List ℕ →
    Answer → Type 0
PutsResult (Ok v) old new old_pool pool a = PutsNodes v old new old_pool pool a
PutsResult (Err e) old new old_pool pool a =
    LeavesNodes (value_answer e) old new old_pool pool a

-- the nodes of the value that the bytes spell are written, or the answer says why there is none
abbrev pub WritesValueNodes : Opened → ℕ → Limits → List ℕ → List Record → List Record → List ℕ →
    List ℕ → Answer → Type 0
WritesValueNodes o id limits b old new old_pool pool a = (r : Result Seen ValueRefusal)
    × ReadsValue (opening_fault o.checked.types id limits) (query_of o.checked.types id limits) b r
    × PutsResult r old new old_pool pool a

abbrev pub DecodesNodes : Option Resource → ℕ → Limits → List ℕ → List Record → List Record →
    List ℕ → List ℕ → Answer → Type 0
DecodesNodes (Some (held.Registry o)) id limits b old new old_pool pool a =
    WritesValueNodes o id limits b old new old_pool pool a
DecodesNodes (Some (held.Session s)) id limits b old new old_pool pool a =
    LeavesNodes (plain 5) old new old_pool pool a
DecodesNodes None id limits b old new old_pool pool a =
    LeavesNodes (plain 5) old new old_pool pool a

-- ---- those of a session

abbrev pub PutsStage : Stage → List Record → List Record → List ℕ → List ℕ → Answer → Type 0
PutsStage (stage.Decoding d) old new old_pool pool a =
    LeavesNodes (plain 1) old new old_pool pool a
PutsStage (stage.Complete v) old new old_pool pool a = PutsNodes v old new old_pool pool a
PutsStage (stage.Refused e) old new old_pool pool a =
    LeavesNodes (value_answer e) old new old_pool pool a

-- the value is ended, and its nodes are written
abbrev pub FinishesNodes : Option Resource → Option Resource → List Record → List Record →
    List ℕ → List ℕ → Answer → Type 0
FinishesNodes (Some (held.Session s)) (Some (held.Session t)) old new old_pool pool a =
    Ends s.stage t.stage × Keeps s t × PutsStage t.stage old new old_pool pool a
FinishesNodes (Some (held.Session s)) (Some (held.Registry o)) old new old_pool pool a = ⊥
FinishesNodes (Some (held.Session s)) None old new old_pool pool a = ⊥
FinishesNodes (Some (held.Registry o)) kept old new old_pool pool a =
    (kept ≡ Some (held.Registry o)) × LeavesNodes (plain 5) old new old_pool pool a
FinishesNodes None kept old new old_pool pool a = (kept ≡ None)
    × LeavesNodes (plain 5) old new old_pool pool a

-- ---- nodes that are read

-- the value that the records give for the type, or which of them is rejected and why
abbrev pub ReadsNodes : List TypeInfo → ℕ → ℕ → List Record → List ℕ → Result Seen RecordFault →
    Type 0
ReadsNodes types id depth records pool r = ReadsRecords (build_opening_fault types id depth)
    (ended (length records) (replay types pool records (start_with types id depth))) r

-- the value of this type with the tree of the records
abbrev pub value_of : List TypeInfo → ℕ → List Record → List ℕ → Seen
value_of types id records pool =
    record { types = types; ty = id; tree = tree_read types pool records }

-- the bytes that spell the value are written, or the answer says why there is none
abbrev pub WritesSpelling : Seen → Result Seen RecordFault → List ℕ → List ℕ → Answer → Type 0
WritesSpelling wanted (Ok v) old new a = (v ≡ wanted)
    × ((b : List ℕ) × IsEncoding v b × Writes b old new a)
WritesSpelling wanted (Err e) old new a = Leaves old new (records_answer e) a

-- the same for the value of the records, unless an allocation failed
abbrev pub EncodesRecords : List TypeInfo → ℕ → ℕ → List Record → List ℕ → List ℕ → List ℕ →
    Answer → Type 0
EncodesRecords types id depth records pool old new a = Leaves old new (plain 3) a
    ⊎ ((r : Result Seen RecordFault) × ReadsNodes types id depth records pool r
    × WritesSpelling (value_of types id records pool) r old new a)

-- no value can be begun, whatever memory there is; or the records are read
abbrev pub EncodesUnless : Option BuildFault → Type 0 → List ℕ → List ℕ → Answer → Type 0
EncodesUnless (Some f) reads old new a = Leaves old new (records_answer (records.Open f)) a
EncodesUnless None reads old new a = reads

abbrev pub Encodes : List TypeInfo → ℕ → ℕ → List Record → List ℕ → List ℕ → List ℕ → Answer →
    Type 0
Encodes types id depth records pool old new a =
    EncodesUnless (build_opening_fault types id depth)
    (EncodesRecords types id depth records pool old new a) old new a

abbrev pub EncodesNodes : Option Resource → ℕ → ℕ → List Record → List ℕ → List ℕ → List ℕ →
    Answer → Type 0
EncodesNodes (Some (held.Registry o)) id depth records pool old new a =
    Encodes o.checked.types id depth records pool old new a
EncodesNodes (Some (held.Session s)) id depth records pool old new a = Leaves old new (plain 5) a
EncodesNodes None id depth records pool old new a = Leaves old new (plain 5) a

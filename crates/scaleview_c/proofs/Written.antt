-- The JSON of a value that was read, and allocation failures on the way to it.
use Rattle.std.proofs.Common.{ℕ, List, Ok, Err, ap, option_map, inl, inr}
use Rattle.growth_core.specs.Evidence.{evidence}
use Rattle.limits_core.specs.declared.limits.Limits.{Limits}
use Rattle.node_core.specs.Shown.{Seen}
use Rattle.json_core.specs.Json.{json_text}
use Rattle.decode_core.specs.Decoding.{opening_fault}
use Rattle.decode_core.specs.Streaming.{query_of}
use Rattle.scale_calls.specs.Values.{ReadsValue}
use Rattle.scale_calls.specs.declared.refusal.ValueRefusal.TheVariants as value
use Rattle.scaleview_c.specs.Calls.{Leaves, WritesJson, WritesUnlessMemory}
use Rattle.c_answers.specs.Codes.{plain}
use Rattle.c_answers.specs.declared.answer.Answer.{Answer}
use Rattle.scaleview_c.specs.declared.opened.Opened.{Opened}

-- an allocation failure is one of the reasons why no JSON is written
pub no_memory : (o : Opened) (id : ℕ) (limits : Limits) (b old new : List ℕ) (a : Answer) →
    Leaves old new (plain 3) a → WritesJson o id limits b old new a
no_memory o id limits b old new a left = (Err (value.Memory evidence), tt, left)

-- the JSON of the value that the bytes spell is written, unless an allocation failed
pub value_written : (o : Opened) (id : ℕ) (limits : Limits) (b old new : List ℕ) (v : Seen)
    (a : Answer) →
    ReadsValue (opening_fault o.checked.types id limits) (query_of o.checked.types id limits) b
    (Ok v) →
    WritesUnlessMemory (json_text v) old new a → WritesJson o id limits b old new a
value_written o id limits b old new v a read (inl left) = no_memory o id limits b old new a left
value_written o id limits b old new v a read (inr put) =
    (Ok (json_text v), (read.0, ap (option_map json_text) read.1), put)

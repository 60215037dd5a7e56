-- What contracts see of a decoder, and which bytes have led to it.
use Rattle.std.specs.Prelude.{◌≡◌, ℕ, suc, ◌+◌, ◌*◌, ◌-◌, ◌≤◌, ◌^◌, ◌⊎◌, List, [], ◌++◌, length}
use Rattle.std.specs.Prelude.{map, take, Result, Ok, Err, true, Option, Some, None, nat_lt, not}
use Rattle.std.specs.Prelude.{◌||◌, if◌then◌else◌}
use Rattle.growth_core.specs.Evidence.{evidence}
use Rattle.scale_core.specs.Number.{AreBytes}
use Rattle.types_core.specs.declared.type_info.TypeInfo.{TypeInfo}
use Rattle.grammar_core.specs.Preorder.{tree_of}
use Rattle.grammar_core.specs.Reading.{Refusal, truncated}
use Rattle.grammar_core.specs.Tree.{Tree, nodes, text_bytes as tree_text_bytes}
use Rattle.value_core.specs.Built.{Built, built_text_bytes, finished}
use Rattle.value_core.specs.Refusals.{is_complete}
use Rattle.node_core.specs.Shown.{Seen}
use Rattle.value_core.specs.Walked.{start_of}
use Rattle.limits_core.specs.declared.limits.Limits.{Limits}
use Rattle.decode_core.specs.declared.fault.OpenFault.{OpenFault}
use Rattle.decode_core.specs.declared.fault.OpenFault.TheVariants as opening
use Rattle.widths_core.specs.Layouts.{layout}
use Rattle.graph_core.specs.Widths.{widest}
use Rattle.grammar_core.specs.Begun.{Begun, begun_preorder, begun_nodes, begun_text_bytes}
use Rattle.outcome_core.specs.Bound.{node_bound, value_bound}
use Rattle.outcome_core.specs.Machine.{remain, start}
use Rattle.outcome_core.specs.Outcome.{Query, done, refused, more, too_long, IsOutcome}
use Rattle.machine_core.specs.Reasons.{reason_of}
use Rattle.machine_core.specs.Running.{Running, held_of, state_of}
use Rattle.outcome_core.specs.HeldLaws.{open_run}
use Rattle.outcome_core.specs.HeldTree.{Holds}
use Rattle.outcome_core.specs.Reported.{reported, reported_at, shown}
use Rattle.machine_core.specs.Turned.{IsSound, RunsOut, WantsBytes, WantsMemory}
use Rattle.outcome_core.specs.Machine.{TurnsLead}
use Rattle.decode_core.specs.declared.decoder.Fed.{Fed}
use Rattle.decode_core.specs.declared.decoder.Fed.TheVariants as fed
use Rattle.decode_core.specs.declared.decoder.Progress.{Progress}
use Rattle.decode_core.specs.declared.decoder.Progress.TheVariants as progress
use Rattle.decode_core.specs.declared.fault.DecodeFault.{DecodeFault}
use Rattle.machine_core.specs.declared.reason.DecodeReason.TheVariants as reason

-- what is decoded, how many bytes were taken, the value in progress or the fault that ended it, how
-- many turns were taken, and how many calls fed it
pub record Decoding : Type 0 where
  pub query : Query
  pub taken : ℕ
  pub run : Result Running DecodeFault
  pub turns : ℕ
  pub calls : ℕ

-- a value before any of its bytes were read
abbrev pub first_running : List TypeInfo → ℕ → ℕ → Running
first_running types root depth =
    record {
      built = record {
        ty = root;
        walk = start_of types root depth;
        entries = [];
        run =
            None;
        turns = 0;
      };
      carry = [];
    }

-- the tree of the nodes, if they are a complete value
abbrev pub built_tree : Built → Tree
built_tree b = tree_of (map (λ e. e.head) b.entries)

-- the value has the query's type, registry and depth limit
pub record IsOf (j : Query) (s : Running) : Type 0 where
  pub types : s.built.walk.types ≡ j.registry
  pub ty : s.built.ty ≡ j.ty
  pub limit : s.built.walk.limit ≡ j.depth

-- the value's nodes are all that these bytes add, and more bytes are needed
pub record IsWaiting (j : Query) (b : List ℕ) (s : Running) : Type 0 where
  pub wants : WantsBytes s
  pub reads : reported_at j.registry (suc j.depth) j.ty b
      ≡ reported s.built.entries (Err ((truncated, wants.left), held_of s))
  pub sound : IsSound s

-- these bytes are those of the nodes followed by the held bytes, and more may come
pub record IsGoing (j : Query) (b : List ℕ) (s : Running) (n : ℕ) : Type 0 where
  pub same : IsOf j s
  pub own : List ℕ
  pub is : b ≡ own ++ held_of s
  pub are_bytes : AreBytes b
  pub led : TurnsLead j.registry (start j.depth j.ty) (state_of s.built) own
  pub stands : (s ≡ first_running j.registry j.ty j.depth) ⊎ IsWaiting j b s
  pub count : n ≡ length b
  pub fits : n ≤ j.bytes

-- a complete value stands at the front of these bytes
pub record IsDone (j : Query) (b : List ℕ) (s : Running) (n : ℕ) : Type 0 where
  pub same : IsOf j s
  pub whole : (x : List ℕ) → remain j.registry (state_of s.built) x ≡ reported [] (Ok x)
  pub nothing : held_of s ≡ []
  pub is_complete : is_complete s.built ≡ true
  pub sound : IsSound s
  pub outcome : IsOutcome j b (done (built_tree s.built)) n
  pub fits : n ≤ j.bytes

-- memory ran out: the first n of these bytes, within the limit, are those of the nodes of a value
-- in progress and those that it holds. What comes next is not rejected: a node that bytes spell was
-- to be added, or bytes of a text or a run of bytes were to be kept
pub record RanOut (j : Query) (b : List ℕ) (n : ℕ) : Type 0 where
  pub s : Running
  pub same : IsOf j s
  pub own : List ℕ
  pub rest : List ℕ
  pub is : take j.bytes b ≡ own ++ (held_of s ++ rest)
  pub led : TurnsLead j.registry (start j.depth j.ty) (state_of s.built) own
  pub count : n ≡ length own + length (held_of s)
  pub wants : WantsMemory s rest
  pub sound : IsSound s

-- why decoding ended: memory ran out, or these bytes have this outcome
abbrev pub IsEnded : Query → List ℕ → DecodeFault → ℕ → Type 0
IsEnded j b f n = ((f ≡ record { reason = reason.OutOfMemory evidence; at = 0 }) × RanOut j b n)
    ⊎ (((f ≡ record { reason = reason.TooLong; at = j.bytes }) × IsOutcome j b too_long n)
    ⊎ ((e : Refusal) × (at : ℕ) × (f ≡ record { reason = reason_of e; at = at })
    × IsOutcome j b (refused e at) n))

abbrev pub RunLed : Query → List ℕ → ℕ → Result Running DecodeFault → Type 0
RunLed j b n (Ok s) = IsGoing j b s n ⊎ IsDone j b s n
RunLed j b n (Err f) = IsEnded j b f n

-- these bytes, in whatever pieces, have led to the decoder
abbrev pub Led : Decoding → List ℕ → Type 0
Led d b = RunLed d.query b d.taken d.run

-- the answer to a piece is the outcome of all bytes so far
abbrev pub AnswersPiece : Decoding → Decoding → List ℕ → Result Progress DecodeFault → Type 0
AnswersPiece old new b (Ok progress.More) = IsOutcome new.query b more new.taken
AnswersPiece old new b (Ok (progress.Done used)) = (s : Running) × (new.run ≡ Ok s)
    × IsOutcome new.query b (done (built_tree s.built)) new.taken × (new.taken ≡ old.taken + used)
AnswersPiece old new b (Err f) = (new.run ≡ Err f) × IsEnded new.query b f new.taken

-- what is held after `More`: the nodes of the one begun tree that these bytes make, and the bytes
-- after the tree's, which are too few for the next node. The bytes of texts and runs are those of
-- the tree and those of an open run after its length
pub record HoldsOf (j : Query) (b : List ℕ) (s : Running) : Type 0 where
  pub tree : Begun
  pub holds : Holds j.registry (suc j.depth) j.ty b tree (held_of s)
  pub shows : shown s.built.entries ≡ begun_preorder tree
  pub nodes : length s.built.entries ≡ begun_nodes tree
  pub texts : built_text_bytes s.built
      ≡ begun_text_bytes tree + open_run (layout j.registry holds.2) (held_of s)

abbrev pub HoldsAt : Decoding → List ℕ → Result Progress DecodeFault → Type 0
HoldsAt d b (Ok progress.More) = (s : Running) × (d.run ≡ Ok s) × HoldsOf d.query b s
HoldsAt d b _ = Unit {0}

-- how many turns the builder's loop has taken; `gone` is the count of a builder that was dropped
abbrev pub closing_turns : Result Running DecodeFault → ℕ → ℕ
closing_turns (Ok s) gone = s.built.turns
closing_turns (Err f) gone = gone

-- the turns of the decoder's loop: one added each node, one ended each call, and each other turn
-- took a byte
abbrev pub LoopCounted : ℕ → Running → ℕ → ℕ → Type 0
LoopCounted n s turns calls = (length s.built.entries + calls ≤ turns)
    × (turns ≤ n + length s.built.entries + calls)

-- the turns of both loops: each turn of the builder's loop closes a node; after a fault the nodes
-- are gone, and only an upper bound is known
abbrev pub RunCounted : Query → ℕ → Result Running DecodeFault → ℕ → ℕ → Type 0
RunCounted j n (Ok s) turns calls = (length s.built.entries + s.built.turns + calls ≤ turns)
    × (turns ≤ n + length s.built.entries + s.built.turns + calls)
RunCounted j n (Err f) turns calls =
    turns ≤ n + 2 * node_bound n j.depth (widest j.registry) + calls

abbrev pub IsCounted : Decoding → Type 0
IsCounted d = RunCounted d.query d.taken d.run d.turns d.calls

-- some bytes have led to the decoder, and its byte limit is at most 2^40
pub record IsDecoding (d : Decoding) : Type 0 where
  pub limit : d.query.bytes ≤ 2 ^ 40
  pub bytes : List ℕ
  pub led : Led d bytes
  pub counted : IsCounted d

-- some bytes have led to this value, in progress or complete
pub record IsLedTo (s : Running) (limit taken : ℕ) : Type 0 where
  pub small : limit ≤ 2 ^ 40
  pub query : Query
  pub bytes : List ℕ
  pub is_limit : query.bytes ≡ limit
  pub led : RunLed query bytes taken (Ok s)

-- the result of a piece, by all bytes so far
abbrev pub RunAnswers : Query → List ℕ → ℕ → Running → Fed → Type 0
RunAnswers j b taken new (fed.More n) = IsGoing j b new n × IsOutcome j b more n × HoldsOf j b new
RunAnswers j b taken new (fed.Done used) = IsDone j b new (taken + used)
RunAnswers j b taken new (fed.Ended f n) = IsEnded j b f n

-- how many turns there were after a piece
abbrev pub FedCounts : Query → Running → ℕ → ℕ → ℕ → Fed → Type 0
FedCounts j new taken turns calls (fed.More n) = LoopCounted n new turns calls
FedCounts j new taken turns calls (fed.Done used) = LoopCounted (taken + used) new turns calls
FedCounts j new taken turns calls (fed.Ended f n) =
    turns + new.built.turns ≤ n + 2 * node_bound n j.depth (widest j.registry) + calls

-- a piece of n bytes adds at most n to the bytes taken, whatever the result is
abbrev pub FedTakes : ℕ → ℕ → Fed → Type 0
FedTakes taken n (fed.More m) = (taken ≤ m) × (m ≤ taken + n)
FedTakes taken n (fed.Done used) = used ≤ n
FedTakes taken n (fed.Ended f m) = (taken ≤ m) × (m ≤ taken + n)

-- turns on a piece led from this value in progress to an allocation failure, with n bytes taken in
-- all
abbrev pub AsksAt : Running → List ℕ → ℕ → ℕ → Type 0
AsksAt s piece taken n = (k : ℕ) × (n ≡ taken + k) × RunsOut s piece k

-- if an allocation failure ended a value, the turns on the piece led to it
abbrev pub FedAsks : Running → List ℕ → ℕ → Fed → Type 0
FedAsks s piece taken (fed.Ended f n) =
    f.reason ≡ reason.OutOfMemory evidence → AsksAt s piece taken n
FedAsks s piece taken _ = Unit {0}

-- if an allocation failure is reported with n bytes taken, it was reported before, or the turns on
-- the part of the piece within the limit led to it from the value so far
abbrev pub AsksMemory : Decoding → List ℕ → ℕ → DecodeFault → Type 0
AsksMemory d piece n f = f.reason ≡ reason.OutOfMemory evidence → (d.run ≡ Err f)
    ⊎ ((s : Running) × (d.run ≡ Ok s) × AsksAt s (take (d.query.bytes - d.taken) piece) d.taken n)

-- nothing changed except the numbers of turns and calls
pub record IsKept (old new : Decoding) : Type 0 where
  pub query : new.query ≡ old.query
  pub taken : new.taken ≡ old.taken
  pub run : new.run ≡ old.run

-- if the value is reported to be complete, it is there
abbrev pub HasValue : Decoding → Result Progress DecodeFault → Type 0
HasValue d (Ok (progress.Done used)) = (s : Running) × (d.run ≡ Ok s) × (is_complete s.built ≡ true)
HasValue d _ = Unit {0}

-- ---- a decoder is made, counted, and ended

-- a decoder of a type of a registry, before it has taken any bytes
abbrev pub first_of_all : List TypeInfo → ℕ → Limits → Decoding
first_of_all types root limits = record {
  query = record { registry = types; ty = root; depth = limits.depth; bytes = limits.bytes };
  taken = 0;
  run = Ok (first_running types root limits.depth);
  turns = 0;
  calls = 0;
}

-- the fault of opening a decoder: first an id that is not a position, and then a limit out of range
abbrev pub opening_fault : List TypeInfo → ℕ → Limits → Option OpenFault
opening_fault types root limits =
    if not (nat_lt root (length types)) then Some opening.UnknownType
    else (if nat_lt 1024 limits.depth || nat_lt (2 ^ 40) limits.bytes then Some
    opening.LimitOutOfRange else None)

-- what is made is the first one, unless there is a fault or an allocation fails
abbrev pub OpensDecoder : {X : Type 0} → Option OpenFault → X → Result X OpenFault → Type 0
OpensDecoder None first (Ok d) = d ≡ first
OpensDecoder None first (Err e) = e ≡ opening.OutOfMemory evidence
OpensDecoder (Some f) first (Ok d) = ⊥
OpensDecoder (Some f) first (Err e) = e ≡ f

abbrev pub node_count : Decoding → ℕ
node_count d = elim d.run [ Ok s ↦ length s.built.entries | Err f ↦ 0 ]

abbrev pub text_bytes : Decoding → ℕ
text_bytes d = elim d.run [ Ok s ↦ built_text_bytes s.built | Err f ↦ 0 ]

-- if the value is complete, the counts are those of its nodes and of the bytes of its texts and
-- runs
abbrev pub CountsValue : Decoding → Result Progress DecodeFault → Type 0
CountsValue d (Ok (progress.Done used)) = (s : Running) × (d.run ≡ Ok s)
    × (node_count d ≡ nodes (finished s.built).tree)
    × (text_bytes d ≡ tree_text_bytes (finished s.built).tree)
CountsValue d _ = Unit {0}

-- how many nodes are open, and how many bytes are carried
abbrev pub open_nodes : Decoding → ℕ
open_nodes d = elim d.run [ Ok s ↦ length s.built.walk.frames - 1 | Err f ↦ 0 ]

abbrev pub carried : Decoding → ℕ
carried d = elim d.run [ Ok s ↦ length s.carry | Err f ↦ 0 ]

-- what is held is bounded by the bytes taken, the depth limit and the width of the registry, and so
-- are the turns
pub record IsSmall (d : Decoding) : Type 0 where
  pub nodes : node_count d ≤ node_bound d.taken d.query.depth (widest d.query.registry)
  pub texts : text_bytes d ≤ d.taken
  pub frames : open_nodes d ≤ d.query.depth + 1
  pub carry : carried d ≤ 32
  pub turns : d.turns ≤ d.taken + 2 * node_bound d.taken d.query.depth (widest d.query.registry)
      + d.calls

-- every turn is counted that added a held node, closed a node, or ended a call
abbrev pub HasCounted : Decoding → Type 0
HasCounted d = elim d.run [
  | Ok s ↦ length s.built.entries + s.built.turns + d.calls ≤ d.turns
  | Err f ↦ Unit {0}
]

-- a smaller bound on the nodes of a complete value
abbrev pub IsSmallAtEnd : Decoding → Result Progress DecodeFault → Type 0
IsSmallAtEnd d (Ok (progress.Done used)) =
    node_count d ≤ value_bound d.taken d.query.depth (widest d.query.registry)
IsSmallAtEnd d _ = Unit {0}

-- the bytes of a returned value bound its nodes and the bytes of its texts and runs
abbrev pub IsSmallValue : Query → List ℕ → Result Seen DecodeFault → Type 0
IsSmallValue j b (Ok v) = (n : ℕ) × IsOutcome j b (done v.tree) n
    × (nodes v.tree ≤ value_bound n j.depth (widest j.registry)) × (tree_text_bytes v.tree ≤ n)
IsSmallValue j b (Err f) = Unit {0}

-- the value at the front of these bytes; or they are too few, or decoding ended with a fault
abbrev pub FinishesDecoder : Query → List ℕ → Result Seen DecodeFault → Type 0
FinishesDecoder j b (Ok v) = (n : ℕ) × (v.types ≡ j.registry) × (v.ty ≡ j.ty)
    × IsOutcome j b (done v.tree) n
FinishesDecoder j b (Err f) =
    ((f ≡ record { reason = reason.Truncated; at = length b }) × IsOutcome j b more (length b))
    ⊎ ((n : ℕ) × IsEnded j b f n)

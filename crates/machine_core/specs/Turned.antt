-- One piece of input, turn by turn.
use Rattle.std.specs.Prelude.{◌≡◌, ℕ, suc, ◌+◌, ◌-◌, ◌≤◌, ◌⊎◌, List, [], ◌++◌, length, take}
use Rattle.std.specs.Prelude.{drop, false, true, Option, Some, None, Result, Ok, Err}
use Rattle.growth_core.specs.Evidence.{evidence}
use Rattle.types_core.specs.declared.type_info.TypeInfo.{TypeInfo}
use Rattle.widths_core.specs.Layouts as layout
use Rattle.scale_core.specs.Compact.{compact}
use Rattle.widths_core.specs.RunBytes.{run_bytes}
use Rattle.widths_core.specs.declared.run_kind.RunKind.{RunKind}
use Rattle.grammar_core.specs.Runs.{run_length_at}
use Rattle.grammar_core.specs.declared.form.Form.{Form}
use Rattle.grammar_core.specs.declared.form.Next.TheVariants as next
use Rattle.value_core.specs.Begun.{IsBegun}
use Rattle.value_core.specs.Built.{IsClean, Pieces, next_layout}
use Rattle.value_core.specs.Walked.{elements_after, next_of}
use Rattle.value_core.specs.Refusals.{is_complete}
use Rattle.grammar_core.specs.Reading.{Refusal, truncated}
use Rattle.form_core.specs.declared.forms.BytesForm.{BytesForm}
use Rattle.form_core.specs.declared.forms.BytesForm.TheVariants as bytes
use Rattle.outcome_core.specs.Decided.{Decided}
use Rattle.outcome_core.specs.Machine.{remain, to_go, is_cut, TurnLeads}
use Rattle.machine_core.specs.NodeAdds.{IsSpelled}
use Rattle.machine_core.specs.Reasons.{reason_of}
use Rattle.machine_core.specs.declared.reason.DecodeReason.TheVariants as reason
use Rattle.machine_core.specs.Running.{Running, IsCarry, IsRunNext, state_of, held_of}
use Rattle.outcome_core.specs.Reported.{reported, after, own_at}
use Rattle.machine_core.specs.declared.node.NodeFault.{NodeFault}
use Rattle.machine_core.specs.declared.node.NodeFault.TheVariants as fault
use Rattle.machine_core.specs.declared.turned.Stopped.{Stopped}
use Rattle.machine_core.specs.declared.turned.Stopped.TheVariants as stop
use Rattle.machine_core.specs.declared.turned.Tried.{Tried}
use Rattle.machine_core.specs.declared.turned.Tried.TheVariants as tried

-- what a turn did: it took so many bytes of the piece, or added a node, and goes on; or it stopped,
-- for this reason
abbrev pub Turned : Type 0
Turned = Result ℕ Stopped

abbrev pub types_in : Running → List TypeInfo
types_in s = s.built.walk.types

-- the same value is decoded
pub record IsSame (old new : Running) : Type 0 where
  pub types : new.built.walk.types ≡ old.built.walk.types
  pub limit : new.built.walk.limit ≡ old.built.walk.limit
  pub ty : new.built.ty ≡ old.built.ty

-- these bytes lead from the old value in progress to the new one, whatever follows them, and no
-- node is dropped
pub record Moves (old new : Running) (bytes : List ℕ) : Type 0 where
  pub same : IsSame old new
  pub own : List ℕ
  pub is : held_of old ++ bytes ≡ own ++ held_of new
  pub reports : (more : List ℕ) →
      after (state_of old.built).nodes (remain (types_in old) (state_of old.built) (own ++ more))
      ≡ after (state_of new.built).nodes (remain (types_in old) (state_of new.built) more)
  pub level : (state_of new.built).room + length (state_of new.built).pending
      ≡ (state_of old.built).room + length (state_of old.built).pending
  pub nodes : length old.built.entries ≤ length new.built.entries

-- the work that is left
abbrev pub left_to_do : Running → List ℕ → ℕ
left_to_do s rest = to_go (types_in s) (state_of s.built) (held_of s ++ rest) + length rest

-- the next node's own bytes are incomplete
pub record WantsBytes (s : Running) : Type 0 where
  pub form : Form
  pub next : next_of s.built.walk ≡ next.Wants form
  pub left : List ℕ
  pub short : own_at (next_layout s.built) (held_of s) ≡ Err (truncated, left)

-- the held bytes followed by these spell the next node
abbrev pub KeepsNode : Running → List ℕ → Type 0
KeepsNode s bytes = IsSpelled s.built (held_of s ++ bytes)

-- a text, a run of bytes or a bit sequence is next; the held bytes followed by these, at least one,
-- are its length and perhaps some of its bytes, in which no unused bit is 1
abbrev pub KeepsRun : Running → List ℕ → Type 0
KeepsRun s bytes = (k : RunKind) × (next_layout s.built ≡ layout.plain (layout.run k))
    × (1 ≤ length bytes)
    × ((n : ℕ) × (came : List ℕ) × (run_length_at k (held_of s ++ bytes) ≡ Ok (n, came))
    × (length came ≤ run_bytes k n) × IsClean k n came)

-- memory is needed, with `rest` left of the piece: a value may stand next, and the first bytes of
-- `rest` complete its node, which is to be added, or are bytes of a run, which are to be kept
pub record WantsMemory (s : Running) (rest : List ℕ) : Type 0 where
  pub form : Form
  pub next : next_of s.built.walk ≡ next.Wants form
  pub bytes : List ℕ
  pub later : List ℕ
  pub is : rest ≡ bytes ++ later
  pub keeps : KeepsNode s bytes ⊎ KeepsRun s bytes

-- why no turn follows, with `rest` left of the piece
abbrev pub EndsTurns : Running → List ℕ → Stopped → Type 0
EndsTurns s rest stop.Finished =
    ((x : List ℕ) → remain (types_in s) (state_of s.built) x ≡ reported [] (Ok x))
    × (held_of s ≡ [])
    × (is_complete s.built ≡ true)
EndsTurns s rest stop.Wants = (rest ≡ []) × WantsBytes s
EndsTurns s rest (stop.Refused held reported_reason at len) = let x = held_of s ++ rest in
    (e : Refusal) × (left : List ℕ) × (is_cut e ≡ false) × (reported_reason ≡ reason_of e)
    × (held ≡ length (held_of s)) × (at ≡ length x - length left)
    × (remain (types_in s) (state_of s.built) x ≡ reported [] (Err ((e, left), x)))
    × Decided (types_in s) (state_of s.built) x e left len × (held ≤ len)
EndsTurns s rest (stop.OutOfMemory _) = WantsMemory s rest

-- more bytes are held, or a node is added and no bytes are held
abbrev pub Steps : Running → Running → List ℕ → Type 0
Steps old new bytes = ((1 ≤ length bytes) × (state_of new.built ≡ state_of old.built)
    × (held_of new ≡ held_of old ++ bytes))
    ⊎ ((held_of new ≡ []) × TurnLeads (types_in old) (state_of old.built) (state_of new.built)
    (held_of old ++ bytes) × (length new.built.entries ≡ suc (length old.built.entries)))

-- what a turn does, by its result
abbrev pub StepReports : Running → Running → List ℕ → Turned → Type 0
StepReports old new piece (Ok n) = (n ≤ length piece) × IsSame old new
    × Steps old new (take n piece)
StepReports old new piece (Err (stop.Refused held reported_reason at len)) =
    EndsTurns old piece (stop.Refused held reported_reason at len)
StepReports old new piece (Err (stop.OutOfMemory _)) = WantsMemory old piece
StepReports old new piece (Err s) = (new ≡ old) × EndsTurns old piece s

-- the nodes and the walk are the same, and the builder's loop has taken no turn; an open run may
-- have more bytes, or other bytes may be carried
pub record SameNodes (old new : Running) : Type 0 where
  pub ty : new.built.ty ≡ old.built.ty
  pub walk : new.built.walk ≡ old.built.walk
  pub entries : new.built.entries ≡ old.built.entries
  pub turns : new.built.turns ≡ old.built.turns

-- if the decoder's turn stopped, the nodes are the same
abbrev pub KeepsNodes : Running → Running → Turned → Type 0
KeepsNodes old new (Ok n) = Unit {0}
KeepsNodes old new _ = SameNodes old new

-- what stands after the turns end: the same as before the last one; its nodes, if one was rejected;
-- anything, if an allocation failed
abbrev pub StandsAfter : Stopped → Running → Running → Type 0
StandsAfter (stop.Refused held reported_reason at len) before new = SameNodes before new
StandsAfter (stop.OutOfMemory _) before new = Unit {0}
StandsAfter s before new = new ≡ before

-- nothing is carried, and no run is open
abbrev pub IsReady : Running → Type 0
IsReady s = (s.carry ≡ []) × (s.built.run ≡ None)

-- what a turn does on a node whose own bytes may lie whole in the piece: it adds the node, or
-- changes nothing
abbrev pub WholeReports : Running → Running → List ℕ → Tried → Type 0
WholeReports old new piece (tried.Added n) = StepReports old new piece (Ok n) × IsReady new
WholeReports old new piece tried.Untouched = new ≡ old
WholeReports old new piece (tried.OutOfMemory _) = WantsMemory old piece × (new ≡ old)

-- a variant or a sequence
abbrev pub HasParts : BytesForm → Type 0
HasParts bytes.Arm = Unit {0}
HasParts bytes.Sequence = Unit {0}
HasParts _ = ⊥

-- what holds of every value in progress: it is a begun tree, no more nodes are open than the depth
-- limit allows, and any other held bytes belong to the next node
pub record IsSound (s : Running) : Type 0 where
  pub begun : IsBegun s.built
  pub frames : length s.built.walk.frames ≤ s.built.walk.limit + 2
  pub carried : IsCarry s.built s.carry
  pub run_next : IsRunNext s.built s.carry s.built.run

-- what the turns on a piece do if they take n bytes of it
abbrev pub FeedReports : Running → Running → List ℕ → ℕ → Stopped → Type 0
FeedReports old new piece n s = (n ≤ length piece)
    × ((last : Running) × Moves old last (take n piece) × EndsTurns last (drop n piece) s
    × StandsAfter s last new × IsSound last)

-- the turns on a piece end at an allocation failure after they took n bytes of it: these lead to a
-- value in progress, which needs memory for the bytes after them
abbrev pub RunsOut : Running → List ℕ → ℕ → Type 0
RunsOut old piece n = (n ≤ length piece)
    × ((last : Running) × Moves old last (take n piece) × WantsMemory last (drop n piece)
    × IsSound last)

-- between the two counts there is one turn for each node that was added and one that stopped, and
-- at most one more for each byte that was taken
abbrev pub FewTurns : Running → Running → ℕ → ℕ → ℕ → Type 0
FewTurns old new n from to = (from + length new.built.entries + 1 ≤ to + length old.built.entries)
    × (to + length old.built.entries ≤ from + n + length new.built.entries + 1)

-- the same if nothing is left of the value: what stood before the last turn is known, and that turn
-- closed no node
pub record StopsShort (old new : Running) (piece : List ℕ) (n from to : ℕ) : Type 0 where
  pub within : n ≤ length piece
  pub last : Running
  pub moves : Moves old last (take n piece)
  pub few : FewTurns old last n from to
  pub sound : IsSound last
  pub closed : new.built.turns ≡ last.built.turns

abbrev pub StopCounts : Running → Running → List ℕ → ℕ → ℕ → ℕ → Stopped → Type 0
StopCounts old new piece from to n (stop.Refused held reported_reason at len) =
    StopsShort old new piece n from to
StopCounts old new piece from to n (stop.OutOfMemory _) = StopsShort old new piece n from to
StopCounts old new piece from to n s = FewTurns old new n from to

-- what a call that feeds a piece does
pub record FeedTells (old new : Running) (piece : List ℕ) (from to : ℕ) (result : ℕ × Stopped)
    : Type 0 where
  pub reports : FeedReports old new piece result.0 result.1
  pub whole : is_complete old.built ≡ true → (result ≡ (0, stop.Finished)) × (new ≡ old)
  pub counts : StopCounts old new piece from to result.0 result.1

-- what holds between the turns of a call: the bytes and turns so far, and what they led to
pub record CallSoFar (a b : Running) (piece : List ℕ) (at start from : ℕ) : Type 0 where
  pub inside : at ≤ length piece
  pub moves : Moves a b (take at piece)
  pub each : start + length b.built.entries ≤ from + length a.built.entries
  pub few : from + length a.built.entries ≤ start + at + length b.built.entries
  pub whole : is_complete a.built ≡ true → (at ≡ 0) × (b ≡ a)

-- a value of this form is next, and no run is open
pub record Awaits (s : Running) (f : Form) : Type 0 where
  pub next : next_of s.built.walk ≡ next.Wants f
  pub closed : s.built.run ≡ None
  pub sound : IsSound s

-- an element of a list was added: the same form is next, and one element fewer follows it
abbrev pub ListGoesOn : Form → Running → Running → Tried → Type 0
ListGoesOn f old new (tried.Added n) = Awaits new f × (new.carry ≡ [])
    × (elements_after new.built.walk + 1 ≡ elements_after old.built.walk)
ListGoesOn f old new _ = Unit {0}

-- turns on a piece: those before the last one took n bytes without stopping, and the last one did
-- this
pub record TurnsReport (old new : Running) (piece : List ℕ) (from to n : ℕ) (last : Turned)
    : Type 0 where
  pub before : Running
  pub within : n ≤ length piece
  pub moves : Moves old before (take n piece)
  pub nearer : left_to_do before (drop n piece) ≤ left_to_do old piece
  pub few : FewTurns old before n from to
  pub sound : IsSound before
  pub reports : StepReports before new (drop n piece) last
  pub kept : KeepsNodes before new last
  pub whole : is_complete old.built ≡ true →
      (n ≡ 0) × (before ≡ old) × (last ≡ Err stop.Finished)

-- the same for turns on nodes whose own bytes may lie whole in the piece
pub record WholeTurnsReport (old new : Running) (piece : List ℕ) (from to n : ℕ) (last : Tried)
    : Type 0 where
  pub before : Running
  pub within : n ≤ length piece
  pub moves : Moves old before (take n piece)
  pub nearer : left_to_do before (drop n piece) ≤ left_to_do old piece
  pub few : FewTurns old before n from to
  pub sound : IsSound before
  pub reports : WholeReports before new (drop n piece) last
  pub whole : is_complete old.built ≡ true → (n ≡ 0) × (before ≡ old) × (last ≡ tried.Untouched)

-- the result of a turn that took the next node's own bytes
abbrev pub node_turned : Result (Unit {0}) NodeFault → ℕ → ℕ → ℕ → Turned
node_turned (Ok u) held count len = Ok count
node_turned (Err (fault.Refused reported_reason at)) held count len =
    Err (stop.Refused held reported_reason at len)
node_turned (Err (fault.OutOfMemory _)) held count len = Err (stop.OutOfMemory evidence)

-- a turn that takes bytes of the piece for an open run
abbrev pub PieceReports : Running → Running → List ℕ → Turned → Type 0
PieceReports old new piece (Ok n) = (n ≤ length piece) × IsSame old new
    × (1 ≤ length (take n piece)) × (state_of new.built ≡ state_of old.built)
    × (held_of new ≡ held_of old ++ take n piece)
PieceReports old new piece (Err (stop.OutOfMemory _)) = WantsMemory old piece
PieceReports old new piece (Err s) = ⊥

-- a turn that ends a run, after it took the run's last `count` bytes, whatever follows them
abbrev pub EndReports : Running → Running → ℕ → Turned → Type 0
EndReports old new count (Ok n) = (n ≡ count) × IsSame old new × Steps old new []
EndReports old new count (Err (stop.Refused held reported_reason at len)) =
    (rest : List ℕ) → EndsTurns old rest (stop.Refused (count + held) reported_reason at len)
EndReports old new count (Err (stop.OutOfMemory _)) = (rest : List ℕ) → WantsMemory old rest
EndReports old new count (Err s) = ⊥

-- the stop at an unused bit of 1, so many bytes after those that came
abbrev pub unused_stop : Option Pieces → ℕ → Stopped
unused_stop (Some t) after = let held = length (compact t.len) + length t.bytes in
    stop.Refused held reason.UnusedBits (held + after) (held + after + 1)
unused_stop None after = stop.Wants

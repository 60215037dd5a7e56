-- What each call does to what is behind its handles, and what it reports.
use Rattle.std.specs.Prelude.{◌≡◌, ℕ, ◌⊎◌, ◌%◌, ◌/◌, ◌==◌, ◌&&◌, Bool, true, false, List, []}
use Rattle.std.specs.Prelude.{◌++◌, length, Option, Some, None, Result, Ok, Err}
use Rattle.chain_core.specs.Names.{Entry, entries_of}
use Rattle.chain_core.specs.declared.names.Names.{Names}
use Rattle.limits_core.specs.declared.limits.Limits.{Limits}
use Rattle.grammar_core.specs.Tree.{nodes, text_bytes as tree_text_bytes}
use Rattle.json_core.specs.Json.{json_text}
use Rattle.json_core.specs.Printed.{IsInFront}
use Rattle.outcome_core.specs.Outcome.{Query}
use Rattle.decode_core.specs.Decoding.{AnswersPiece, FinishesDecoder, Led, first_of_all}
use Rattle.decode_core.specs.Decoding.{node_count, opening_fault, text_bytes}
use Rattle.decode_core.specs.Streaming.{query_of}
use Rattle.decode_core.specs.declared.decoder.Progress.{Progress}
use Rattle.decode_core.specs.declared.fault.DecodeFault.{DecodeFault}
use Rattle.decode_core.specs.declared.fault.OpenFault.{OpenFault}
use Rattle.budget_core.specs.Bytes.{budget_bytes}
use Rattle.scale_calls.specs.Lines.{type_line}
use Rattle.scale_calls.specs.Named.{IsMetadata, Metadata, RefusesMetadata, all_names, all_types}
use Rattle.scale_calls.specs.Opened.{RefusesRegistry, checked_of, file_end, file_version}
use Rattle.scale_calls.specs.Refused.{opening_refusal, value_refusal}
use Rattle.scale_calls.specs.Values.{ShowsValue}
use Rattle.scale_calls.specs.declared.metadata.MetadataRefusal.{MetadataRefusal}
use Rattle.scale_calls.specs.declared.refusal.RegistryRefusal.{RegistryRefusal}
use Rattle.scale_calls.specs.declared.registry.OpenOptions.{OpenOptions}
use Rattle.scale_calls.specs.declared.refusal.ValueRefusal.{ValueRefusal}
use Rattle.scale_calls.specs.declared.refusal.ValueRefusal.TheVariants as value
use Rattle.c_answers.specs.Codes.{count_answer, metadata_answer, opened_answer, plain}
use Rattle.c_answers.specs.Codes.{progress_answer}
use Rattle.c_answers.specs.Codes.{registry_answer, text_answer}
use Rattle.c_answers.specs.Codes.{value_answer}
use Rattle.scaleview_c.specs.declared.allowance.CallBudget.{CallBudget}
use Rattle.c_answers.specs.declared.answer.Answer.{Answer}
use Rattle.scaleview_c.specs.declared.resource.Resource.{Resource}
use Rattle.scaleview_c.specs.declared.resource.Resource.TheVariants as held
use Rattle.scaleview_c.specs.declared.opened.Opened.{Opened}
use Rattle.scaleview_c.specs.declared.session.Session.{Session}
use Rattle.scaleview_c.specs.declared.session.Stage.{Stage}
use Rattle.scaleview_c.specs.declared.session.Stage.TheVariants as stage

-- the text is written at the start of the memory; or it doesn't fit, and nothing is written
abbrev pub Writes : List ℕ → List ℕ → List ℕ → Answer → Type 0
Writes text old new a = IsInFront text old new × (a ≡ text_answer (length text) (length old))

-- nothing is written, and this answer is reported
abbrev pub Leaves : List ℕ → List ℕ → Answer → Answer → Type 0
Leaves old new reported a = (new ≡ old) × (a ≡ reported)

-- the text is written, unless an allocation failed, which is reported
abbrev pub WritesUnlessMemory : List ℕ → List ℕ → List ℕ → Answer → Type 0
WritesUnlessMemory text old new a = Leaves old new (plain 3) a ⊎ Writes text old new a

-- the number of bytes of the budget that a call or a session allocates in; 0 stands for no budget
abbrev pub call_bytes : CallBudget → ℕ
call_bytes b = budget_bytes b.alloc

-- ---- registries

-- how flags open a registry: bit 0 stands for metadata and bit 2 for bits; others are ignored
abbrev pub options_of : ℕ → OpenOptions
options_of flags = record { metadata = flags % 2 == 1; bits = flags / 4 % 2 == 1 }

-- whether names are read too: bit 1, together with bit 0
abbrev pub reads_names : ℕ → Bool
reads_names flags = (flags % 2 == 1) && (flags / 2 % 2 == 1)

-- the names of an open registry, none if they weren't read
abbrev pub names_if : Option Names → List Entry
names_if (Some names) = entries_of names
names_if None = []

abbrev pub names_in : Opened → List Entry
names_in o = names_if o.names

-- the registry that the bytes hold is behind the handle; or nothing is, and the answer says why
abbrev pub OpensRegistry : OpenOptions → List ℕ → Option Resource → Answer → Type 0
OpensRegistry options b (Some (held.Registry o)) a = (checked_of options b ≡ Some o.checked.types)
    × (names_in o ≡ []) × ((end : ℕ) × (file_end options.metadata b ≡ Some end)
    × (a ≡ opened_answer (file_version options.metadata b) end (length o.checked.types)))
OpensRegistry options b (Some (held.Session s)) a = ⊥
OpensRegistry options b None a = (e : RegistryRefusal) × RefusesRegistry options b e
    × (a ≡ registry_answer e)

-- the types that the metadata has and makes are behind the handle, with its names
abbrev pub OpensMetadata : Bool → List ℕ → Option Resource → Answer → Type 0
OpensMetadata bits b (Some (held.Registry o)) a = (m : Metadata) × IsMetadata bits b m
    × (o.checked.types ≡ all_types m) × (names_in o ≡ all_names m)
    × ((end : ℕ) × (file_end true b ≡ Some end)
    × (a ≡ opened_answer (Some m.version) end (length o.checked.types)))
OpensMetadata bits b (Some (held.Session s)) a = ⊥
OpensMetadata bits b None a = (e : MetadataRefusal) × RefusesMetadata bits b e
    × (a ≡ metadata_answer e)

-- the bytes are opened with names or without
abbrev pub OpensBy : Bool → OpenOptions → List ℕ → Option Resource → Answer → Type 0
OpensBy true options b new a = OpensMetadata options.bits b new a
OpensBy false options b new a = OpensRegistry options b new a

-- the bytes are opened as the flags say
abbrev pub OpensBytes : ℕ → List ℕ → Option Resource → Answer → Type 0
OpensBytes flags b new a = OpensBy (reads_names flags) (options_of flags) b new a

-- the answer says that the handle isn't null, and what is behind it stays
abbrev pub Stays : Option Resource → Option Resource → Answer → Type 0
Stays old new a = (new ≡ old) × (a ≡ plain 6)

-- the registry is opened behind a null handle
abbrev pub OpensHandle : Option Resource → ℕ → List ℕ → Option Resource → Answer → Type 0
OpensHandle (Some old) flags b new a = Stays (Some old) new a
OpensHandle None flags b new a = OpensBytes flags b new a

-- this holds of a box, by its value, and of the answer; or of no box and the answer
abbrev pub OpensBox : {X : Type 0} → (X → Resource) → (Option Resource → Answer → Type 0) →
    Result (X × Answer) Answer → Type 0
OpensBox value_of opens (Ok x) = opens (Some (value_of x.0)) x.1
OpensBox value_of opens (Err a) = opens None a

-- nothing is behind the handle any more; or what is there stays, because a session has the registry
-- or because it is no registry
abbrev pub ClosesRegistry : Option Resource → Option Resource → ℕ → Type 0
ClosesRegistry (Some (held.Registry o)) new code = ((code ≡ 0) × (new ≡ None))
    ⊎ ((code ≡ 4) × (new ≡ Some (held.Registry o)))
ClosesRegistry (Some (held.Session s)) new code = (code ≡ 5) × (new ≡ Some (held.Session s))
ClosesRegistry None new code = (code ≡ 5) × (new ≡ None)

-- how many types there are
abbrev pub ReportsTypes : Option Resource → Answer → Type 0
ReportsTypes (Some (held.Registry o)) a = a ≡ count_answer 0 (length o.checked.types)
ReportsTypes (Some (held.Session s)) a = a ≡ plain 5
ReportsTypes None a = a ≡ plain 5

-- a text of a type is written, or an allocation failed; or the type does not exist
abbrev pub WritesKnown : Option (List ℕ) → List ℕ → List ℕ → Answer → Type 0
WritesKnown (Some text) old new a = Leaves old new (plain 3) a ⊎ Writes text old new a
WritesKnown None old new a = Leaves old new (plain 201) a

-- the line of the type is written, if the type exists, unless an allocation failed
abbrev pub WritesLine : Option Resource → ℕ → List ℕ → List ℕ → Answer → Type 0
WritesLine (Some (held.Registry o)) id old new a =
    WritesKnown (type_line o.checked.types id) old new a
WritesLine (Some (held.Session s)) id old new a = Leaves old new (plain 5) a
WritesLine None id old new a = Leaves old new (plain 5) a

-- a text is written, or the answer says why there is none
abbrev pub WritesResult : Result (List ℕ) ValueRefusal → List ℕ → List ℕ → Answer → Type 0
WritesResult (Ok text) old new a = Writes text old new a
WritesResult (Err e) old new a = Leaves old new (value_answer e) a

-- the JSON of the value that the bytes spell is written, or the answer says why there is none
abbrev pub WritesJson : Opened → ℕ → Limits → List ℕ → List ℕ → List ℕ → Answer → Type 0
WritesJson o id limits b old new a = (r : Result (List ℕ) ValueRefusal)
    × ShowsValue (λ (text : List ℕ). text) (opening_fault o.checked.types id limits)
    (query_of o.checked.types id limits) b r × WritesResult r old new a

abbrev pub WritesValue : Option Resource → ℕ → Limits → List ℕ → List ℕ → List ℕ → Answer → Type 0
WritesValue (Some (held.Registry o)) id limits b old new a = WritesJson o id limits b old new a
WritesValue (Some (held.Session s)) id limits b old new a = Leaves old new (plain 5) a
WritesValue None id limits b old new a = Leaves old new (plain 5) a

-- ---- sessions

-- why no session is started, unless an allocation failed
abbrev pub ForbidsStart : Option OpenFault → Answer → Type 0
ForbidsStart forbidden a = ((f : OpenFault) × (forbidden ≡ Some f)
    × (a ≡ value_answer (opening_refusal f))) ⊎ (a ≡ plain 3)

-- a decoder of the type that has taken no bytes yet
abbrev pub IsStarted : Opened → ℕ → Limits → Stage → Type 0
IsStarted o id limits (stage.Decoding d) = (opening_fault o.checked.types id limits ≡ None)
    × (d ≡ first_of_all o.checked.types id limits) × Led d []
IsStarted o id limits (stage.Complete v) = ⊥
IsStarted o id limits (stage.Refused e) = ⊥

-- a started session of the registry, with a budget of exactly this memory
pub record StartsIn (o : Opened) (id : ℕ) (limits : Limits) (memory : ℕ) (s : Session) : Type 0
  where
    pub starts : IsStarted o id limits s.stage
    pub registry : s.registry.now ≡ o
    pub budget : call_bytes s.budget ≡ memory

-- a box holds such a session; or the answer says why there is none
abbrev pub IsSession : Opened → ℕ → Limits → ℕ → Resource → Type 0
IsSession o id limits memory (held.Session s) = StartsIn o id limits memory s
IsSession o id limits memory (held.Registry other) = ⊥

abbrev pub StartsBox : {X : Type 0} → (X → Resource) → Opened → ℕ → Limits → ℕ →
    Result X ValueRefusal → Type 0
StartsBox value_of o id limits memory (Ok x) = IsSession o id limits memory (value_of x)
StartsBox value_of o id limits memory (Err e) =
    ForbidsStart (opening_fault o.checked.types id limits) (value_answer e)

-- a started session is behind the handle; or nothing is, and the answer says why
abbrev pub StartsSession : Option Resource → ℕ → Limits → ℕ → Option Resource → Answer → Type 0
StartsSession (Some (held.Registry o)) id limits memory (Some (held.Session s)) a =
    StartsIn o id limits memory s × (a ≡ plain 0)
StartsSession (Some (held.Registry o)) id limits memory (Some (held.Registry other)) a = ⊥
StartsSession (Some (held.Registry o)) id limits memory None a =
    ForbidsStart (opening_fault o.checked.types id limits) a
StartsSession (Some (held.Session s)) id limits memory new a = (new ≡ None) × (a ≡ plain 5)
StartsSession None id limits memory new a = (new ≡ None) × (a ≡ plain 5)

-- the session is started behind a null handle
abbrev pub StartsHandle : Option Resource → Option Resource → ℕ → Limits → ℕ → Option Resource →
    Answer → Type 0
StartsHandle (Some old) registry id limits memory new a = Stays (Some old) new a
StartsHandle None registry id limits memory new a = StartsSession registry id limits memory new a

-- a session keeps its registry and its budget
abbrev pub Keeps : Session → Session → Type 0
Keeps s t = (t.registry ≡ s.registry) × (t.budget ≡ s.budget)

-- the answer to a piece as numbers
abbrev pub fed_answer : Result Progress DecodeFault → Answer
fed_answer (Ok progress) = progress_answer progress
fed_answer (Err f) = value_answer (value_refusal f)

-- the decoder took the piece, and its answer is reported; a value that has ended stays
abbrev pub FeedsStage : Stage → List ℕ → Stage → Answer → Type 0
FeedsStage (stage.Decoding d) piece (stage.Decoding e) a = (r : Result Progress DecodeFault)
    × ((b : List ℕ) → Led d b → AnswersPiece d e (b ++ piece) r × Led e (b ++ piece))
    × (a ≡ fed_answer r)
FeedsStage (stage.Decoding d) piece (stage.Complete v) a = ⊥
FeedsStage (stage.Decoding d) piece (stage.Refused e) a = ⊥
FeedsStage (stage.Complete v) piece new a = (new ≡ stage.Complete v) × (a ≡ count_answer 0 0)
FeedsStage (stage.Refused e) piece new a = (new ≡ stage.Refused e) × (a ≡ value_answer e)

-- the answer says that there is no session, and nothing changes
abbrev pub IsNone : Option Resource → Option Resource → Answer → Type 0
IsNone old new a = (new ≡ old) × (a ≡ plain 5)

abbrev pub Feeds : Option Resource → List ℕ → Option Resource → Answer → Type 0
Feeds (Some (held.Session s)) piece (Some (held.Session t)) a =
    FeedsStage s.stage piece t.stage a × Keeps s t
Feeds (Some (held.Session s)) piece (Some (held.Registry o)) a = ⊥
Feeds (Some (held.Session s)) piece None a = ⊥
Feeds (Some (held.Registry o)) piece new a = IsNone (Some (held.Registry o)) new a
Feeds None piece new a = IsNone None new a

-- how many bytes a value in progress has taken, and 0 once it has ended
abbrev pub bytes_taken : Stage → ℕ
bytes_taken (stage.Decoding d) = d.taken
bytes_taken _ = 0

-- how many nodes are held, and how many bytes of texts and runs
abbrev pub nodes_held : Stage → ℕ
nodes_held (stage.Decoding d) = node_count d
nodes_held (stage.Complete v) = nodes v.tree
nodes_held (stage.Refused e) = 0

abbrev pub text_bytes_held : Stage → ℕ
text_bytes_held (stage.Decoding d) = text_bytes d
text_bytes_held (stage.Complete v) = tree_text_bytes v.tree
text_bytes_held (stage.Refused e) = 0

-- the count is reported, and nothing changes
abbrev pub ReportsCount : (Stage → ℕ) → Option Resource → Option Resource → Answer → Type 0
ReportsCount count (Some (held.Session s)) new a = (new ≡ Some (held.Session s))
    × (a ≡ count_answer 0 (count s.stage))
ReportsCount count (Some (held.Registry o)) new a = IsNone (Some (held.Registry o)) new a
ReportsCount count None new a = IsNone None new a

-- the end of these bytes: their value, or why there is none, unless an allocation failed
abbrev pub EndsAs : Query → List ℕ → Stage → Type 0
EndsAs j b (stage.Complete v) = FinishesDecoder j b (Ok v)
EndsAs j b (stage.Refused (value.Fault f)) = FinishesDecoder j b (Err f)
EndsAs j b (stage.Refused (value.Memory _)) = Unit {0}
EndsAs j b (stage.Refused _) = ⊥
EndsAs j b (stage.Decoding d) = ⊥

-- a value in progress is ended, and one that has ended stays
abbrev pub Ends : Stage → Stage → Type 0
Ends (stage.Decoding d) new = (b : List ℕ) → Led d b → EndsAs d.query b new
Ends (stage.Complete v) new = new ≡ stage.Complete v
Ends (stage.Refused e) new = new ≡ stage.Refused e

-- the JSON of a complete value is written, unless an allocation failed; or the answer says why
-- there is none
abbrev pub WritesStage : Stage → List ℕ → List ℕ → Answer → Type 0
WritesStage (stage.Decoding d) old new a = Leaves old new (plain 1) a
WritesStage (stage.Complete v) old new a = WritesUnlessMemory (json_text v) old new a
WritesStage (stage.Refused e) old new a = Leaves old new (value_answer e) a

abbrev pub FinishesSession : Option Resource → Option Resource → List ℕ → List ℕ → Answer → Type 0
FinishesSession (Some (held.Session s)) (Some (held.Session t)) old new a = Ends s.stage t.stage
    × Keeps s t × WritesStage t.stage old new a
FinishesSession (Some (held.Session s)) (Some (held.Registry o)) old new a = ⊥
FinishesSession (Some (held.Session s)) None old new a = ⊥
FinishesSession (Some (held.Registry o)) kept old new a = IsNone (Some (held.Registry o)) kept a
    × (new ≡ old)
FinishesSession None kept old new a = IsNone None kept a × (new ≡ old)

-- nothing is behind the handle any more, or a registry, which stays
abbrev pub Frees : Option Resource → Option Resource → ℕ → Type 0
Frees (Some (held.Session s)) new code = (new ≡ None) × (code ≡ 0)
Frees (Some (held.Registry o)) new code = (new ≡ Some (held.Registry o)) × (code ≡ 5)
Frees None new code = (new ≡ None) × (code ≡ 5)

-- What the command writes for its job.
use Rattle.std.specs.Prelude.{◌≡◌, ◌<◌, nat_lt, if◌then◌else◌, ℕ, List, [], ◌∷◌, ◌++◌, ◌||◌}
use Rattle.std.specs.Prelude.{Option, Some, None, Bool, true, false, option_map, option_and_then}
use Rattle.std.specs.Prelude.{IfSome, codes, length, string_bytes, take}
use Rattle.std.specs.Io.KnownBytes.{Appends, Keeps}
use Rattle.std.specs.Str.{bytes_eq}
use Rattle.types_core.specs.declared.type_info.TypeInfo.{TypeInfo}
use Rattle.chain_core.specs.Names.{Entry, find}
use Rattle.scale_calls.specs.Named.{Metadata, all_names, all_types}
use Rattle.scale_calls.specs.Lines.{type_lines, version_line}
use Rattle.scale_calls.specs.Opened.{checked_of, file_version}
use Rattle.scale_calls.specs.declared.registry.OpenOptions.{OpenOptions}
use Rattle.json_core.specs.Json.{json_text}
use Rattle.node_core.specs.Shown.{Seen}
use Rattle.decode_core.specs.Streaming.{query_of}
use Rattle.command_line.specs.declared.task.DecodeJob.{DecodeJob}
use Rattle.command_line.specs.declared.task.Job.{Job}
use Rattle.command_line.specs.declared.task.Job.TheVariants as job
use Rattle.command_line.specs.declared.task.ValueSource.{ValueSource}
use Rattle.command_line.specs.declared.task.ValueSource.TheVariants as source
use Rattle.command_line.specs.declared.task.Wanted.{Wanted}
use Rattle.command_line.specs.declared.task.Wanted.TheVariants as wanted
use Rattle.scale_tool.specs.Metadatas.{IsNamesText, IsOpened, metadata_of}
use Rattle.scale_tool.specs.Values.{StopsFile, file_value, is_gathered}
use Rattle.scale_tool.specs.declared.form.ValueJob.{ValueJob}
use Rattle.scale_tool.specs.declared.text.Text.{Text}
use Rattle.scale_tool.specs.declared.text.Text.TheVariants as text

-- ---- the parts of a job

-- the value's file holds digits
abbrev pub is_hex : ValueSource → Bool
is_hex source.Hex = true
is_hex _ = false

-- how a registry is opened
abbrev pub opened_by : Bool → Bool → OpenOptions
opened_by metadata bits = record { metadata = metadata; bits = bits }

-- how the registry of a value's type is opened
abbrev pub decode_options : DecodeJob → OpenOptions
decode_options d = opened_by d.metadata d.bits

-- the value of a job, of the type at this position
abbrev pub value_job : ℕ → DecodeJob → ValueJob
value_job id d = record {
  id = id;
  limits = d.limits;
  form = record { hex = is_hex d.source; opaque = d.opaque };
}

-- the value of a job, of the type of a name; that of an extrinsic is opaque
abbrev pub named_value : DecodeJob → List ℕ → Entry → ValueJob
named_value d name e = record {
  id = e.id;
  limits = d.limits;
  form = record {
    hex = is_hex d.source;
    opaque = d.opaque || bytes_eq name (codes "extrinsic");
  };
}

-- ---- texts

-- the bytes of a text
abbrev pub text_bytes : Text → List ℕ
text_bytes (text.Plain t) = string_bytes t
text_bytes (text.Budgeted t) = string_bytes t

-- the types, if the position is one of theirs
abbrev pub with_position : ℕ → List TypeInfo → Option (List TypeInfo)
with_position id types = if nat_lt id (length types) then Some types else None

-- the types of a registry's file, checked, if the position is one of theirs
abbrev pub types_with : OpenOptions → ℕ → List ℕ → Option (List TypeInfo)
types_with options id registry = option_and_then (with_position id) (checked_of options registry)

-- a value's line: the text of its JSON and a line feed
abbrev pub line_of : Seen → List ℕ
line_of v = json_text v ++ 10 ∷ []

-- the line of a value's file, if it isn't rejected
abbrev pub line_in : ValueJob → List TypeInfo → List ℕ → Option (List ℕ)
line_in v types file =
    option_map line_of (file_value v.form (query_of types v.id v.limits) file)

-- the line of a value's file, if neither it nor the registry's is rejected
abbrev pub value_line : OpenOptions → ValueJob → List ℕ → List ℕ → Option (List ℕ)
value_line options v registry file =
    option_and_then (λ types. line_in v types file) (types_with options v.id registry)

-- the line of the value of one name, whose bytes `bytes` gives
abbrev pub entry_line : DecodeJob → List ℕ → (Entry → Option (List ℕ)) → List TypeInfo → Entry →
    Option (List ℕ)
entry_line d name bytes types e = option_and_then
    (λ known. option_and_then (line_in (named_value d name e) known) (bytes e))
    (with_position e.id types)

-- the line of the value of the name that is found among these names and types
abbrev pub found_line : DecodeJob → List ℕ → (Entry → Option (List ℕ)) → List TypeInfo →
    List Entry → Option (List ℕ)
found_line d name bytes types names =
    option_and_then (entry_line d name bytes types) (find names name)

-- the same in metadata, if its bytes aren't rejected
abbrev pub named_line : DecodeJob → List ℕ → (Entry → Option (List ℕ)) → List ℕ →
    Option (List ℕ)
named_line d name bytes registry = option_and_then
    (λ x. found_line d name bytes (all_types x) (all_names x)) (metadata_of d.bits registry)

-- the text of a registry's types, if its bytes aren't rejected: the line of the version, if there
-- is one, and a line for each type
abbrev pub types_text : OpenOptions → List ℕ → Option (List ℕ)
types_text options registry =
    option_map (λ types. version_line (file_version options.metadata registry) ++ type_lines types)
    (checked_of options registry)

-- a property of the line of a value, if the bytes that it depends on are known
abbrev pub OnLine : OpenOptions → ValueJob → Option (List ℕ) → Option (List ℕ) →
    (Option (List ℕ) → Type 0) → Type 0
OnLine options v registry file P =
    IfSome registry (λ r. IfSome file (λ f. P (value_line options v r f)))

-- a property of how a name gives the bytes of its value, if they are known: the file holds them,
-- or the metadata has them
abbrev pub OnBytes : ValueSource → Option (List ℕ) → ((Entry → Option (List ℕ)) → Type 0) → Type 0
OnBytes source.Metadata file P = P (λ e. e.bytes)
OnBytes _ file P = IfSome file (λ f. P (λ e. Some f))

-- a property of the line of a name's value, if the bytes that it depends on are known
abbrev pub OnNamed : DecodeJob → List ℕ → Option (List ℕ) → Option (List ℕ) →
    (Option (List ℕ) → Type 0) → Type 0
OnNamed d name registry file P =
    IfSome registry (λ r. OnBytes d.source file (λ bytes. P (named_line d name bytes r)))

-- the same for the type that a job gives
abbrev pub OnWanted : Wanted → DecodeJob → Option (List ℕ) → Option (List ℕ) →
    (Option (List ℕ) → Type 0) → Type 0
OnWanted (wanted.Id id) d registry file P =
    OnLine (decode_options d) (value_job id d) registry file P
OnWanted (wanted.Name name) d registry file P = OnNamed d (string_bytes name) registry file P

-- a property of the job's text, if the bytes that it depends on are known
abbrev pub OnText : Job → Option (List ℕ) → Option (List ℕ) → (Option (List ℕ) → Type 0) → Type 0
OnText (job.Types metadata) registry file P =
    IfSome registry (λ r. P (types_text (opened_by metadata false) r))
OnText job.Names registry file P =
    IfSome registry (λ r. (text : Option (List ℕ)) × IsNamesText r text × P text)
OnText (job.Decode d) registry file P = OnWanted d.wanted d registry file P

-- the complete text was written
abbrev pub WritesAll : Option (List ℕ) → Option (List ℕ) → Option (List ℕ) → Type 0
WritesAll None old new = ⊥
WritesAll (Some text) old new = Appends old new text

-- the first bytes of the text were written; nothing if there is no text
abbrev pub WritesFront : Option (List ℕ) → Option (List ℕ) → Option (List ℕ) → Type 0
WritesFront None old new = Keeps old new
WritesFront (Some text) old new = (n : ℕ) × Appends old new (take n text)

-- ---- what is read

-- the registry's bytes, if they are known, aren't rejected, and the position is one of its types'
abbrev pub HasPosition : OpenOptions → ℕ → Option (List ℕ) → Type 0
HasPosition options id registry =
    IfSome registry (λ r. (types : List TypeInfo) × (types_with options id r ≡ Some types))

-- this is found for the name, and its type is one of these types
abbrev pub HasEntry : List TypeInfo → List Entry → List ℕ → Entry → Type 0
HasEntry types names name e = (find names name ≡ Some e) × (e.id < length types)

-- the metadata's bytes, if they are known, aren't rejected, and it has the name
abbrev pub HasName : Bool → List ℕ → Option (List ℕ) → Type 0
HasName bits name registry = (x : Metadata) × (e : Entry) × IsOpened bits registry x
    × HasEntry (all_types x) (all_names x) name e

-- the same for the type that a job gives
abbrev pub HasWanted : Wanted → OpenOptions → Option (List ℕ) → Type 0
HasWanted (wanted.Id id) options registry = HasPosition options id registry
HasWanted (wanted.Name name) options registry =
    HasName options.bits (string_bytes name) registry

-- the registry's bytes, if they are known, aren't rejected, and the type of the job's value is one
-- of its types
abbrev pub HasJobType : Job → Option (List ℕ) → Type 0
HasJobType (job.Types metadata) registry = ⊥
HasJobType job.Names registry = ⊥
HasJobType (job.Decode d) registry = HasWanted d.wanted (decode_options d) registry

-- reading a value of these types failed
abbrev pub StopsTyped : ValueJob → List TypeInfo → (List ℕ → Type 0) → Option (List ℕ) →
    Option (List ℕ) → Type 0
StopsTyped v types fails known left =
    StopsFile (is_gathered v.form) (query_of types v.id v.limits) fails known left

-- reading a value failed, and the registry isn't rejected and has the value's type
abbrev pub StopsValue : OpenOptions → ValueJob → Option (List ℕ) → (List ℕ → Type 0) →
    Option (List ℕ) → Option (List ℕ) → Type 0
StopsValue options v registry fails known left = (types : List TypeInfo)
    × IfSome registry (λ r. types_with options v.id r ≡ Some types)
    × StopsTyped v types fails known left

-- reading the value of a name failed, which was found among these names and types
abbrev pub StopsFound : DecodeJob → List ℕ → List TypeInfo → List Entry → (List ℕ → Type 0) →
    Option (List ℕ) → Option (List ℕ) → Type 0
StopsFound d name types names fails known left = (e : Entry) × HasEntry types names name e
    × StopsTyped (named_value d name e) types fails known left

-- the same in metadata, whose bytes, if they are known, aren't rejected
abbrev pub StopsNamed : DecodeJob → List ℕ → Option (List ℕ) → (List ℕ → Type 0) →
    Option (List ℕ) → Option (List ℕ) → Type 0
StopsNamed d name registry fails known left = (x : Metadata) × IsOpened d.bits registry x
    × StopsFound d name (all_types x) (all_names x) fails known left

-- the same for the type that a job gives
abbrev pub StopsWanted : Wanted → DecodeJob → Option (List ℕ) → (List ℕ → Type 0) →
    Option (List ℕ) → Option (List ℕ) → Type 0
StopsWanted (wanted.Id id) d registry fails known left =
    StopsValue (decode_options d) (value_job id d) registry fails known left
StopsWanted (wanted.Name name) d registry fails known left =
    StopsNamed d (string_bytes name) registry fails known left

-- a read of the job's value failed
abbrev pub StopsJob : Job → Option (List ℕ) → (List ℕ → Type 0) → Option (List ℕ) →
    Option (List ℕ) → Type 0
StopsJob (job.Types metadata) registry fails known left = ⊥
StopsJob job.Names registry fails known left = ⊥
StopsJob (job.Decode d) registry fails known left =
    StopsWanted d.wanted d registry fails known left

-- the job needs only its registry
abbrev pub ReadsNoValue : Job → Type 0
ReadsNoValue (job.Types metadata) = Unit {0}
ReadsNoValue job.Names = Unit {0}
ReadsNoValue (job.Decode d) = d.source ≡ source.Metadata

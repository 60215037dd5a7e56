-- What the command reports if it writes no text: the line of a refusal, and what that says about
-- the job's files.
use Rattle.std.specs.Prelude.{◌≡◌, ◌≤◌, ◌<◌, ◌⊎◌, ℕ, List, [], ◌∷◌, ◌++◌, length, codes, decimal}
use Rattle.std.specs.Prelude.{Option, Some, None, IfSome, Bool, false, string_bytes}
use Rattle.serde_json.specs.Data.{string}
use Rattle.serde_json.specs.Written.{compact_text}
use Rattle.types_core.specs.declared.type_info.TypeInfo.{TypeInfo}
use Rattle.registry_core.specs.Names.{registry_fault_text}
use Rattle.decode_core.specs.Names as decode
use Rattle.decode_core.specs.Streaming.{query_of}
use Rattle.chain_core.specs.Names.{Entry, find}
use Rattle.scale_calls.specs.Named.{Metadata, RefusesMetadata, all_names, all_types}
use Rattle.scale_calls.specs.Opened.{RefusesRegistry, checked_of}
use Rattle.scale_calls.specs.declared.metadata.MetadataRefusal.{MetadataRefusal}
use Rattle.scale_calls.specs.declared.refusal.RegistryRefusal.TheVariants as types
use Rattle.scale_calls.specs.declared.registry.OpenOptions.{OpenOptions}
use Rattle.hex_text.specs.declared.fault.HexFault.{HexFault}
use Rattle.hex_text.specs.declared.fault.HexFault.TheVariants as hex
use Rattle.command_line.specs.Explained.{device_line}
use Rattle.command_line.specs.declared.device.Device.TheVariants as device
use Rattle.command_line.specs.declared.task.DecodeJob.{DecodeJob}
use Rattle.command_line.specs.declared.task.Job.{Job}
use Rattle.command_line.specs.declared.task.Job.TheVariants as job
use Rattle.command_line.specs.declared.task.ValueSource.{ValueSource}
use Rattle.command_line.specs.declared.task.ValueSource.TheVariants as source
use Rattle.command_line.specs.declared.task.Wanted.{Wanted}
use Rattle.command_line.specs.declared.task.Wanted.TheVariants as wanted
use Rattle.scale_tool.specs.Answer.{decode_options, named_value, opened_by, types_with, value_job}
use Rattle.scale_tool.specs.Metadatas.{IsOpened}
use Rattle.scale_tool.specs.Refused.{refusal_of_metadata, status_of}
use Rattle.scale_tool.specs.Values.{ReportsFile}
use Rattle.scale_tool.specs.declared.form.ValueJob.{ValueJob}
use Rattle.scale_tool.specs.declared.refusal.Refusal.{Refusal}
use Rattle.scale_tool.specs.declared.refusal.Refusal.TheVariants as refusal

-- ---- lines

-- the line of a reason at a place in a part of the job
abbrev pub placed_line : List ℕ → List ℕ → ℕ → List ℕ
placed_line part reason at = codes
    "scaleview: " ++ (part ++ (codes ": " ++ (reason ++ (codes " at " ++ (decimal at ++ 10 ∷ [])))))

-- the line of a fault of hexadecimal digits
abbrev pub hex_line : HexFault → List ℕ
hex_line (hex.Odd at) = placed_line (codes "value") (codes "OddHex") at
hex_line (hex.Bad at) = placed_line (codes "value") (codes "BadHex") at

-- the line that says what is wrong with a name, which stands there as a JSON text
abbrev pub name_line : List ℕ → List ℕ → List ℕ
name_line reason name = codes "scaleview: type: " ++ (reason
    ++ (32 ∷ (compact_text (string name) ++ 10 ∷ [])))

-- the line of a refusal, for a job whose type has this name
abbrev pub refusal_line : List ℕ → Refusal → List ℕ
refusal_line name (refusal.Registry f) =
    codes "scaleview: registry: " ++ (registry_fault_text f ++ 10 ∷ [])
refusal_line name (refusal.TrailingRegistry at) =
    placed_line (codes "registry") (codes "TrailingBytes") at
refusal_line name (refusal.Check unknown) = codes
    "scaleview: check: UnknownType " ++ (decimal
    unknown.to ++ (codes " in type " ++ (decimal unknown.from ++ 10 ∷ [])))
refusal_line name (refusal.Rest f) =
    codes "scaleview: registry: " ++ (decode.fault_text f ++ 10 ∷ [])
refusal_line name (refusal.UnknownReference ty at) = codes
    "scaleview: registry: UnknownReference to type " ++ (decimal
    ty ++ (codes " at " ++ (decimal at ++ 10 ∷ [])))
refusal_line name (refusal.UnknownType id) =
    codes "scaleview: type: UnknownType " ++ decimal id ++ 10 ∷ []
refusal_line name refusal.UnknownName = name_line (codes "UnknownName") name
refusal_line name refusal.NoBytes = name_line (codes "NoBytes") name
refusal_line name (refusal.Hex f) = hex_line f
refusal_line name (refusal.Value f) =
    codes "scaleview: value: " ++ (decode.fault_text f ++ 10 ∷ [])
refusal_line name (refusal.TrailingValue at) =
    placed_line (codes "value") (codes "TrailingBytes") at
refusal_line name refusal.RegistryDevice = device_line device.Registry
refusal_line name refusal.ValueDevice = device_line device.Value
refusal_line name refusal.OutputDevice = device_line device.Output
refusal_line name (refusal.TooLarge _) = codes "scaleview: registry: TooLarge\n"
refusal_line name (refusal.Memory _) = codes "scaleview: memory\n"

-- ---- what a refusal says

-- the place of the refusal is this position, and the registry has no such position
abbrev pub LacksPosition : OpenOptions → ℕ → ℕ → List ℕ → Type 0
LacksPosition options id at registry = (at ≡ id) × ((types : List TypeInfo)
    × (checked_of options registry ≡ Some types) × (length types ≤ id))

-- the file of a value of these types is rejected with this refusal
abbrev pub FaultsTyped : ValueJob → List TypeInfo → Option (List ℕ) → Refusal → Type 0
FaultsTyped v types file e = ReportsFile v.form (query_of types v.id v.limits) file e

-- the registry isn't rejected, and the value's file is, with this refusal
abbrev pub FaultsFile : OpenOptions → ValueJob → Option (List ℕ) → Option (List ℕ) → Refusal →
    Type 0
FaultsFile options v registry file e = (types : List TypeInfo)
    × IfSome registry (λ r. types_with options v.id r ≡ Some types) × FaultsTyped v types file e

-- what a refusal says: about the bytes of a registry that is opened with these options, if they
-- are known; about a type that the registry lacks; and about the value
abbrev pub FaultsBy : OpenOptions → (ℕ → List ℕ → Type 0) → (Refusal → Type 0) →
    Option (List ℕ) → Refusal → Type 0
FaultsBy options Lacks Value r (refusal.Registry f) =
    IfSome r (λ b. RefusesRegistry options b (types.Fault f))
FaultsBy options Lacks Value r (refusal.TrailingRegistry at) =
    IfSome r (λ b. RefusesRegistry options b (types.TrailingBytes at))
FaultsBy options Lacks Value r (refusal.Check unknown) =
    IfSome r (λ b. RefusesRegistry options b (types.Check unknown))
FaultsBy options Lacks Value r (refusal.UnknownType at) = IfSome r (Lacks at)
FaultsBy options Lacks Value r (refusal.Hex f) = Value (refusal.Hex f)
FaultsBy options Lacks Value r (refusal.Value f) = Value (refusal.Value f)
FaultsBy options Lacks Value r (refusal.TrailingValue at) = Value (refusal.TrailingValue at)
FaultsBy options Lacks Value r refusal.RegistryDevice = Unit {0}
FaultsBy options Lacks Value r refusal.ValueDevice = Unit {0}
FaultsBy options Lacks Value r refusal.OutputDevice = ⊥
FaultsBy options Lacks Value r (refusal.TooLarge _) = Unit {0}
FaultsBy options Lacks Value r (refusal.Memory _) = Unit {0}
FaultsBy options Lacks Value r (refusal.Rest f) = ⊥
FaultsBy options Lacks Value r (refusal.UnknownReference ty at) = ⊥
FaultsBy options Lacks Value r refusal.UnknownName = ⊥
FaultsBy options Lacks Value r refusal.NoBytes = ⊥

-- what a refusal says if the registry alone is read
abbrev pub FaultsRegistry : OpenOptions → Option (List ℕ) → Refusal → Type 0
FaultsRegistry options r e = FaultsBy options (λ at b. ⊥) (λ f. ⊥) r e

-- the same if the type at a position is looked for in it
abbrev pub FaultsType : OpenOptions → ℕ → Option (List ℕ) → Refusal → Type 0
FaultsType options id r e = FaultsBy options (LacksPosition options id) (λ f. ⊥) r e

-- the same if a value of that type is read
abbrev pub FaultsLine : OpenOptions → ValueJob → Option (List ℕ) → Option (List ℕ) → Refusal →
    Type 0
FaultsLine options v r file e =
    FaultsBy options (LacksPosition options v.id) (FaultsFile options v r file) r e

-- what a refusal says about metadata's bytes, if they are known: why they are rejected, unless a
-- read or an allocation failed
abbrev pub FaultsMetadata : Bool → Option (List ℕ) → Refusal → Type 0
FaultsMetadata bits r e = (e ≡ refusal.RegistryDevice) ⊎ ((m : MetadataRefusal)
    × (e ≡ refusal_of_metadata m) × IfSome r (λ b. RefusesMetadata bits b m))

-- what it says about the bytes that metadata has for a name: there are none, or they are rejected
abbrev pub FaultsHeld : ValueJob → List TypeInfo → Option (List ℕ) → Refusal → Type 0
FaultsHeld v types None e = e ≡ refusal.NoBytes
FaultsHeld v types (Some b) e = FaultsTyped v types (Some b) e

-- what it says about the bytes of a name's value, which its file holds or the metadata has
abbrev pub FaultsBytes : ValueSource → ValueJob → List TypeInfo → Option (List ℕ) →
    Option (List ℕ) → Refusal → Type 0
FaultsBytes source.Metadata v types held file e = FaultsHeld v types held e
FaultsBytes _ v types held file e = FaultsTyped v types file e

-- what it says about what is found for a name: nothing is, these types lack its type, or its value
-- is rejected
abbrev pub FaultsFound : DecodeJob → List ℕ → List TypeInfo → Option (List ℕ) → Option Entry →
    Refusal → Type 0
FaultsFound d name types file None e = e ≡ refusal.UnknownName
FaultsFound d name types file (Some found) e =
    ((e ≡ refusal.UnknownType found.id) × (length types ≤ found.id)) ⊎ ((found.id < length types)
    × FaultsBytes d.source (named_value d name found) types found.bytes file e)

-- what it says if a value of the type of a name is read: the metadata is rejected, or it isn't, and
-- the name or its value is
abbrev pub FaultsNamed : DecodeJob → List ℕ → Option (List ℕ) → Option (List ℕ) → Refusal → Type 0
FaultsNamed d name r file e = FaultsMetadata d.bits r e ⊎ ((x : Metadata) × IsOpened d.bits r x
    × FaultsFound d name (all_types x) file (find (all_names x) name) e)

-- what a refusal says about a value of the type that a job gives
abbrev pub FaultsWanted : Wanted → DecodeJob → Option (List ℕ) → Option (List ℕ) → Refusal → Type 0
FaultsWanted (wanted.Id id) d registry file e =
    FaultsLine (decode_options d) (value_job id d) registry file e
FaultsWanted (wanted.Name name) d registry file e =
    FaultsNamed d (string_bytes name) registry file e

-- what a refusal says about the bytes of the registry and the value, if these are known
abbrev pub Faults : Job → Option (List ℕ) → Option (List ℕ) → Refusal → Type 0
Faults (job.Types metadata) r v e = FaultsRegistry (opened_by metadata false) r e
Faults job.Names r v e = FaultsMetadata false r e
Faults (job.Decode d) r v e = FaultsWanted d.wanted d r v e

-- the name that a job has for its type, or none
abbrev pub name_in : Wanted → List ℕ
name_in (wanted.Id id) = []
name_in (wanted.Name name) = string_bytes name

abbrev pub job_name : Job → List ℕ
job_name (job.Decode d) = name_in d.wanted
job_name _ = []

-- the device of the refusal failed, or the refusal says this about the files
abbrev pub Stands : Type 0 → Type 0 → Type 0 → (Refusal → Type 0) → Refusal → Type 0
Stands registry value out Says refusal.RegistryDevice = registry
Stands registry value out Says refusal.ValueDevice = value
Stands registry value out Says refusal.OutputDevice = out
Stands registry value out Says e = Says e

-- the status is that of a refusal for which this holds, and whose line was sent, for a job whose
-- type has this name
abbrev pub Reports : List ℕ → (Refusal → Type 0) → (List ℕ → Type 0) → ℕ → Type 0
Reports name Holds Sent status =
    (e : Refusal) × (status ≡ status_of e) × Holds e × Sent (refusal_line name e)

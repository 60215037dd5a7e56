-- What a refusal says of the job's files, from what the calls that refuse say.
use Rattle.std.proofs.Common.{◌≡◌, ◌++◌, ◌∙◌, ap, ℕ, List, [], Option, Some, None, subst}
use Rattle.std.proofs.Common.{inl, inr, refl}
use Rattle.std.specs.Prelude.{Bool, IfSome, false, ◌⊎◌}
use Rattle.growth_core.specs.Evidence.{evidence}
use Rattle.growth_core.specs.declared.refused.Refused.{Refused}
use Rattle.scale_calls.specs.declared.registry.OpenOptions.{OpenOptions}
use Rattle.scale_calls.specs.Opened.{RefusesRegistry}
use Rattle.scale_calls.specs.declared.metadata.MetadataRefusal.TheVariants as metadata
use Rattle.scale_calls.specs.declared.refusal.RegistryRefusal.{RegistryRefusal}
use Rattle.scale_calls.specs.declared.refusal.RegistryRefusal.TheVariants as types
use Rattle.scale_tool.specs.Refused.{IsRejected, refusal_of_registry, status_of}
use Rattle.command_line.specs.declared.task.Job.{Job}
use Rattle.command_line.specs.declared.task.Job.TheVariants as job
use Rattle.command_line.specs.declared.task.DecodeJob.{DecodeJob}
use Rattle.command_line.specs.declared.task.Wanted.{Wanted}
use Rattle.command_line.specs.declared.task.Wanted.TheVariants as wanted
use Rattle.scale_tool.specs.Reported.{Faults, FaultsBy, FaultsMetadata, FaultsRegistry}
use Rattle.scale_tool.specs.Reported.{FaultsWanted, Reports, Stands, refusal_line}
use Rattle.scale_tool.specs.declared.refusal.Refusal.{Refusal}
use Rattle.scale_tool.specs.declared.refusal.Refusal.TheVariants as refusal
use Rattle.scale_tool.proofs.FileValues.{where_known}

-- what a refusal says of a registry, a type and a value, it says of what more is said of these
pub faults_more : (options : OpenOptions) (L M : ℕ → List ℕ → Type 0) (V W : Refusal → Type 0)
    (r : Option (List ℕ)) (e : Refusal) → ((at : ℕ) (b : List ℕ) → L at b → M at b) →
    ((f : Refusal) → V f → W f) → FaultsBy options L V r e → FaultsBy options M W r e
faults_more options L M V W r (refusal.Registry f) l v h = h
faults_more options L M V W r (refusal.TrailingRegistry at) l v h = h
faults_more options L M V W r (refusal.Check unknown) l v h = h
faults_more options L M V W r (refusal.UnknownType at) l v h =
    where_known r (L at) (M at) (l at) h
faults_more options L M V W r (refusal.Hex f) l v h = v (refusal.Hex f) h
faults_more options L M V W r (refusal.Value f) l v h = v (refusal.Value f) h
faults_more options L M V W r (refusal.TrailingValue at) l v h = v (refusal.TrailingValue at) h
faults_more options L M V W r refusal.RegistryDevice l v h = tt
faults_more options L M V W r refusal.ValueDevice l v h = tt
faults_more options L M V W r refusal.OutputDevice l v h = h
faults_more options L M V W r (refusal.TooLarge _) l v h = tt
faults_more options L M V W r (refusal.Memory _) l v h = tt
faults_more options L M V W r (refusal.Rest f) l v h = elim h [ ]
faults_more options L M V W r (refusal.UnknownReference ty at) l v h = elim h [ ]
faults_more options L M V W r refusal.UnknownName l v h = elim h [ ]
faults_more options L M V W r refusal.NoBytes l v h = elim h [ ]

-- a refusal of a registry's bytes says this of it
pub registry_faults : (known : Option (List ℕ)) (options : OpenOptions) (e : RegistryRefusal) →
    IfSome known (λ b. RefusesRegistry options b e) →
    FaultsRegistry options known (refusal_of_registry e)
registry_faults known options (types.Fault f) h = h
registry_faults known options (types.TrailingBytes at) h = h
registry_faults known options (types.Check unknown) h = h
registry_faults known options (types.TooLarge _) h = tt
registry_faults known options (types.Memory _) h = tt

-- bytes that are refused are those of the file that they were gathered from
pub gathered_refused : (known : Option (List ℕ)) (options : OpenOptions) (old new text : List ℕ)
    (e : RegistryRefusal) → old ≡ [] → IfSome known (λ b. new ≡ old ++ b) → text ≡ new →
    RefusesRegistry options text e → IfSome known (λ b. RefusesRegistry options b e)
gathered_refused None options old new text e none all same h = tt
gathered_refused (Some b) options old new text e none all same h =
    subst (λ (t : List ℕ). RefusesRegistry options t e)
    (same ∙ all ∙ ap (λ (x : List ℕ). x ++ b) none) h

-- where a refusal is answered and reported, or an allocation failure for its line, one is
pub reports_refused : (name : List ℕ) (Holds : Refusal → Type 0) (Sent : List ℕ → Type 0)
    (e : Refusal) (status : ℕ) → Holds e → Holds (refusal.Memory evidence) →
    ((status ≡ status_of e) × Sent (refusal_line name e))
    ⊎ (IsRejected e × (status ≡ 4) × Sent (refusal_line name (refusal.Memory evidence))) →
    Reports name Holds Sent status
reports_refused name Holds Sent e status h memory (inl own) = (e, own.0, h, own.1)
reports_refused name Holds Sent e status h memory (inr none) =
    (refusal.Memory evidence, none.1, memory, none.2)

-- what a refusal says of the files, where it is not that of the output
says : (Says : Refusal → Type 0) (e : Refusal) → (e ≡ refusal.OutputDevice → ⊥) →
    (e ≡ refusal.OutputDevice) ⊎ Says e → Says e
says Says e other (inl is) = absurd (other is)
says Says e other (inr h) = h

-- a refusal stands where its device has failed, or it says something of the files
pub stands : (registry value out : Type 0) (Says : Refusal → Type 0) (e : Refusal) →
    (e ≡ refusal.RegistryDevice → registry) → (e ≡ refusal.ValueDevice → value) →
    (e ≡ refusal.OutputDevice → out) → (e ≡ refusal.OutputDevice) ⊎ Says e →
    Stands registry value out Says e
stands registry value out Says refusal.RegistryDevice r v o h = r refl
stands registry value out Says refusal.ValueDevice r v o h = v refl
stands registry value out Says refusal.OutputDevice r v o h = o refl
stands registry value out Says e r v o h = says Says e (λ is. cc) h

-- a failed allocation says nothing of metadata's bytes
pub metadata_memory : (refused : Refused) (bits : Bool) (r : Option (List ℕ)) →
    FaultsMetadata bits r (refusal.Memory refused)
metadata_memory refused bits None = inr (metadata.Memory refused, refl, tt)
metadata_memory refused bits (Some b) = inr (metadata.Memory refused, refl, tt)

-- a failed allocation says nothing of the files
wanted_memory : (w : Wanted) (d : DecodeJob) (r v : Option (List ℕ)) →
    FaultsWanted w d r v (refusal.Memory evidence)
wanted_memory (wanted.Id id) d r v = tt
wanted_memory (wanted.Name name) d r v = inl (metadata_memory evidence d.bits r)

-- a failed allocation says nothing of the files of any job
pub faults_memory : (j : Job) (r v : Option (List ℕ)) → Faults j r v (refusal.Memory evidence)
faults_memory (job.Types metadata) r v = tt
faults_memory job.Names r v = metadata_memory evidence false r
faults_memory (job.Decode d) r v = wanted_memory d.wanted d r v

-- Metadata that is opened is what its bytes are; bytes that are rejected are none.
use Rattle.std.proofs.Common.{◌≡◌, ℕ, List, Bool, Option, Some, None, Ok}
use Rattle.std.proofs.Common.{refl, sym, ap, ◌∙◌, subst, inl, inr}
use Rattle.std.specs.Prelude.{◌⊎◌, option_and_then}
use Rattle.scale_core.specs.Read.{place}
use Rattle.types_core.specs.declared.type_info.TypeInfo.{TypeInfo}
use Rattle.registry_core.specs.Answers.{FaultAnswers, out_of_memory}
use Rattle.registry_core.specs.Reading.{metadata_at}
use Rattle.registry_core.specs.declared.fault.RegistryFault.{RegistryFault}
use Rattle.registry_core.specs.declared.version.Version.{Version}
use Rattle.graph_core.specs.References.{first_fault}
use Rattle.node_core.specs.Shown.{Seen}
use Rattle.scale_calls.specs.Named.{IsKnown, IsMetadata, Metadata, RefusesMetadata}
use Rattle.scale_calls.specs.Named.{RefusesReferences, RefusesRest, all_types, rest_in}
use Rattle.scale_calls.specs.Opened.{types_by}
use Rattle.scale_calls.specs.declared.metadata.MetadataRefusal.{MetadataRefusal}
use Rattle.scale_calls.specs.declared.metadata.MetadataRefusal.TheVariants as metadata
use Rattle.scale_tool.specs.Metadatas.{checked_metadata, metadata_from, metadata_of, unless}
use Rattle.scale_tool.specs.Refused.{IsRejected, refusal_of_metadata, refusal_of_reason, status_of}

-- without a fault it is the second
unless_none : {A B : Type 0} (o : Option A) (x : Option B) → o ≡ None → unless o x ≡ x
unless_none None x is = refl
unless_none (Some f) x is = absurd cc

-- with a fault it is none
unless_some : {A B : Type 0} (o : Option A) (x : Option B) (f : A) → o ≡ Some f →
    unless o x ≡ None
unless_some None x f is = absurd cc
unless_some (Some g) x f is = refl

-- ---- metadata

-- metadata whose references all are positions is checked
known_is : (m : Metadata) → IsKnown m → checked_metadata m ≡ Some m
known_is m h = unless_none _ _ h.rest ∙ unless_none _ _ h.own ∙ unless_none _ _ h.all

-- what is read of metadata's registry and of what follows it
read_is : (bits : Bool) (b left : List ℕ) (types : List TypeInfo) (v : Version)
    (rest : Option Seen) → metadata_at b ≡ Ok ((types, v), left) → rest_in v left ≡ rest →
    metadata_of bits b ≡ option_and_then
    (λ r. checked_metadata (record { version = v; own = types_by bits types; rest = r })) rest
unfolding metadata_of
read_is bits b left types v rest read is = ap (metadata_from bits) read ∙ ap (option_and_then
    (λ r. checked_metadata (record { version = v; own = types_by bits types; rest = r }))) is

-- bytes that are this metadata give it
pub metadata_is : (bits : Bool) (b : List ℕ) (x : Metadata) → IsMetadata bits b x →
    metadata_of bits b ≡ Some x
metadata_is bits b x h = read_is bits b h.left h.types x.version (Some x.rest) h.read h.rest
    ∙ ap (λ (own : List TypeInfo). checked_metadata
    (record { version = x.version; own = own; rest = x.rest })) (sym h.own)
    ∙ known_is x h.known

-- ---- bytes that are rejected

-- a reference of the types is no position
types_none : (m : Metadata) (fault : ℕ × ℕ) → (first_fault m.own ≡ Some fault)
    ⊎ ((first_fault m.own ≡ None) × (first_fault (all_types m) ≡ Some fault)) →
    unless (first_fault m.own) (unless (first_fault (all_types m)) (Some m)) ≡ None
types_none m fault (inl own) = unless_some _ _ fault own
types_none m fault (inr h) = unless_none _ _ h.0 ∙ unless_some _ _ fault h.1

-- a reference is no position, so there is no metadata
references_none : (m : Metadata) (end : ℕ) (r : MetadataRefusal) → RefusesReferences m end r →
    IsRejected (refusal_of_metadata r) → checked_metadata m ≡ None
references_none m end (metadata.UnknownReference ty at) h one = unless_some _ _ (ty, h.0) h.1
references_none m end (metadata.Check unknown) h one =
    unless_none _ _ h.0 ∙ types_none m (unknown.from, unknown.to) h.1
references_none m end (metadata.TooLarge _) h one = absurd cc
references_none m end (metadata.Memory _) h one = absurd cc
references_none m end _ h one = absurd h

-- what follows the registry is rejected, so it has no value
rest_none : (v : Version) (left : List ℕ) (end : ℕ) (r : MetadataRefusal) →
    RefusesRest v left end r → IsRejected (refusal_of_metadata r) → rest_in v left ≡ None
rest_none v left end (metadata.Rest f) h one = h.0
rest_none v left end (metadata.TrailingBytes at) h one = h.0
rest_none v left end (metadata.TooLarge _) h one = absurd cc
rest_none v left end (metadata.Memory _) h one = absurd cc
rest_none v left end _ h one = absurd h

-- bytes whose registry is read
after_none : (bits : Bool) (b left : List ℕ) (types : List TypeInfo) (v : Version)
    (r : MetadataRefusal) → metadata_at b ≡ Ok ((types, v), left) →
    RefusesRest v left (place b left) r ⊎ ((rest : Seen) × (rest_in v left ≡ Some rest)
    × RefusesReferences (record { version = v; own = types_by bits types; rest = rest })
    (place b left) r) → IsRejected (refusal_of_metadata r) → metadata_of bits b ≡ None
after_none bits b left types v r read (inl h) one =
    read_is bits b left types v None read (rest_none v left (place b left) r h one)
after_none bits b left types v r read (inr h) one =
    read_is bits b left types v (Some h.0) read h.1
    ∙ references_none (record { version = v; own = types_by bits types; rest = h.0 })
    (place b left) r h.2 one

-- an allocation failure isn't rejected
memory_none : (f : RegistryFault) → f ≡ out_of_memory → IsRejected (refusal_of_reason f.reason f) →
    ⊥
memory_none f is one =
    let four : ◌≡◌ {A = ℕ} 4 1 =
    subst (λ (g : RegistryFault). status_of (refusal_of_reason g.reason g) ≡ 1) is one in cc

-- bytes whose registry isn't read
fault_none : (bits : Bool) (b : List ℕ) (f : RegistryFault) → FaultAnswers b f (metadata_at b) →
    IsRejected (refusal_of_reason f.reason f) → metadata_of bits b ≡ None
unfolding metadata_of
fault_none bits b f (inl memory) one = absurd (memory_none f memory one)
fault_none bits b f (inr h) one = ap (metadata_from bits) h.1

-- bytes that are rejected with status 1 are no metadata
pub metadata_none : (bits : Bool) (b : List ℕ) (r : MetadataRefusal) → RefusesMetadata bits b r →
    IsRejected (refusal_of_metadata r) → metadata_of bits b ≡ None
metadata_none bits b (metadata.TooLarge _) h one = absurd cc
metadata_none bits b (metadata.Memory _) h one = absurd cc
metadata_none bits b (metadata.Registry f) h one = fault_none bits b f h one
metadata_none bits b r h one = after_none bits b h.2 h.0 h.1 r h.3 h.4 one

-- What is found among the names of metadata, from what the calls below say of it.
use Rattle.std.proofs.Common.{◌≡◌, ℕ, List, Option, Some, None, sym, ap, ◌∙◌}
use Rattle.std.proofs.Common.{inr, subst, true, length, ◌<◌}
use Rattle.std.specs.Prelude.{IfSome, SomeIff, false, is_some, option_and_then}
use Rattle.types_core.specs.declared.type_info.TypeInfo.{TypeInfo}
use Rattle.chain_core.specs.Names.{Entry, find}
use Rattle.scale_calls.specs.NameLines.{AreLines}
use Rattle.scale_calls.specs.Named.{IsMetadata, Metadata, all_names, all_types}
use Rattle.command_line.specs.declared.task.DecodeJob.{DecodeJob}
use Rattle.command_line.specs.declared.task.ValueSource.{ValueSource}
use Rattle.command_line.specs.declared.task.ValueSource.TheVariants as source
use Rattle.scale_tool.specs.Answer.{HasEntry, OnBytes, OnNamed, found_line, named_line}
use Rattle.scale_tool.specs.Metadatas.{IsNamesText, IsOpened, metadata_of}
use Rattle.scale_tool.specs.Reported.{FaultsFound, FaultsNamed}
use Rattle.scale_tool.specs.declared.refusal.Refusal.{Refusal}
use Rattle.scale_tool.proofs.FileValues.{where_known}
use Rattle.scale_tool.proofs.Metadatas.{metadata_is}

-- a property of bytes that may be known gives another
bytes_more : (s : ValueSource) (file : Option (List ℕ))
    (P Q : (Entry → Option (List ℕ)) → Type 0) → ((bytes : Entry → Option (List ℕ)) → P bytes →
    Q bytes) → OnBytes s file P → OnBytes s file Q
bytes_more source.Metadata file P Q f h = f (λ e. e.bytes) h
bytes_more source.Raw file P Q f h = where_known file _ _ (λ b x. f (λ e. Some b) x) h
bytes_more source.Hex file P Q f h = where_known file _ _ (λ b x. f (λ e. Some b) x) h

-- it is known of all bytes
bytes_all : (s : ValueSource) (file : Option (List ℕ))
    (P : (Entry → Option (List ℕ)) → Type 0) → ((bytes : Entry → Option (List ℕ)) → P bytes) →
    OnBytes s file P
bytes_all source.Metadata file P f = f (λ e. e.bytes)
bytes_all source.Raw None P f = tt
bytes_all source.Raw (Some b) P f = f (λ e. Some b)
bytes_all source.Hex None P f = tt
bytes_all source.Hex (Some b) P f = f (λ e. Some b)

-- bytes that are no metadata give no line
pub named_none : (d : DecodeJob) (name : List ℕ) (registry file : Option (List ℕ)) →
    IfSome registry (λ r. metadata_of d.bits r ≡ None) →
    OnNamed d name registry file (λ t. t ≡ None)
named_none d name registry file h = where_known registry (λ r. metadata_of d.bits r ≡ None)
    (λ r. OnBytes d.source file (λ bytes. named_line d name bytes r ≡ None))
    (λ r none. bytes_all d.source file (λ bytes. named_line d name bytes r ≡ None) (λ bytes.
    ap (option_and_then (λ (x : Metadata). found_line d name bytes (all_types x) (all_names x)))
    none)) h

-- the line that metadata's types and names give is that of its bytes
line_is : (d : DecodeJob) (name r : List ℕ) (bytes : Entry → Option (List ℕ))
    (types : List TypeInfo) (names : List Entry) (x : Metadata) (t : Option (List ℕ)) →
    IsMetadata d.bits r x → types ≡ all_types x → names ≡ all_names x →
    found_line d name bytes types names ≡ t → named_line d name bytes r ≡ t
line_is d name r bytes types names x t is all_types_are all_names_are h =
    ap (option_and_then (λ (y : Metadata). found_line d name bytes (all_types y) (all_names y)))
    (metadata_is d.bits r x is)
    ∙ ap (λ (ts : List TypeInfo). found_line d name bytes ts (all_names x)) (sym all_types_are)
    ∙ ap (λ (ns : List Entry). found_line d name bytes types ns) (sym all_names_are) ∙ h

-- so it is that of bytes that may be known
pub named_found : (d : DecodeJob) (name : List ℕ) (registry file : Option (List ℕ))
    (types : List TypeInfo) (names : List Entry) (x : Metadata) (t : Option (List ℕ)) →
    IsOpened d.bits registry x → types ≡ all_types x → names ≡ all_names x →
    OnBytes d.source file (λ bytes. found_line d name bytes types names ≡ t) →
    OnNamed d name registry file (λ u. u ≡ t)
named_found d name registry file types names x t opened all_types_are all_names_are h =
    where_known registry (λ r. IsMetadata d.bits r x)
    (λ r. OnBytes d.source file (λ bytes. named_line d name bytes r ≡ t))
    (λ r is. bytes_more d.source file (λ bytes. found_line d name bytes types names ≡ t)
    (λ bytes. named_line d name bytes r ≡ t)
    (λ bytes e. line_is d name r bytes types names x t is all_types_are all_names_are e) h) opened

-- what a refusal says of metadata's types and names it says of its bytes
pub named_faults : (d : DecodeJob) (name : List ℕ) (registry file : Option (List ℕ))
    (types : List TypeInfo) (names : List Entry) (x : Metadata) (e : Refusal) →
    IsOpened d.bits registry x → types ≡ all_types x → names ≡ all_names x →
    FaultsFound d name types file (find names name) e → FaultsNamed d name registry file e
named_faults d name registry file types names x e opened all_types_are all_names_are h =
    inr (
      x,
      opened,
      subst (λ (ns : List Entry). FaultsFound d name (all_types x) file
          (find ns name) e) all_names_are (subst (λ (ts : List TypeInfo). FaultsFound d name ts file
          (find names name) e) all_types_are h),
    )

-- lines of metadata's names are a text of its bytes
pub names_shown : (registry : Option (List ℕ)) (x : Metadata) (names : List Entry)
    (text : List ℕ) → IsOpened false registry x → names ≡ all_names x → AreLines names text →
    IfSome registry (λ r. IsNamesText r (Some text))
names_shown registry x names text opened same lines = where_known registry _ _
    (λ r is. (x, is, subst (λ (ns : List Entry). AreLines ns text) same lines)) opened

-- an entry that is found has the name, and its type is there if it has a class
pub entry_had : {X : Type 0} (types : List TypeInfo) (names : List Entry) (name text : List ℕ)
    (e : Entry) (id : ℕ) (class : Option X) (value : X) → Some e ≡ find names text →
    text ≡ name → id ≡ e.id → SomeIff class (id < length types) value → is_some class ≡ true →
    HasEntry types names name e
entry_had types names name text e id None value is same own h some = absurd cc
entry_had types names name text e id (Some x) value is same own h some = (
  sym (is ∙ ap (find names) same),
  subst (λ (n : ℕ). n < length types) own h.0,
)

-- Why metadata is refused, by its rest and by its references.
use Rattle.std.proofs.Common.{◌≡◌, ℕ, ◌≤◌, List, length, drop, Ok, subst, inl, inr}
use Rattle.std.proofs.Common.{arith}
use Rattle.std.proofs.lemmas.List.{length-drop}
use Rattle.std.specs.Prelude.{Bool, Some}
use Rattle.scale_core.specs.Read.{place}
use Rattle.types_core.specs.declared.type_info.TypeInfo.{TypeInfo}
use Rattle.registry_core.specs.Reading.{metadata_at}
use Rattle.registry_core.specs.declared.version.Version.{Version}
use Rattle.node_core.specs.Shown.{Seen}
use Rattle.scale_calls.specs.Named.{RefusesMetadata, RefusesReferences, RefusesRest, rest_in}
use Rattle.scale_calls.specs.Opened.{types_by}
use Rattle.scale_calls.specs.declared.metadata.MetadataRefusal.{MetadataRefusal}
use Rattle.scale_calls.specs.declared.metadata.MetadataRefusal.TheVariants as refusal

-- what is left after the first bytes begins where these end
pub ends_there : (bytes : List ℕ) (end : ℕ) → end ≤ length bytes →
    end ≡ place bytes (drop end bytes)
ends_there bytes end within = omega (arith, within, length-drop end bytes)

-- what follows the registry is refused
pub by_rest : (bits : Bool) (bytes left : List ℕ) (types : List TypeInfo) (v : Version) (end : ℕ)
    (r : MetadataRefusal) → metadata_at bytes ≡ Ok ((types, v), left) → end ≡ place bytes left →
    RefusesRest v left end r → RefusesMetadata bits bytes r
by_rest bits bytes left types v end (refusal.Memory _) read ends h = tt
by_rest bits bytes left types v end (refusal.TooLarge _) read ends h = tt
by_rest bits bytes left types v end (refusal.Registry f) read ends h = absurd h
by_rest bits bytes left types v end r read ends h =
    (types, v, left, read, inl (subst (λ n. RefusesRest v left n r) ends h))

-- a reference is refused
pub by_reference : (bits : Bool) (bytes left : List ℕ) (types : List TypeInfo) (v : Version)
    (end : ℕ) (rest : Seen) (r : MetadataRefusal) → metadata_at bytes ≡ Ok ((types, v), left) →
    end ≡ place bytes left → rest_in v left ≡ Some rest →
    RefusesReferences (record { version = v; own = types_by bits types; rest = rest }) end r →
    RefusesMetadata bits bytes r
by_reference bits bytes left types v end rest (refusal.Memory _) read ends is h = tt
by_reference bits bytes left types v end rest (refusal.TooLarge _) read ends is h = tt
by_reference bits bytes left types v end rest (refusal.Registry f) read ends is h = absurd h
by_reference bits bytes left types v end rest r read ends is h = (
  types,
  v,
  left,
  read,
  inr (
    rest,
    is,
    subst (λ n. RefusesReferences
        (record { version = v; own = types_by bits types; rest = rest }) n r) ends h,
  ),
)

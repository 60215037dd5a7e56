-- Reading parts one after the other, as a loop does.
use Rattle.std.proofs.Common.{◌≡◌, ℕ, suc, ◌-◌, ◌+◌, ◌<◌, List, [], ◌∷◌, ◌++◌, Ok, Err, refl}
use Rattle.std.proofs.Common.{sym, ap, ◌∙◌, append_assoc, arith}
use Rattle.scale_core.specs.Read.{Read, ◌>>=◌}
use Rattle.registry_core.specs.declared.fault.RegistryReason.{RegistryReason}
use Rattle.registry_core.specs.declared.reading.read_stop.ReadStop.{ReadStop}
use Rattle.registry_core.specs.declared.reading.read_stop.ReadStop.TheVariants.{Memory, Fault}
use Rattle.types_core.specs.declared.type_info.TypeInfo.{TypeInfo}
use Rattle.registry_core.specs.Gives.{StopsReading}
use Rattle.registry_core.specs.Reading.{Reader, repeated, id_at, type_info_at, types_at}

-- where the first part stops, both parts stop
pub stops_then : {X Y : Type 0} (stop : ReadStop) (first : Read RegistryReason X)
    (then : X × List ℕ → Read RegistryReason Y) → StopsReading stop first →
    StopsReading stop (first >>= then)
stops_then (Memory _) first then h = tt
stops_then (Fault reason left) first then h = rw h refl

-- what was read before, and what is still read
abbrev pub with_front : {X : Type 0} → List X → Read RegistryReason (List X) →
    Read RegistryReason (List X)
with_front front read = read >>= λ x. Ok (front ++ x.0, x.1)

-- an element that is read goes to those before it, or before those after it
regroup : {X : Type 0} (front : List X) (x : X) (read : Read RegistryReason (List X)) →
    with_front front (read >>= λ others. Ok (x ∷ others.0, others.1)) ≡ with_front (front ++ x ∷ [])
    read
regroup front x (Ok others) = ap (λ (xs : List _). Ok (xs, others.1)) (simp append_assoc)
regroup front x (Err e) = refl

-- a turn that reads a part leaves the same list in all, with one part fewer to read
pub goes_on : {X : Type 0} (part : Reader X) (front : List X) (count i : ℕ) (bytes : List ℕ) (x : X)
    (after : List ℕ) (total : Read RegistryReason (List X)) → i < count → part bytes ≡ Ok (x, after)
    → with_front front (repeated (count - i) part bytes) ≡ total →
    with_front (front ++ x ∷ []) (repeated (count - (i + 1)) part after) ≡ total
goes_on part front count i bytes x after total lt h so_far =
    let k : count - i ≡ suc (count - (i + 1)) = omega arith in
    let one : with_front front (repeated (count - i) part bytes) ≡ with_front (front ++ x ∷ [])
    (repeated (count - (i + 1)) part after) =
    rw (k, h) (regroup front x (repeated (count - (i + 1)) part after)) in
    sym one ∙ so_far

-- where a turn's part stops the reading, so stops the list
pub ends : {X : Type 0} (part : Reader X) (stop : ReadStop) (front : List X) (count i : ℕ)
    (bytes : List ℕ) (total : Read RegistryReason (List X)) → i < count →
    StopsReading stop (part bytes)
    → with_front front (repeated (count - i) part bytes) ≡ total → StopsReading stop total
ends part (Memory _) front count i bytes total lt h so_far = tt
ends part (Fault reason left) front count i bytes total lt h so_far =
    let k : count - i ≡ suc (count - (i + 1)) = omega arith in
    let one : with_front front (repeated (count - i) part bytes) ≡ Err (reason, left.now) =
    rw (k, h) refl in
    sym so_far ∙ one

-- ---- types, each after its position

-- a turn that reads a position and its type leaves the same list, with one type fewer to read
pub type_goes_on : (front : List TypeInfo) (count i : ℕ) (bytes behind : List ℕ) (x : TypeInfo)
    (after : List ℕ) (total : Read RegistryReason (List TypeInfo)) → i < count
    → id_at i bytes ≡ Ok (i, behind) → type_info_at behind ≡ Ok (x, after)
    → with_front front (types_at (count - i) i bytes) ≡ total →
    with_front (front ++ x ∷ []) (types_at (count - (i + 1)) (i + 1) after) ≡ total
type_goes_on front count i bytes behind x after total lt at h so_far =
    let k : count - i ≡ suc (count - (i + 1)) = omega arith in
    let one : with_front front (types_at (count - i) i bytes) ≡ with_front (front ++ x ∷ [])
    (types_at (count - (i + 1)) (i + 1) after) =
    rw (k, at, h) (regroup front x (types_at (count - (i + 1)) (i + 1) after)) in
    sym one ∙ so_far

-- where a type's position stops the reading, so stops the list
pub id_ends : (stop : ReadStop) (front : List TypeInfo) (count i : ℕ) (bytes : List ℕ)
    (total : Read RegistryReason (List TypeInfo)) → i < count → StopsReading stop (id_at i bytes)
    → with_front front (types_at (count - i) i bytes) ≡ total → StopsReading stop total
id_ends (Memory _) front count i bytes total lt h so_far = tt
id_ends (Fault reason left) front count i bytes total lt h so_far =
    let k : count - i ≡ suc (count - (i + 1)) = omega arith in
    let one : with_front front (types_at (count - i) i bytes) ≡ Err (reason, left.now) =
    rw (k, h) refl in
    sym so_far ∙ one

-- where a type after its position stops the reading, so stops the list
pub type_ends : (stop : ReadStop) (front : List TypeInfo) (count i : ℕ) (bytes behind : List ℕ)
    (total : Read RegistryReason (List TypeInfo)) → i < count
    → id_at i bytes ≡ Ok (i, behind) → StopsReading stop (type_info_at behind)
    → with_front front (types_at (count - i) i bytes) ≡ total → StopsReading stop total
type_ends (Memory _) front count i bytes behind total lt at h so_far = tt
type_ends (Fault reason left) front count i bytes behind total lt at h so_far =
    let k : count - i ≡ suc (count - (i + 1)) = omega arith in
    let one : with_front front (types_at (count - i) i bytes) ≡ Err (reason, left.now) =
    rw (k, at, h) refl in
    sym so_far ∙ one

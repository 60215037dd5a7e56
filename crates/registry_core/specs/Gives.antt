-- How the result of a part's reader agrees with the reading, unless an allocation failed.
use Rattle.std.specs.Prelude.{◌≡◌, ◌≤◌, ◌-◌, List, ℕ, length, Result, Ok, Err}
use Rattle.scale_core.specs.Read.{Read}
use Rattle.registry_core.specs.declared.fault.RegistryFault.{RegistryFault}
use Rattle.registry_core.specs.declared.fault.RegistryReason.{RegistryReason}
use Rattle.registry_core.specs.declared.reading.read_stop.ReadStop.{ReadStop}
use Rattle.registry_core.specs.declared.reading.read_stop.ReadStop.TheVariants.{Memory, Fault}
use Rattle.registry_core.specs.Answers.{out_of_memory}

-- the fault that the reading gives, unless an allocation failed
abbrev pub StopsReading : {Y : Type 0} → ReadStop → Read RegistryReason Y → Type 0
StopsReading (Memory _) read = Unit {0}
StopsReading (Fault reason left) read = read ≡ Err (reason, left.now)

abbrev pub Gives : {X Y : Type 0} → (X → Y × List ℕ) → Result X ReadStop → Read RegistryReason Y →
    Type 0
Gives view (Ok x) read = read ≡ Ok (view x)
Gives view (Err stop) read = StopsReading stop read

-- this fault, with these bytes from its place on
abbrev pub IsFaultAt : RegistryReason → List ℕ → ReadStop → Type 0
IsFaultAt reason left (Memory _) = ⊥
IsFaultAt reason left (Fault why from) = (why ≡ reason) × (from.now ≡ left)

-- a fault leaves no more bytes than there were
abbrev pub IsWithin : List ℕ → ReadStop → Type 0
IsWithin bytes (Memory _) = Unit {0}
IsWithin bytes (Fault reason left) = length left.now ≤ length bytes

-- the fault, with its place in an input of this length
abbrev pub fault_of : ℕ → ReadStop → RegistryFault
fault_of len (Memory _) = out_of_memory
fault_of len (Fault reason left) = record { reason = reason; at = len - length left.now }

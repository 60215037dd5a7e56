-- A device as its caller sees it.
use Rattle.std.specs.Prelude.{◌≡◌, ◌<◌, ℕ, List, Bool, Option, Some, None, Result, Ok, Err, length}
use Rattle.std.specs.Prelude.{take}
use Rattle.std.specs.Io.KnownBytes.{Appends, Consumes, IsAtEnd, Keeps}
use Rattle.scale_core.specs.declared.sink.SinkFault.{SinkFault}
use Rattle.scale_core.specs.declared.sink.SinkFault.TheVariants.{Device, WroteNothing}

-- the reader or writer itself, and whether a call on it has failed
pub record Watched (D : Type 0) : Type 0 where
  pub device : D
  pub failed : Bool

-- what a read that returned n bytes did to the known bytes: n is 0 only at the end or if the part
-- is empty; a failed read consumed nothing
abbrev pub GivesBytes : Option (List ℕ) → Option (List ℕ) → Option ℕ → List ℕ → Type 0
GivesBytes old new (Some n) part = Consumes old new (take n part)
    × (n ≡ 0 → 0 < length part → IsAtEnd new)
GivesBytes old new None part = Keeps old new

-- what a write that took n bytes of the part did to the known bytes; a failed write took none
abbrev pub TakesBytes : Option (List ℕ) → Option (List ℕ) → Option ℕ → List ℕ → Type 0
TakesBytes old new (Some n) part = Appends old new (take n part)
TakesBytes old new None part = Keeps old new

-- how many bytes a read returned, if it returned no error
abbrev pub given : {E : Type 0} → Result ℕ E → Option ℕ
given (Ok n) = Some n
given (Err e) = None

-- how many bytes a write took, if the writer returned no error
abbrev pub taken : Result ℕ SinkFault → Option ℕ
taken (Ok n) = Some n
taken (Err Device) = None
taken (Err WroteNothing) = Some 0

-- What was written if bytes were sent, and why a write failed.
use Rattle.std.specs.Prelude.{◌≡◌, ◌<◌, ◌⊎◌, ℕ, List, Option, Err, length, take, drop, true}
use Rattle.std.specs.Io.KnownBytes.{Appends}
use Rattle.scale_core.specs.Stream.{Watched, taken}
use Rattle.scale_core.specs.declared.sink.SinkFault.{SinkFault}

-- what a write did: the writer before, the part, how many bytes it took (`None` after an error),
-- and the writer afterwards
abbrev pub WriteOf : Type 0 → Type 1
WriteOf W = W → List ℕ → Option ℕ → W → Type 0

-- a write of a part that isn't empty led to this state of the writer, and failed for this reason:
-- the writer returned an error, or took no byte
abbrev pub Meets : {W : Type 0} → WriteOf W → SinkFault → W → Type 0
Meets {W} writes reason new = (old : W) × (part : List ℕ) × (0 < length part)
    × writes old part (taken (Err reason)) new

-- all bytes were written; or only the first ones were, and the write of the rest returned an error
-- or took nothing
abbrev pub Sends : {W : Type 0} → WriteOf W → (W → Option (List ℕ)) → Watched W → Watched W →
    List ℕ → Type 0
Sends {W} writes contents old new bytes = ((new.failed ≡ old.failed)
    × Appends (contents old.device) (contents new.device) bytes)
    ⊎ ((new.failed ≡ true) × ((n : ℕ) × (n < length bytes)
    × Appends (contents old.device) (contents new.device) (take n bytes)
    × ((mid : W) × (reason : SinkFault)
    × writes mid (drop n bytes) (taken (Err reason)) new.device)))

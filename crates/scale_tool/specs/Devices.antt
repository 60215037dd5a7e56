-- Calls on a device, the last of which failed.
use Rattle.std.specs.Prelude.{◌≡◌, ℕ, List, true}
use Rattle.scale_core.specs.Sending.{Meets, WriteOf}
use Rattle.scale_core.specs.Stream.{Watched}
use Rattle.scale_core.specs.declared.sink.SinkFault.{SinkFault}
use Rattle.decode_core.specs.Streaming.{FailsAfter, ReadOf}

-- some reads, or none, returned bytes, and the next one returned an error
abbrev pub FailsReading : {R : Type 0} → ReadOf R → Watched R → Watched R → Type 0
FailsReading reads old new = (new.failed ≡ true)
    × ((b : List ℕ) × FailsAfter reads old.device new.device b)

-- the last write returned an error, or took nothing
abbrev pub FailsWriting : {W : Type 0} → WriteOf W → Watched W → Type 0
FailsWriting writes new = (new.failed ≡ true)
    × ((reason : SinkFault) × Meets writes reason new.device)

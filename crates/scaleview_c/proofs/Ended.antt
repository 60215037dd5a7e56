-- What a refused end says, where an allocation failure is no fault of the bytes.
use Rattle.std.proofs.Common.{ℕ, List, Err}
use Rattle.decode_core.specs.Decoding.{FinishesDecoder}
use Rattle.outcome_core.specs.Outcome.{Query}
use Rattle.decode_core.specs.declared.fault.DecodeFault.{DecodeFault}
use Rattle.machine_core.specs.declared.reason.DecodeReason.{DecodeReason}
use Rattle.machine_core.specs.declared.reason.DecodeReason.TheVariants as reason
use Rattle.scale_calls.specs.Refused.{value_refusal_by}
use Rattle.scaleview_c.specs.Calls.{EndsAs}
use Rattle.scaleview_c.specs.declared.session.Stage.TheVariants as stage

-- a decoder that finishes with a fault ends its session as refused, whatever the reason
pub ended_by : (r : DecodeReason) (j : Query) (b : List ℕ) (f : DecodeFault) →
    FinishesDecoder j b (Err f) → EndsAs j b (stage.Refused (value_refusal_by r f))
ended_by (reason.OutOfMemory _) j b f h = tt
ended_by _ j b f h = h

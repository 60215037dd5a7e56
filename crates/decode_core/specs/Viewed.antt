-- What contracts see of a decoder.
use Rattle.std.specs.Prelude.{◌+◌}
use Rattle.decode_core.specs.declared.decoder.Decoder.TheInside.{Inside}
use Rattle.outcome_core.specs.Outcome.{Query}
use Rattle.decode_core.specs.Decoding.{Decoding, closing_turns}

-- what is decoded: a value of this type, within these limits
abbrev pub job_within : {A : Type 0} → Inside A → Query
job_within d = record {
  registry = d.checked.now.types;
  ty = d.root.0;
  depth = d.limits.depth;
  bytes = d.limits.bytes;
}

-- the query, how many bytes were taken, the value in progress or the fault, and how many turns and
-- calls there were
abbrev pub decoding_of : {A : Type 0} → Inside A → Decoding
decoding_of d = record {
  query = job_within d;
  taken = d.taken;
  run = d.run;
  turns = d.turns.so_far + closing_turns d.run d.closings.so_far;
  calls = d.calls.so_far;
}

use Rattle.json.specs.Written.{PlainBetween}
use Rattle.plain_core.proofs.plain.is_plain_bytewise.Given as goal

abbrev pub invariant-bytes : goal.invariant-bytes
invariant-bytes l = PlainBetween l.text 0 l.byte-index

use Rattle.std.proofs.Common.{◌≡◌, take, None}
use Rattle.types_core.specs.Bits.{first_unused}
use Rattle.types_core.proofs.bits.BitForm.unused_at.Given as goal

abbrev pub invariant-bytes : goal.invariant-bytes
invariant-bytes l = first_unused l.self l.count l.from (take l.i l.bytes) ≡ None

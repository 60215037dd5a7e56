use Rattle.std.proofs.Common.{arith}
use Rattle.record_core.proofs.Puts.{all_le}
use Rattle.record_core.proofs.writing.write_records.Goals as goal

pub put_records-requires-clause-pool : goal.put_records-requires-clause-pool
put_records-requires-clause-pool g c =
    omega (
      arith,
      all_le c.parts.result.1.now c.parts.result.0.now,
      c.parts.ensures.fits,
    )

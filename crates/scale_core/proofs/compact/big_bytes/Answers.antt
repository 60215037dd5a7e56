use Rattle.std.proofs.Common.{sym}
use Rattle.scale_core.proofs.Modes.{big_bytes-bits, bits-least}
use Rattle.scale_core.proofs.compact.big_bytes.Goals as goal

pub returns-clause-exact : goal.returns-clause-exact
returns-clause-exact c = let e = c.ilog2.ensures in
    sym (big_bytes-bits c.args.value c.ilog2.result c.requires e.power_le e.next_power_gt e.bound)

pub returns-clause-least : goal.returns-clause-least
returns-clause-least c = let e = c.ilog2.ensures in
    bits-least c.args.value c.ilog2.result c.requires e.next_power_gt

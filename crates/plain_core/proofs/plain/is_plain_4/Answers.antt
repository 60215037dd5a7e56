use Rattle.std.proofs.Common.{arith}
use Rattle.plain_core.proofs.AsIs.{tells_from_lanes}
use Rattle.plain_core.proofs.plain.is_plain_4.Goals as goal

pub returns : goal.returns
returns c =
    tells_from_lanes c.args.text.now c.args.at 4 c.requires (omega arith) c.type_inv.text

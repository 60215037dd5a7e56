use Rattle.scale_core.proofs.Again.{compact_again}
use Rattle.scale_core.proofs.laws.compact_is_read_again.Goals as goal

pub returns : goal.returns
returns c = compact_again

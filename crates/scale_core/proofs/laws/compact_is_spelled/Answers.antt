use Rattle.scale_core.proofs.Spellings.{compact_spelled}
use Rattle.scale_core.proofs.laws.compact_is_spelled.Goals as goal

pub returns : goal.returns
returns c = compact_spelled

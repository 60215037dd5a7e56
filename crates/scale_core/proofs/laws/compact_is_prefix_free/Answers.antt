use Rattle.scale_core.proofs.Spellings.{prefix_free}
use Rattle.scale_core.proofs.laws.compact_is_prefix_free.Goals as goal

pub returns : goal.returns
returns c = prefix_free

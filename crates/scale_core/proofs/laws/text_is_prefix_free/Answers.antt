use Rattle.scale_core.proofs.Spellings.{text_prefix_free}
use Rattle.scale_core.proofs.laws.text_is_prefix_free.Goals as goal

pub returns : goal.returns
returns c = text_prefix_free

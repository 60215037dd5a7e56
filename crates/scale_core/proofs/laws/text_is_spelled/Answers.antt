use Rattle.scale_core.proofs.Spellings.{text_spelled}
use Rattle.scale_core.proofs.laws.text_is_spelled.Goals as goal

pub returns : goal.returns
returns c = text_spelled

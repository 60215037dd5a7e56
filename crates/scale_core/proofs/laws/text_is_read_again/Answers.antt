use Rattle.scale_core.proofs.Again.{text_again}
use Rattle.scale_core.proofs.laws.text_is_read_again.Goals as goal

pub returns : goal.returns
returns c = text_again

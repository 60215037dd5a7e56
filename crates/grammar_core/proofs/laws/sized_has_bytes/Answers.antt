use Rattle.grammar_core.proofs.Emptiness as law
use Rattle.grammar_core.proofs.laws.sized_has_bytes.Goals as goal

pub returns : goal.returns
returns c = law.sized_has_bytes

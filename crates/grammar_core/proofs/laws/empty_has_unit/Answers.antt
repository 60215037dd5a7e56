use Rattle.grammar_core.proofs.Emptiness as law
use Rattle.grammar_core.proofs.laws.empty_has_unit.Goals as goal

pub returns : goal.returns
returns c = law.empty_has_unit

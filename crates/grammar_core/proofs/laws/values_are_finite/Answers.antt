use Rattle.grammar_core.proofs.Grounded as law
use Rattle.grammar_core.proofs.laws.values_are_finite.Goals as goal

pub returns : goal.returns
returns c = law.values_are_finite

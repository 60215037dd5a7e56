use Rattle.grammar_core.proofs.Bounds as law
use Rattle.grammar_core.proofs.laws.values_are_bounded.Goals as goal

pub returns : goal.returns
returns c = law.values_are_bounded

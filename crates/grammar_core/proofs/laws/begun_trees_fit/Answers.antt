use Rattle.grammar_core.proofs.Begun as law
use Rattle.grammar_core.proofs.laws.begun_trees_fit.Goals as goal

pub returns : goal.returns
returns c = law.begun_trees_fit

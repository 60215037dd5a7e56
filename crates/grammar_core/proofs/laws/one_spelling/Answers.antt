use Rattle.grammar_core.proofs.Spelled as law
use Rattle.grammar_core.proofs.laws.one_spelling.Goals as goal

pub returns : goal.returns
returns c = law.one_spelling_of

use Rattle.grammar_core.proofs.Texts as law
use Rattle.grammar_core.proofs.laws.texts_are_text.Goals as goal

pub returns : goal.returns
returns c = law.texts_are_text

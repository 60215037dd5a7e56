use Rattle.grammar_core.proofs.Parts as law
use Rattle.grammar_core.proofs.laws.parts_fail.Goals as goal

pub returns : goal.returns
returns c = law.parts_fail

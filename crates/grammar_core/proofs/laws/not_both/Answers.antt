use Rattle.grammar_core.proofs.Proved as law
use Rattle.grammar_core.proofs.laws.not_both.Goals as goal

pub returns : goal.returns
returns c = law.not_both

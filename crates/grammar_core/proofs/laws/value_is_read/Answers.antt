use Rattle.grammar_core.proofs.Proved as law
use Rattle.grammar_core.proofs.laws.value_is_read.Goals as goal

pub returns : goal.returns
returns c = law.value_is_read

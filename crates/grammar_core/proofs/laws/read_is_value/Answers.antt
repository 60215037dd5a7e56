use Rattle.grammar_core.proofs.Proved as law
use Rattle.grammar_core.proofs.laws.read_is_value.Goals as goal

pub returns : goal.returns
returns c = law.read_is_value

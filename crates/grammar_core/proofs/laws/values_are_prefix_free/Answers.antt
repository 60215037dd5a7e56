use Rattle.grammar_core.proofs.Proved as law
use Rattle.grammar_core.proofs.laws.values_are_prefix_free.Goals as goal

pub returns : goal.returns
returns c = law.prefix_free

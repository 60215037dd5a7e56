use Rattle.grammar_core.proofs.Proved as law
use Rattle.grammar_core.proofs.laws.value_or_fault.Goals as goal

pub returns : goal.returns
returns c = law.value_or_fault

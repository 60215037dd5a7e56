use Rattle.grammar_core.proofs.Proved as law
use Rattle.grammar_core.proofs.laws.faults_are_stable.Goals as goal

pub returns : goal.returns
returns c = law.stable

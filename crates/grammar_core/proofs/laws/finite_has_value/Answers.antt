use Rattle.grammar_core.proofs.Inhabited as law
use Rattle.grammar_core.proofs.laws.finite_has_value.Goals as goal

pub returns : goal.returns
returns c = law.finite_has_value

use Rattle.outcome_core.proofs.OutcomeBound as law
use Rattle.outcome_core.proofs.laws.one_begun.Goals as goal

pub returns : goal.returns
returns c = law.one_begun

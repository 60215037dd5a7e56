use Rattle.outcome_core.proofs.Outcomes as law
use Rattle.outcome_core.proofs.laws.one_outcome.Goals as goal

pub returns : goal.returns
returns c = law.one_outcome

use Rattle.outcome_core.proofs.Computed as law
use Rattle.outcome_core.proofs.laws.outcome_is_computed.Goals as goal

pub returns : goal.returns
returns c = law.outcome_is_computed

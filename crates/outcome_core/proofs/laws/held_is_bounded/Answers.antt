use Rattle.outcome_core.proofs.OutcomeBound as law
use Rattle.outcome_core.proofs.laws.held_is_bounded.Goals as goal

pub returns : goal.returns
returns c = law.held_is_bounded

use Rattle.outcome_core.proofs.BegunBound as law
use Rattle.outcome_core.proofs.laws.begun_is_bounded.Goals as goal

pub returns : goal.returns
returns c = law.begun_is_bounded

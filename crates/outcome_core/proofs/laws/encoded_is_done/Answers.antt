use Rattle.outcome_core.proofs.Outcomes as law
use Rattle.outcome_core.proofs.laws.encoded_is_done.Goals as goal

pub returns : goal.returns
returns c = law.encoded_is_done

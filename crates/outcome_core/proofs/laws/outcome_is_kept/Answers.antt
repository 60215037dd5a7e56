use Rattle.outcome_core.proofs.Kept as law
use Rattle.outcome_core.proofs.laws.outcome_is_kept.Goals as goal

pub returns : goal.returns
returns c = law.outcome_is_kept

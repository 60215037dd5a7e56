use Rattle.outcome_core.proofs.Begins as law
use Rattle.outcome_core.proofs.laws.begun_is_missing.Goals as goal

pub returns : goal.returns
returns c = law.begun_is_missing

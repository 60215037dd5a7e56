use Rattle.outcome_core.proofs.Missing as law
use Rattle.outcome_core.proofs.laws.missing_is_begun.Goals as goal

pub returns : goal.returns
returns c = law.missing_is_begun

use Rattle.outcome_core.proofs.MoreIs as law
use Rattle.outcome_core.proofs.laws.more_holds.Goals as goal

pub returns : goal.returns
returns c = law.more_holds

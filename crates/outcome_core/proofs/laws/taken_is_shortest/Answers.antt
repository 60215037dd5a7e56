use Rattle.outcome_core.proofs.Computed as law
use Rattle.outcome_core.proofs.laws.taken_is_shortest.Goals as goal

pub returns : goal.returns
returns c = law.taken_is_shortest

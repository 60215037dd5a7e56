use Rattle.outcome_core.proofs.FaultBegins as law
use Rattle.outcome_core.proofs.laws.fault_is_begun.Goals as goal

pub returns : goal.returns
returns c = law.fault_is_begun

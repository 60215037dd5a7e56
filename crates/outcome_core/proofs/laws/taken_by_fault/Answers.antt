use Rattle.outcome_core.proofs.ByFault as law
use Rattle.outcome_core.proofs.laws.taken_by_fault.Goals as goal

pub returns : goal.returns
returns c = law.taken_by_fault

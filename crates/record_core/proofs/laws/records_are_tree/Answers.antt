use Rattle.record_core.proofs.Back as law
use Rattle.record_core.proofs.laws.records_are_tree.Goals as goal

pub returns : goal.returns
returns c = law.records_are_tree

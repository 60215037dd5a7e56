use Rattle.value_core.proofs.Ahead.{elements_opened}
use Rattle.value_core.proofs.walk.Walk.elements.Goals as goal

pub returns-clause-opens : goal.returns-clause-opens
returns-clause-opens g c = rw c.elements_in.ensures (elements_opened c.args.self.now c.args.length
    c.step.result c.requires c.step.ensures).opens

pub returns-clause-counts : goal.returns-clause-counts
returns-clause-counts g c = rw c.elements_in.ensures (elements_opened c.args.self.now c.args.length
    c.step.result c.requires c.step.ensures).counts

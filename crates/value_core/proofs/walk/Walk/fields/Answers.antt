use Rattle.value_core.proofs.Ahead.{members_opened}
use Rattle.value_core.proofs.walk.Walk.fields.Goals as goal

pub returns-clause-opens : goal.returns-clause-opens
returns-clause-opens g c = rw c.members_in.ensures
    (members_opened c.args.self.now c.step.result c.requires c.step.ensures).opens

pub returns-clause-counts : goal.returns-clause-counts
returns-clause-counts g c = rw c.members_in.ensures
    (members_opened c.args.self.now c.step.result c.requires c.step.ensures).counts

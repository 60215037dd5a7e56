use Rattle.node_core.proofs.Members.{none_counted}
use Rattle.node_core.proofs.remaining.Remaining.is_empty.Goals as goal

pub returns : goal.returns
returns c refs h = none_counted refs c.args.self.now h

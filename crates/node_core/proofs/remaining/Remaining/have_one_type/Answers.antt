use Rattle.node_core.proofs.Members.{one_type}
use Rattle.node_core.proofs.remaining.Remaining.have_one_type.Goals as goal

pub returns : goal.returns
returns c refs = one_type refs c.args.self.now

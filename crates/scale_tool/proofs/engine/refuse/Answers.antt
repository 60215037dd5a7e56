use Rattle.std.proofs.Common.{inr, rules}
use Rattle.scale_tool.proofs.engine.refuse.Goals as goal

pub returns-in-Err : goal.returns-in-Err
returns-in-Err g c = inr (search rules, c.status-in-Err.ensures, c.send-in-Err.ensures.sent)

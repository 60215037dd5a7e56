use Rattle.scale_calls.proofs.PathTexts.{HasNone}
use Rattle.scale_calls.proofs.describing.find_type.Given as goal

abbrev pub invariant-types : goal.invariant-types
invariant-types l = HasNone l.types l.from l.id l.path

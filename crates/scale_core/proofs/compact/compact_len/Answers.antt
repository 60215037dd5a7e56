use Rattle.std.proofs.Common.{sym, arith}
use Rattle.scale_core.proofs.Modes.{length-compact-one, length-compact-two, length-compact-four}
use Rattle.scale_core.proofs.Modes.{length-compact-big}
use Rattle.scale_core.proofs.compact.compact_len.Goals as goal

pub returns-in-0-to-63-clause-exact : goal.returns-in-0-to-63-clause-exact
returns-in-0-to-63-clause-exact c = sym (length-compact-one c.args.value (omega arith))

pub returns-in-64-to-16383-clause-exact : goal.returns-in-64-to-16383-clause-exact
returns-in-64-to-16383-clause-exact c =
    sym (length-compact-two c.args.value (omega arith) (omega arith))

pub returns-in-16384-to-1073741823-clause-exact : goal.returns-in-16384-to-1073741823-clause-exact
returns-in-16384-to-1073741823-clause-exact c =
    sym (length-compact-four c.args.value (omega arith) (omega arith))

pub returns-in_default-clause-exact : goal.returns-in_default-clause-exact
returns-in_default-clause-exact c =
    omega (arith, length-compact-big c.args.value (omega arith), c.big_bytes.ensures.exact)

use Rattle.std.proofs.Common.{sym, ◌∙◌}
use Rattle.chain_core.proofs.RestRead.{rest_count, rest_known}
use Rattle.chain_core.proofs.rest.rest_types.Goals as goal

pub returns-in_err-registry-clause-count : goal.returns-in_err-registry-clause-count
returns-in_err-registry-clause-count c = rest_count

pub returns-in-Ok-clause-count : goal.returns-in-Ok-clause-count
returns-in-Ok-clause-count c = rest_count

pub returns-in-Err-OutOfMemory-default-clause-count :
    goal.returns-in-Err-OutOfMemory-default-clause-count
returns-in-Err-OutOfMemory-default-clause-count c = rest_count

pub returns-in-Err-TooLarge-default-clause-count :
    goal.returns-in-Err-TooLarge-default-clause-count
returns-in-Err-TooLarge-default-clause-count c = rest_count

pub unreachable-requires : goal.unreachable-requires
unreachable-requires c =
    let is = rw (c.in-Err-UnknownType-default.field-0-0-is, c.in_ok-registry.ensures)
    at c.in-Err-UnknownType-default.ensures.exact.1 in
    let no = sym rest_known ∙ is in cc

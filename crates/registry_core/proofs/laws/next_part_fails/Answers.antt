use Rattle.registry_core.proofs.Splits.{definition_faults, part_faults, piece_faults}
use Rattle.registry_core.proofs.SplitTypes.{all_faults}
use Rattle.registry_core.proofs.laws.next_part_fails.Goals as goal

pub returns-clause-pieces : goal.returns-clause-pieces
returns-clause-pieces c = piece_faults

pub returns-clause-parts : goal.returns-clause-parts
returns-clause-parts c = part_faults

pub returns-clause-definitions : goal.returns-clause-definitions
returns-clause-definitions c = definition_faults

pub returns-clause-registry : goal.returns-clause-registry
returns-clause-registry c = all_faults

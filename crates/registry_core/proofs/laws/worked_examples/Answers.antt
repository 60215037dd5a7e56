use Rattle.registry_core.proofs.Examples.{fault_rows, metadata_rows, read_rows}
use Rattle.registry_core.proofs.laws.worked_examples.Goals as goal

pub returns-clause-read : goal.returns-clause-read
returns-clause-read c = read_rows

pub returns-clause-faults : goal.returns-clause-faults
returns-clause-faults c = fault_rows

pub returns-clause-metadata : goal.returns-clause-metadata
returns-clause-metadata c = metadata_rows

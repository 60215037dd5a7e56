use Rattle.registry_core.proofs.Registries.{metadata_is, registry_is}
use Rattle.registry_core.proofs.laws.spelled_is_read.Goals as goal

pub returns-clause-registry : goal.returns-clause-registry
returns-clause-registry c = registry_is.again

pub returns-clause-metadata : goal.returns-clause-metadata
returns-clause-metadata c = metadata_is.again

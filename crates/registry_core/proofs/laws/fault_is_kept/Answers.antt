use Rattle.registry_core.proofs.Faults as law
use Rattle.registry_core.proofs.Registries.{metadata_is, registry_is}
use Rattle.registry_core.proofs.laws.fault_is_kept.Goals as goal

pub returns-clause-registry : goal.returns-clause-registry
returns-clause-registry c = law.fault_is_kept registry_is

pub returns-clause-metadata : goal.returns-clause-metadata
returns-clause-metadata c = law.fault_is_kept metadata_is

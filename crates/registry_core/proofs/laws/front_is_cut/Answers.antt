use Rattle.registry_core.proofs.Faults as law
use Rattle.registry_core.proofs.Registries.{metadata_is, registry_is}
use Rattle.registry_core.proofs.laws.front_is_cut.Goals as goal

pub returns-clause-registry : goal.returns-clause-registry
returns-clause-registry c = law.front_is_cut registry_is

pub returns-clause-metadata : goal.returns-clause-metadata
returns-clause-metadata c = law.front_is_cut metadata_is

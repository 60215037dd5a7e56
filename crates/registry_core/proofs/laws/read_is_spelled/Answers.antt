use Rattle.registry_core.proofs.Registries.{metadata_is, registry_is}
use Rattle.registry_core.proofs.Whole as law
use Rattle.registry_core.proofs.laws.read_is_spelled.Goals as goal

pub returns-clause-registry : goal.returns-clause-registry
returns-clause-registry c = law.read_is_spelled registry_is

pub returns-clause-metadata : goal.returns-clause-metadata
returns-clause-metadata c = law.read_is_spelled metadata_is

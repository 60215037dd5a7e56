use Rattle.growth_core.specs.Evidence.{evidence}
use Rattle.scale_tool.proofs.Reports.{metadata_memory}
use Rattle.scale_tool.proofs.named.read_names.Goals as goal

pub returns-clause-faults : goal.returns-clause-faults
returns-clause-faults g c =
    metadata_memory evidence c.args.bits (g.R.Read.remaining c.args.registry.now.device)

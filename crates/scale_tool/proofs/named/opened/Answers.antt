use Rattle.std.proofs.lemmas.Result.{IfErr-weaker}
use Rattle.scale_tool.proofs.Metadatas.{metadata_none}
use Rattle.scale_tool.proofs.named.opened.Goals as goal

pub returns-clause-refused : goal.returns-clause-refused
returns-clause-refused c = IfErr-weaker c.open_metadata.result _ _
    (λ e h. metadata_none c.args.bits c.args.bytes.now e h) c.open_metadata.ensures.err

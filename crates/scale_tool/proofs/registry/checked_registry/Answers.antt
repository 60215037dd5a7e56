use Rattle.std.proofs.lemmas.Result.{IfErr-weaker}
use Rattle.scale_tool.proofs.Registries.{holds_none}
use Rattle.scale_tool.proofs.registry.checked_registry.Goals as goal

pub returns-clause-err : goal.returns-clause-err
returns-clause-err c = IfErr-weaker c.open_registry.result _ _
    (λ e h. holds_none c.args.options c.args.bytes.now e h) c.open_registry.ensures.err

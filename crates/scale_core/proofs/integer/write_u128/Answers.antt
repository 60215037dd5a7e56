use Rattle.std.proofs.Common.{◌∙◌}
use Rattle.scale_core.proofs.Fronts.{to_le_bytes_16, appends}
use Rattle.scale_core.proofs.integer.write_u128.Goals as goal

pub returns-clause-ok : goal.returns-clause-ok
returns-clause-ok c = appends c.extend_from_slice.result _ _ _ _ c.extend_from_slice.ensures.items
    (c.to_le_bytes.ensures ∙ to_le_bytes_16 c.args.value)

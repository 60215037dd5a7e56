use Rattle.scale_core.proofs.Fronts.{from_le_bytes-padded}
use Rattle.scale_core.proofs.compact.number_of.Goals as goal

pub returns : goal.returns
returns c = from_le_bytes-padded c.args.spelled.now c.copy_from_slice.new.self
    c.from_le_bytes.result c.requires c.copy_from_slice.ensures.after c.from_le_bytes.ensures

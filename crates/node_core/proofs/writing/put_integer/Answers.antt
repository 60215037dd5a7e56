use Rattle.std.proofs.Common.{ap, ◌∙◌, ℕ}
use Rattle.scale_core.specs.Number.{le_bytes}
use Rattle.node_core.proofs.SpelledNodes.{integer_front}
use Rattle.node_core.proofs.writing.put_integer.Goals as goal

pub returns-clause-bytes : goal.returns-clause-bytes
returns-clause-bytes c =
    integer_front c.copy_from_slice.new.self _ c.to_le_bytes.result c.width_of-width.result
    c.args.number c.width_of-width.ensures.bound c.copy_from_slice.ensures.after
    c.to_le_bytes.ensures
    ∙ ap (λ (k : ℕ). le_bytes k c.args.number) c.width_of-width.ensures.exact

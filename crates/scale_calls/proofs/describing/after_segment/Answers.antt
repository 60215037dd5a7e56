use Rattle.std.proofs.Common.{◌++◌, sym, ap, ◌∙◌}
use Rattle.scale_calls.proofs.describing.after_segment.Goals as goal

pub returns-in-None : goal.returns-in-None
returns-in-None c = λ rest is.
    let after = c.args.segment.now ++ rest in
    c.in-None.ensures after (is ∙ ap (λ x. x ++ after) (sym c.as_bytes.ensures.value))

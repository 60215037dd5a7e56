use Rattle.std.proofs.Common.{◌≡◌, ◌++◌, ap, ◌∙◌}
use Rattle.scale_calls.specs.Lines.{joined_segments}
use Rattle.scale_calls.proofs.PathTexts.{first_joined, next_joined}
use Rattle.scale_calls.proofs.describing.is_joined.Goals as goal

pub segments-init : goal.segments-init
segments-init c =
    let rest = c.in-Some-after_front.rest.now in
    first_joined c.args.segments.now c.in-Some.first.now c.in-Some.others.now c.args.text.now rest
    c.in-Some.ensures.cases.0
    (c.in-Some-after_front.ensures
    ∙ ap (λ x. x ++ rest) (c.as_bytes.ensures.value ∙ c.as_str.ensures.same))

pub segments-preserved : goal.segments-preserved
segments-preserved c =
    next_joined (joined_segments c.args.segments.now ≡ c.args.text.now) c.in-Some.others.now
    c.segments.segment-index c.segment-item.result c.segments.rest.now
    c.in-Some-after_segment.after.now c.segments-test.true c.segment-item.is
    c.in-Some-after_segment.ensures c.segments.invariant

use Rattle.std.proofs.Common.{◌≡◌, ◌↔◌, drop}
use Rattle.scale_calls.specs.Lines.{joined_segments}
use Rattle.scale_calls.proofs.PathTexts.{after_first}
use Rattle.scale_calls.proofs.describing.is_joined.Given as goal

abbrev pub invariant-segments : goal.invariant-segments
invariant-segments l = (joined_segments l.segments ≡ l.text)
    ↔ (after_first (drop l.segment-index l.others) ≡ l.rest)

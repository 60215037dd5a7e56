use Rattle.std.proofs.Common.{◌≡◌, ◌+◌, ◌<◌, length, get_or, rules}
use Rattle.graph_core.proofs.Arms.{count_passed}
use Rattle.graph_core.proofs.sizes.field_count.Goals as goal

pub counted-preserved : goal.counted-preserved
counted-preserved c =
    let arms = c.args.arms.now in
    let a = c.index-arms-position.result in
    let lt : c.counted.position < length arms =
    search rules in
    let at : a ≡ get_or arms c.counted.position a = search rules in
    let sum : c.in_ok-count.count ≡ c.counted.count + length a.fields = search rules in
    rw sum (count_passed c.counted.count _ c.counted.position arms a lt at c.counted.invariant)

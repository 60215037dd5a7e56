use Rattle.std.proofs.Common.{◌≡◌, ◌<◌, ◌^◌, length, max, get_or, rules, arith}
use Rattle.graph_core.proofs.Arms.{fields_fit, width_passed}
use Rattle.graph_core.proofs.sizes.widest_arm.Goals as goal

pub overflow_cast-len : goal.overflow_cast-len
overflow_cast-len c =
    let arms = c.args.arms.now in
    let a = c.index-arms-position.result in
    let lt : c.arms.position < length arms =
    search rules in
    let at : a ≡ get_or arms c.arms.position a = search rules in
    let fields : c.len.result ≡ length a.fields = search rules in
    let fits : length a.fields < 2 ^ 32 = fields_fit arms c.arms.position a c.requires lt at in
    omega (arith, fields, fits)

pub arms-preserved : goal.arms-preserved
arms-preserved c =
    let arms = c.args.arms.now in
    let a = c.index-arms-position.result in
    let lt : c.arms.position < length arms =
    search rules in
    let at : a ≡ get_or arms c.arms.position a = search rules in
    let wide : c.max-widest.result ≡ max c.arms.widest (length a.fields) = search rules in
    rw wide (width_passed c.arms.widest _ c.arms.position arms a lt at c.arms.invariant)

use Rattle.std.proofs.Common.{◌≡◌, ◌+◌, max, Some, rules}
use Rattle.graph_core.specs.Types.{shape}
use Rattle.graph_core.proofs.SizesTo.{sizes_more}
use Rattle.graph_core.proofs.sizes.sizes_of.Goals as goal

pub types-preserved : goal.types-preserved
types-preserved c =
    let r = c.args.graph.now.registry in
    let s = c.in_ok-sizes.sizes in
    let k = c.in_ok-sizes.ensures.sizes in
    let e : shape r c.types.position ≡ Some k.0 = rw (← c.types.invariant.types) k.1 in
    let n : c.in_ok-references.references ≡ c.types.references + s.references = search rules in
    let m : c.in_ok-arms.arms ≡ c.types.arms + s.arms = search rules in
    let w : c.max-widest.result ≡ max c.types.widest s.widest = search rules in
    rw (n, m, w) (sizes_more r c.types.position c.types.references c.types.arms c.types.widest k.0 s
    c.types.graph c.measure.new.self e k.2 c.types.invariant c.measure.ensures.glanced)

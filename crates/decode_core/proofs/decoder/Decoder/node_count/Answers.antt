use Rattle.std.proofs.Common.{◌≤◌, ap, arith, length, subst}
use Rattle.graph_core.specs.Widths.{widest}
use Rattle.decode_core.specs.Viewed.{job_within}
use Rattle.outcome_core.specs.Bound.{node_bound}
use Rattle.decode_core.specs.Decoding.{Decoding}
use Rattle.value_core.specs.Built.{Built}
use Rattle.decode_core.proofs.calls.Inside.{small_inside}
use Rattle.decode_core.proofs.decoder.Decoder.node_count.Goals as goal

pub returns-in-Ok-clause-bound : goal.returns-in-Ok-clause-bound
returns-in-Ok-clause-bound g c =
    let d = c.self.inside in
    let j = job_within d in
    let small = small_inside d _ c.self.invariant c.in-Ok.is in
    let few : c.node_count.result ≤ node_bound d.taken j.depth (widest j.registry) =
    omega (
      arith,
      small.nodes,
      c.node_count.ensures.count,
      ap (λ (b : Built). length b.entries) c.builder.ensures,
    ) in
    subst (λ (x : Decoding). c.node_count.result
    ≤ node_bound x.taken x.query.depth (widest x.query.registry)) c.self.view_is few

use Rattle.std.proofs.Common.{[], ◌∷◌, ◌≡◌, ◌+◌, ◌<◌, length, Err, refl, ◌∙◌}
use Rattle.std.proofs.Common.{rules, arith}
use Rattle.widths_core.specs.declared.counter.Kind.TheVariants as kind
use Rattle.graph_core.specs.Cursors.{arms_left}
use Rattle.graph_core.specs.Graphs.{refs, BeginsArm}
use Rattle.graph_core.specs.Types.{field_types}
use Rattle.graph_core.specs.declared.link_stop.LinkStop.TheVariants as stop
use Rattle.widths_core.specs.Rules.{all_parts, arm_rules, found_sized, rule}
use Rattle.widths_core.specs.Linking.{AddsRules}
use Rattle.graph_core.specs.Stops.{StopsLinking}
use Rattle.widths_core.proofs.Adding.{adds_begun}
use Rattle.widths_core.proofs.ArmRules.{arms_none, arms_shadowed, arms_counted, next_arm_at}
use Rattle.widths_core.proofs.ArmRules.{arm_some, arms_some}
use Rattle.graph_core.proofs.Stopped.{stop_kept, stops_read}
use Rattle.widths_core.proofs.Stopped.{stops_arms, stops_memory_after, stops_short_is}
use Rattle.widths_core.proofs.RowTo.{row_none, row_has, row_lacks, row_shadowed, row_counted}
use Rattle.widths_core.proofs.RowTo.{row_all}
use Rattle.widths_core.proofs.linking.link_arms.Goals as goal
use Rattle.widths_core.proofs.linking.link_arms.Goals.{in-Ok+in_ok-link_parts-in-Ok}
use Rattle.widths_core.proofs.linking.link_arms.Goals.{}
use Rattle.widths_core.proofs.linking.link_arms.Goals.{in-Err+in_ok-from-in-Err+in_ok-number-in-Err+in_ok-insert-in-Err}

pub arms-init : goal.arms-init
arms-init c = (
  arms_none c.args.owner (arms_left c.args.graph.now) c.args.counters.now.items c.args.graph.now
      c.requires.linked,
  row_none (refs c.args.graph.now) c.len-first.result (arms_left c.args.graph.now)
      c.args.rows.now c.len-first.ensures c.requires.paired,
  refl,
  c.requires.begun,
)

pub unwrap-index-requires : goal.unwrap-index-requires
unwrap-index-requires c =
    let arms = arms_left c.args.graph.now in
    let lt : c.arms.position < length arms = omega (arith, c.arms-test.true, c.requires.count) in
    arm_some c.arms.graph c.next_arm.new.self c.next_arm.result c.next_arm.ensures
    (arms_some arms c.arms.position c.arms.graph c.arms.invariant.2 lt)

pub arms-preserved : goal.arms-preserved
arms-preserved c =
    let i = c.arms.position in
    let b = c.arms.graph in
    let m = c.next_arm.new.self in
    let arms = arms_left c.args.graph.now in
    let lt : i < length arms = omega (arith, c.arms-test.true, c.requires.count) in
    let k : BeginsArm b m c.unwrap-index.result.0 c.unwrap-index.result.1 =
    rw c.unwrap-index.ensures at c.next_arm.ensures in
    let x = k.arm in
    let next = next_arm_at arms i b m c.unwrap-index.result.0 c.unwrap-index.result.1 lt
    c.arms.invariant.2 k in
    let linked = c.arms.invariant.0.adds.reads.linked in
    let f = c.len-first.result in
    let so_far = c.arms.invariant.1 in
    elim c.match-search.branch [
      | in-Ok+in_ok-link_parts-in-Ok w ↦
          let found = rw (w.in-Ok.is, k.index_is) at c.search.ensures in
          let old = row_has (refs b) f i arms c.args.rows.now c.arms.rows x.index
          w.in-Ok.field-0 so_far found in
          let own : AddsRules (rule c.args.owner kind.Idle (field_types x.fields) ∷ [])
          c.arms.counters.items w.link_parts.new.counters.items m w.link_parts.new.graph =
          rw k.parts at w.in_ok-link_parts-in-Ok.ensures.adds in
          let adds = adds_begun _ _ _ b m w.link_parts.new.graph _ _ linked k own in
          rw (w.graph-is, w.counters-is, w.rows-is) (
            arms_shadowed c.args.owner i arms x c.args.counters.now.items c.arms.counters.items
                w.link_parts.new.counters.items c.args.graph.now b
                w.link_parts.new.graph lt next.at old c.arms.invariant.0 adds,
            row_shadowed (refs b) _ (refs w.link_parts.new.graph) f i arms x
                c.args.rows.now c.arms.rows lt next.at adds.reads.on.read old so_far,
            w.in_ok-link_parts-in-Ok.ensures.arms ∙ next.left,
            w.in_ok-link_parts-in-Ok.ensures.ended,
          )
      | in-Err+in_ok-from-in-Err+in_ok-number-in-Err+in_ok-insert-in-Err w ↦
          let belongs = rw (w.in-Err.is, k.index_is) at c.search.ensures in
          let fresh = row_lacks (refs b) f i arms c.args.rows.now c.arms.rows x.index
          w.in-Err.place so_far belongs in
          let own : AddsRules
          (rule c.args.owner (kind.Fixed found_sized) (field_types x.fields) ∷ [])
          c.arms.counters.items w.link_parts-in-Err.new.counters.items m
          w.link_parts-in-Err.new.graph = rw k.parts at w.in_ok-from-in-Err.ensures.adds in
          let adds = adds_begun _ _ _ b m w.link_parts-in-Err.new.graph _ _ linked k own in
          let parts = rw k.parts at w.in_ok-from-in-Err.ensures.parts in
          let at : w.in_ok-number-in-Err.field-0 ≡ i = search rules in
          rw (w.graph-is, w.counters-is, w.rows-is) (
            arms_counted c.args.owner i arms x c.args.counters.now.items c.arms.counters.items
                w.link_parts-in-Err.new.counters.items c.args.graph.now b
                w.link_parts-in-Err.new.graph lt next.at fresh c.arms.invariant.0 adds,
            row_counted (refs b) _ (refs w.link_parts-in-Err.new.graph) f i
                w.in-Err.place arms x _ c.args.rows.now c.arms.rows w.insert.new.self lt next.at
                adds.reads.on.read belongs at parts
                (rw k.index_is at w.in_ok-insert-in-Err.ensures) so_far,
            w.in_ok-from-in-Err.ensures.arms ∙ next.left,
            w.in_ok-from-in-Err.ensures.ended,
          )
    ]

pub returns-clause-step : goal.returns-clause-step
returns-clause-step c =
    let first : c.in_ok-number.field-0 ≡ c.len-first.result = search rules in
    let count : c.in_ok-number-2.field-0 + c.len-first.result ≡ length c.arms.rows.indexes.items =
    search rules in (
      c.in_ok-number.field-0,
      c.in_ok-number-2.field-0,
      refl,
      rw first (row_all (refs c.arms.graph) c.len-first.result c.in_ok-number-2.field-0
          c.arms.position (arms_left c.args.graph.now) c.args.rows.now c.arms.rows
          (omega (arith, c.arms-test.false, c.requires.count)) count c.arms.invariant.1),
    )

pub returns-in_err-link_parts-in-Ok-clause-stops :
    goal.returns-in_err-link_parts-in-Ok-clause-stops
returns-in_err-link_parts-in-Ok-clause-stops c =
    let i = c.arms.position in
    let b = c.arms.graph in
    let m = c.next_arm.new.self in
    let arms = arms_left c.args.graph.now in
    let lt : i < length arms = omega (arith, c.arms-test.true, c.requires.count) in
    let k : BeginsArm b m c.unwrap-index.result.0 c.unwrap-index.result.1 =
    rw c.unwrap-index.ensures at c.next_arm.ensures in
    let next = next_arm_at arms i b m c.unwrap-index.result.0 c.unwrap-index.result.1 lt
    c.arms.invariant.2 k in
    let o = c.in_err-link_parts-in-Ok.field-0.0 in
    let stops = stops_arms c.args.owner i kind.Idle arms k.arm c.args.counters.now.items
    c.arms.counters.items c.args.graph.now b m c.link_parts.new.graph _ _ o lt next.at
    c.arms.invariant.0 k (rw k.parts at c.in_err-link_parts-in-Ok.ensures.stops) in
    stop_kept c.from_residual.result o
    (StopsLinking (all_parts (arm_rules c.args.owner [] arms)) c.args.graph.now
    c.link_parts.new.graph) c.from_residual.ensures.1 stops

pub returns-in_err-from-in-Err-clause-stops : goal.returns-in_err-from-in-Err-clause-stops
returns-in_err-from-in-Err-clause-stops c =
    let i = c.arms.position in
    let b = c.arms.graph in
    let m = c.next_arm.new.self in
    let arms = arms_left c.args.graph.now in
    let lt : i < length arms = omega (arith, c.arms-test.true, c.requires.count) in
    let k : BeginsArm b m c.unwrap-index.result.0 c.unwrap-index.result.1 =
    rw c.unwrap-index.ensures at c.next_arm.ensures in
    let next = next_arm_at arms i b m c.unwrap-index.result.0 c.unwrap-index.result.1 lt
    c.arms.invariant.2 k in
    let o = c.in_err-from-in-Err.field-0.0 in
    let stops = stops_arms c.args.owner i (kind.Fixed found_sized) arms k.arm
    c.args.counters.now.items c.arms.counters.items c.args.graph.now b m
    c.link_parts-in-Err.new.graph _ _ o lt next.at c.arms.invariant.0 k
    (rw k.parts at c.in_err-from-in-Err.ensures.stops) in
    stop_kept c.from_residual-in_err-from-in-Err.result o
    (StopsLinking (all_parts (arm_rules c.args.owner [] arms)) c.args.graph.now
    c.link_parts-in-Err.new.graph) c.from_residual-in_err-from-in-Err.ensures.1 stops

pub returns-in_err-number-in-Err-clause-stops : goal.returns-in_err-number-in-Err-clause-stops
returns-in_err-number-in-Err-clause-stops c =
    let b = c.arms.graph in
    let m = c.next_arm.new.self in
    let k : BeginsArm b m c.unwrap-index.result.0 c.unwrap-index.result.1 =
    rw c.unwrap-index.ensures at c.next_arm.ensures in
    let is : c.from_residual-in_err-number-in-Err.result
    ≡ Err (stop.TooMany c.in_err-number-in-Err.field-0.0) = search rules in
    stops_short_is c.from_residual-in_err-number-in-Err.result
    (stop.TooMany c.in_err-number-in-Err.field-0.0) _ c.args.graph.now
    c.link_parts-in-Err.new.graph is tt
    (stops_memory_after c.args.graph.now b m c.link_parts-in-Err.new.graph _ _ _ _ _ _
    c.arms.invariant.0.adds.reads k c.in_ok-from-in-Err.ensures.adds.reads)

pub returns-in_err-insert-in-Err-clause-stops : goal.returns-in_err-insert-in-Err-clause-stops
returns-in_err-insert-in-Err-clause-stops c =
    let b = c.arms.graph in
    let m = c.next_arm.new.self in
    let k : BeginsArm b m c.unwrap-index.result.0 c.unwrap-index.result.1 =
    rw c.unwrap-index.ensures at c.next_arm.ensures in
    let is : c.from_residual-in_err-insert-in-Err.result
    ≡ Err (stop.Memory c.in_err-insert-in-Err.field-0.0) = search rules in
    stops_short_is c.from_residual-in_err-insert-in-Err.result
    (stop.Memory c.in_err-insert-in-Err.field-0.0) _ c.args.graph.now
    c.link_parts-in-Err.new.graph is tt
    (stops_memory_after c.args.graph.now b m c.link_parts-in-Err.new.graph _ _ _ _ _ _
    c.arms.invariant.0.adds.reads k c.in_ok-from-in-Err.ensures.adds.reads)

pub returns-in_err-number-clause-stops : goal.returns-in_err-number-clause-stops
returns-in_err-number-clause-stops c =
    let is : c.from_residual-in_err-number.result
    ≡ Err (stop.TooMany c.in_err-number.field-0.0) = search rules in
    stops_short_is c.from_residual-in_err-number.result
    (stop.TooMany c.in_err-number.field-0.0) _ c.args.graph.now c.arms.graph is tt
    (stops_read c.args.graph.now c.arms.graph _ _ c.arms.invariant.0.adds.reads)

pub returns-in_err-number-2-clause-stops : goal.returns-in_err-number-2-clause-stops
returns-in_err-number-2-clause-stops c =
    let is : c.from_residual-in_err-number-2.result
    ≡ Err (stop.TooMany c.in_err-number-2.field-0.0) = search rules in
    stops_short_is c.from_residual-in_err-number-2.result
    (stop.TooMany c.in_err-number-2.field-0.0) _ c.args.graph.now c.arms.graph is tt
    (stops_read c.args.graph.now c.arms.graph _ _ c.arms.invariant.0.adds.reads)

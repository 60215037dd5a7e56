use Rattle.std.proofs.Common.{◌++◌, [], length, ap, arith}
use Rattle.std.proofs.lemmas.List.{length-append}
use Rattle.graph_core.specs.Cursors.{parts_left}
use Rattle.graph_core.specs.Graphs.{refs}
use Rattle.graph_core.specs.Stops.{StopsLinking}
use Rattle.graph_core.proofs.Linked.{parts_none, parts_some, parts_more, parts_all}
use Rattle.graph_core.proofs.Stopped.{stop_kept, stops_parts}
use Rattle.widths_core.proofs.Adding.{parts_added, parts_there}
use Rattle.widths_core.proofs.linking.link_parts.Goals as goal

pub parts-init : goal.parts-init
parts-init c = parts_none c.args.graph.now c.in_ok-counter.counter c.requires.linked

pub next-requires-clause-linked : goal.next-requires-clause-linked
next-requires-clause-linked c = c.parts.invariant.reads.linked

pub next-requires-clause-some : goal.next-requires-clause-some
next-requires-clause-some c =
    parts_some c.args.graph.now c.parts.graph c.in_ok-counter.counter c.parts._part
    c.parts.invariant (omega (arith, c.parts-test.true, c.requires.count))

pub returns-in_err-next-clause-stops : goal.returns-in_err-next-clause-stops
returns-in_err-next-clause-stops c =
    let o = c.in_err-next.field-0.0 in
    stop_kept c.from_residual-in_err-next.result o
    (StopsLinking (parts_left c.args.graph.now ++ []) c.args.graph.now c.next.new.self)
    c.from_residual-in_err-next.ensures.1
    (stops_parts c.args.graph.now c.parts.graph c.next.new.self c.in_ok-counter.counter
    c.parts._part o c.parts.invariant c.in_err-next.ensures.stops)

pub parts-preserved : goal.parts-preserved
parts-preserved c =
    parts_more c.args.graph.now c.parts.graph c.next.new.self c.in_ok-counter.counter
    c.parts._part _ c.parts.invariant c.in_ok-next.ensures.reads

pub read-to-requires : goal.read-to-requires
read-to-requires c = c.parts.invariant.reads.linked

pub overflow_sub-result : goal.overflow_sub-result
overflow_sub-result c = omega (
  arith,
  c.read-from.ensures,
  c.read-to.ensures,
  ap length c.parts.invariant.reads.on.read,
  length-append (refs c.args.graph.now) c.parts.invariant.front,
)

pub returns-clause-adds : goal.returns-clause-adds
returns-clause-adds c =
    parts_added c.args.owner c.args.kind c.args.counters.now.items _ c.args.graph.now c.parts.graph
    c.in_ok-counter.counter c.parts._part c.args.count c.parts.invariant
    (omega (
      arith,
      c.parts-test.false,
      c.requires.count,
      c.parts.invariant.count,
      ap length c.parts.invariant.parts,
      length-append c.parts.invariant.front (parts_left c.parts.graph),
    ))
    c.requires.count c.in_ok-counter.ensures.counts.0 c.in_ok-counter.ensures.counts.1

pub returns-clause-ended : goal.returns-clause-ended
returns-clause-ended c =
    (parts_all c.args.graph.now c.parts.graph c.in_ok-counter.counter c.parts._part
    c.parts.invariant (omega (
      arith,
      c.parts-test.false,
      c.requires.count,
      c.parts.invariant.count,
      ap length c.parts.invariant.parts,
      length-append c.parts.invariant.front (parts_left c.parts.graph),
    ))).ended

pub returns-clause-arms : goal.returns-clause-arms
returns-clause-arms c = c.parts.invariant.arms

pub returns-clause-parts : goal.returns-clause-parts
returns-clause-parts c =
    parts_there c.args.graph.now c.parts.graph c.in_ok-counter.counter c.parts._part
    c.read-from.result c.read-to.result c.parts.invariant
    (omega (
      arith,
      c.parts-test.false,
      c.requires.count,
      c.parts.invariant.count,
      ap length c.parts.invariant.parts,
      length-append c.parts.invariant.front (parts_left c.parts.graph),
    ))
    c.read-from.ensures c.read-to.ensures

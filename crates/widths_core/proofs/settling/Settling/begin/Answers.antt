use Rattle.std.proofs.Common.{◌≡◌, ◌≢◌, ◌<◌, length, ap, ◌∙◌, sym, arith}
use Rattle.std.proofs.lemmas.List.{get_or_read}
use Rattle.widths_core.specs.declared.counter.Counter.{Counter}
use Rattle.widths_core.specs.Progress.{progress_of, counter_at, no_counter}
use Rattle.widths_core.proofs.Ends.{placed, begins_done, begins_passed, begun, begun_on}
use Rattle.widths_core.proofs.Results.{map_ok}
use Rattle.widths_core.proofs.settling.Settling.begin.Goals as goal
use Rattle.widths_core.proofs.settling.Settling.begin.Goals.{then-counter-eq0+in_ok-complete}
use Rattle.widths_core.proofs.settling.Settling.begin.Goals.{else-counter-eq0}

pub complete-requires : goal.complete-requires
complete-requires c =
    let s = c.counters.self in
    let lt : c.counters.number < length s.counters.items =
    omega (
      arith,
      c.counters-test.true,
      c.len-number-end.ensures,
      c.counters.invariant.consistent.counters,
      c.requires.consistent.counters,
      c.args.self.now.counters.ok.0,
    ) in
    let is : c.index-counter.result.now ≡ counter_at (progress_of s) c.counters.number =
    get_or_read s.counters.items c.counters.number c.index-counter.result.now lt
    c.index-counter.ensures no_counter in
    rw is (placed c.args.graph.now.registry _ (progress_of s) c.counters.number
    c.counters.invariant.consistent lt)

pub counters-preserved : goal.counters-preserved
counters-preserved c =
    let r = c.args.graph.now.registry in
    let s = c.counters.self in
    let lt : c.counters.number < length s.counters.items =
    omega (
      arith,
      c.counters-test.true,
      c.len-number-end.ensures,
      c.counters.invariant.consistent.counters,
      c.requires.consistent.counters,
      c.args.self.now.counters.ok.0,
    ) in
    let is : c.index-counter.result.now ≡ counter_at (progress_of s) c.counters.number =
    get_or_read s.counters.items c.counters.number c.index-counter.result.now lt
    c.index-counter.ensures no_counter in
    elim c.if-counter-eq0.branch [
      | then-counter-eq0+in_ok-complete w ↦
          rw w.self-is (begins_done r (progress_of c.args.self.now) (progress_of s)
          (progress_of w.complete.new.self) c.counters.number lt c.counters.invariant
          (ap (λ (x : Counter). x.left) (sym is) ∙ w.if-counter-eq0.true)
          (rw is at w.in_ok-complete.ensures))
      | else-counter-eq0 w ↦ let some : (counter_at (progress_of s) c.counters.number).left ≢ 0 =
          rw is at w.if-counter-eq0.false in
          rw w.self-is (begins_passed r (progress_of c.args.self.now)
          (progress_of s) c.counters.number
          c.counters.invariant some)
    ]

pub propagate_all-requires : goal.propagate_all-requires
propagate_all-requires c =
    begun c.args.graph.now.registry c.args.graph.now (progress_of c.args.self.now)
    (progress_of c.counters.self) c.counters.number c.requires
    (omega (
      arith,
      c.counters-test.false,
      c.len-number-end.ensures,
      c.counters.invariant.consistent.counters,
      c.requires.consistent.counters,
      c.args.self.now.counters.ok.0,
    )) c.counters.invariant

pub returns-clause-propagates : goal.returns-clause-propagates
returns-clause-propagates c =
    map_ok c.propagate_all.result _ _
    (λ done. begun_on c.args.graph.now.registry c.args.graph.now c.propagate_all.new.graph
    (progress_of c.args.self.now) (progress_of c.counters.self)
    (progress_of c.propagate_all.new.self)
    done c.counters.invariant.follows) c.propagate_all.ensures.propagates

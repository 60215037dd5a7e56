use Rattle.std.proofs.Common.{◌≡◌, ◌<◌, length, ap, ◌∙◌, sym, arith}
use Rattle.std.proofs.lemmas.List.{get_or_read}
use Rattle.widths_core.specs.declared.counter.Counter.{Counter}
use Rattle.widths_core.specs.Progress.{progress_of, counter_at, no_counter}
use Rattle.widths_core.proofs.Ends.{placed, settles_bad_done, settles_bad_passed, bad_settled}
use Rattle.widths_core.proofs.Ends.{bad_settled_on, compacts_all}
use Rattle.widths_core.proofs.Results.{map_ok, on_ok}
use Rattle.widths_core.proofs.settling.Settling.settle_bad_compacts.Goals as goal
use Rattle.widths_core.proofs.settling.Settling.settle_bad_compacts.Goals.{in-Compact+in_ok-settle}
use Rattle.widths_core.proofs.settling.Settling.settle_bad_compacts.Goals.{in_default}

pub settle-requires : goal.settle-requires
settle-requires c =
    let s = c.counters.self in
    let lt : c.counters.number < length s.counters.items =
    omega (
      arith,
      c.counters-test.true,
      c.len-number-end.ensures,
      c.counters.invariant.consistent.counters,
      c.requires.propagated.steady.consistent.counters,
      c.args.self.now.counters.ok.0,
    ) in
    let is : c.index-counter.result.now ≡ counter_at (progress_of s) c.counters.number =
    get_or_read s.counters.items c.counters.number c.index-counter.result.now lt
    c.index-counter.ensures no_counter in
    rw is (placed c.args.graph.now.registry _ (progress_of s) c.counters.number
    c.counters.invariant.consistent lt)

pub counters-preserved : goal.counters-preserved
counters-preserved c =
    let r = c.args.graph.now.registry in
    let s = c.counters.self in
    let lt : c.counters.number < length s.counters.items =
    omega (
      arith,
      c.counters-test.true,
      c.len-number-end.ensures,
      c.counters.invariant.consistent.counters,
      c.requires.propagated.steady.consistent.counters,
      c.args.self.now.counters.ok.0,
    ) in
    let is : c.index-counter.result.now ≡ counter_at (progress_of s) c.counters.number =
    get_or_read s.counters.items c.counters.number c.index-counter.result.now lt
    c.index-counter.ensures no_counter in
    elim c.match-counter.branch [
      | in-Compact+in_ok-settle w ↦
          rw w.self-is (settles_bad_done r c.args.graph.now.looks.listed.entries
          (progress_of c.args.self.now) (progress_of s) (progress_of w.settle.new.self)
          c.counters.number lt
          c.counters.invariant (ap (λ (x : Counter). x.kind) (sym is) ∙ w.in-Compact.is)
          (rw is at w.in_ok-settle.ensures))
      | in_default w ↦ rw w.self-is
          (settles_bad_passed r c.args.graph.now.looks.listed.entries (progress_of c.args.self.now)
          (progress_of s) c.counters.number c.counters.invariant
          (λ e. w.in_default.not-Compact (ap (λ (x : Counter). x.kind) is ∙ e)))
    ]

pub propagate_all-requires : goal.propagate_all-requires
propagate_all-requires c =
    bad_settled c.args.graph.now.registry c.args.graph.now (progress_of c.args.self.now)
    (progress_of c.counters.self) c.args.first c.counters.number c.requires.propagated
    (omega (
      arith,
      c.counters-test.false,
      c.len-number-end.ensures,
      c.counters.invariant.consistent.counters,
      c.requires.propagated.steady.consistent.counters,
      c.args.self.now.counters.ok.0,
    )) c.counters.invariant

pub returns-clause-propagated : goal.returns-clause-propagated
returns-clause-propagated c =
    map_ok c.propagate_all.result _ _
    (λ done. bad_settled_on c.args.graph.now.registry c.args.graph.now.looks.listed.entries
    c.args.graph.now c.propagate_all.new.graph (progress_of c.args.self.now)
    (progress_of c.counters.self) (progress_of c.propagate_all.new.self) c.counters.number done
    c.counters.invariant) c.propagate_all.ensures.propagates

pub returns-clause-compacts : goal.returns-clause-compacts
returns-clause-compacts c =
    on_ok c.propagate_all.result _ _
    (λ done h. compacts_all c.args.graph.now.registry c.args.graph.now.looks.listed.entries
    (progress_of c.args.self.now) (progress_of c.counters.self)
    (progress_of c.propagate_all.new.self)
    c.counters.number (omega (
      arith,
      c.counters-test.false,
      c.len-number-end.ensures,
      c.counters.invariant.consistent.counters,
      c.requires.propagated.steady.consistent.counters,
      c.args.self.now.counters.ok.0,
    )) c.counters.invariant h.follows) c.propagate_all.ensures.propagates

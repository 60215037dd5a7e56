use Rattle.std.proofs.Common.{◌≡◌, ◌<◌, List, length, get_or, sym, subst, arith}
use Rattle.std.proofs.lemmas.List.{get_or_read}
use Rattle.types_core.specs.declared.type_info.TypeInfo.{TypeInfo}
use Rattle.widths_core.specs.Progress.{progress_of}
use Rattle.widths_core.specs.Propagation.{IsPending, Propagates}
use Rattle.widths_core.proofs.PropagatesOne.{pending_is, so_far_more}
use Rattle.widths_core.proofs.settling.Settling.propagate_all.Goals as goal

pub propagate-requires : goal.propagate-requires
propagate-requires c =
    let d = c.propagated.graph in
    let s = c.propagated.self in
    let propagated = c.propagated.invariant.propagated in
    let lt : c.propagated.done < length s.settled.items =
    omega (arith, c.propagated-test.true, c.len.ensures, s.settled.ok.0) in
    let is : c.index-propagated.result.now ≡ get_or s.settled.items c.propagated.done 0 =
    get_or_read s.settled.items c.propagated.done c.index-propagated.result.now lt
    c.index-propagated.ensures 0 in
    rw is (subst (λ (q : List TypeInfo). IsPending q d (progress_of s)
    (get_or s.settled.items c.propagated.done 0)) (sym propagated.steady.ready.types)
    (pending_is c.args.graph.now.registry d (progress_of s) c.propagated.done propagated lt))

pub propagated-preserved : goal.propagated-preserved
propagated-preserved c =
    let d = c.propagated.graph in
    let s = c.propagated.self in
    let propagated = c.propagated.invariant.propagated in
    let lt : c.propagated.done < length s.settled.items =
    omega (arith, c.propagated-test.true, c.len.ensures, s.settled.ok.0) in
    let is : c.index-propagated.result.now ≡ get_or s.settled.items c.propagated.done 0 =
    get_or_read s.settled.items c.propagated.done c.index-propagated.result.now lt
    c.index-propagated.ensures 0 in
    let propagates = rw is at c.in_ok-propagate.ensures.propagates in
    so_far_more c.args.graph.now.registry c.args.graph.now d c.propagate.new.graph
    (progress_of c.args.self.now) (progress_of s) (progress_of c.propagate.new.self)
    c.propagated.done
    c.propagated.invariant lt
    (subst (λ (q : List TypeInfo). Propagates q d c.propagate.new.graph (progress_of s)
    (progress_of c.propagate.new.self) (get_or s.settled.items c.propagated.done 0))
    propagated.steady.ready.types propagates)

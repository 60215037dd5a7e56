use Rattle.std.proofs.Common.{◌≡◌, None, ap, ◌∙◌, arith}
use Rattle.std.proofs.lemmas.List.{get_or_read}
use Rattle.widths_core.specs.declared.class.Class.TheVariants as class
use Rattle.widths_core.specs.declared.type_step.TypeStep.TheVariants as step
use Rattle.widths_core.specs.ClassTables.{known_class, known_target}
use Rattle.widths_core.specs.Completing.{is_byte_step, step_at}
use Rattle.widths_core.specs.Progress.{progress_of}
use Rattle.widths_core.proofs.PropagatesOne.{pending-lt, propagates_first, next_at, propagates_at}
use Rattle.widths_core.proofs.settling.Settling.propagate.Goals as goal

pub references-init : goal.references-init
references-init c =
    let r = c.args.graph.now.registry in
    let s = c.args.self.now in
    let lt = pending-lt r c.args.graph.now (progress_of s) c.args.propagated c.requires in
    let st = c.requires.steady.consistent in
    let f : c.index.result.now ≡ known_class s.classes.items c.args.propagated =
    get_or_read s.classes.items c.args.propagated c.index.result.now
    (omega (arith, lt, st.classes)) c.index.ensures class.NoValue in
    let m : c.index-2.result.now ≡ known_target s.targets.items c.args.propagated =
    get_or_read s.targets.items c.args.propagated c.index-2.result.now
    (omega (arith, lt, st.targets)) c.index-2.ensures None in
    let b : c.is_byte-byte.result ≡ is_byte_step (step_at s.steps.items c.args.propagated) =
    c.is_byte-byte.ensures ∙ ap is_byte_step (get_or_read s.steps.items c.args.propagated
    c.index-3.result.now (omega (arith, lt, st.steps)) c.index-3.ensures step.NoValue) in
    propagates_first r c.args.graph.now (progress_of s) c.args.propagated _ _ c.newest-at.result
    c.requires f m b c.newest-at.ensures

pub settle_part-requires-clause-number : goal.settle_part-requires-clause-number
settle_part-requires-clause-number c =
    let it = next_at c.args.graph.now.registry c.args.graph.now c.references.graph
    (progress_of c.args.self.now) (progress_of c.references.self) c.args.propagated
    _ _ c.references.at
    c.references.invariant c.references-test.true in
    rw (c.link-link.ensures.counter ∙ it.number) it.counter

pub settle_part-requires-clause-owner : goal.settle_part-requires-clause-owner
settle_part-requires-clause-owner c =
    let it = next_at c.args.graph.now.registry c.args.graph.now c.references.graph
    (progress_of c.args.self.now) (progress_of c.references.self) c.args.propagated
    _ _ c.references.at
    c.references.invariant c.references-test.true in
    rw (c.link-link.ensures.counter ∙ it.number) it.owner

pub settle_part-requires-clause-left : goal.settle_part-requires-clause-left
settle_part-requires-clause-left c =
    let it = next_at c.args.graph.now.registry c.args.graph.now c.references.graph
    (progress_of c.args.self.now) (progress_of c.references.self) c.args.propagated
    _ _ c.references.at
    c.references.invariant c.references-test.true in
    rw (c.link-link.ensures.counter ∙ it.number) it.left

pub references-preserved : goal.references-preserved
references-preserved c =
    let r = c.args.graph.now.registry in
    let it = next_at r c.args.graph.now c.references.graph (progress_of c.args.self.now)
    (progress_of c.references.self) c.args.propagated _ _ c.references.at c.references.invariant
    c.references-test.true in
    propagates_at r c.args.graph.now c.references.graph c.link-link.new.self
    (progress_of c.args.self.now) (progress_of c.references.self)
    (progress_of c.settle_part.new.self)
    c.args.propagated _ _ c.references.at c.link-link.result.before c.references.invariant
    c.references-test.true c.link-link.ensures.listed
    (rw (c.link-link.ensures.counter ∙ it.number) at c.in_ok-settle_part.ensures)
    c.link-link.ensures.before

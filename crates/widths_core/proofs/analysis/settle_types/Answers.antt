use Rattle.std.proofs.Common.{◌≡◌, List, sym, subst, ◌∙◌}
use Rattle.types_core.specs.declared.type_info.TypeInfo.{TypeInfo}
use Rattle.widths_core.specs.Progress.{progress_of}
use Rattle.widths_core.specs.Propagation.{IsBad, PropagatesAll, AreCompactsSettled}
use Rattle.widths_core.proofs.PartsOf.{all_references}
use Rattle.widths_core.proofs.Complete.{start, bad, types_linked_checked, listed_once}
use Rattle.widths_core.proofs.StepsOf.{table_all}
use Rattle.widths_core.proofs.analysis.settle_types.Goals as goal

pub begin-requires : goal.begin-requires
begin-requires c =
    let x = c.args.read.linked in
    let is = rw c.count.ensures at c.in_ok-settling.ensures in
    start c.args.graph.now.registry x.counters.items x.steps.items x.rows c.args.graph.now
    (progress_of c.in_ok-settling.settling) c.requires.linked c.requires.drafts is

pub settle_bad_compacts-requires-clause-bad : goal.settle_bad_compacts-requires-clause-bad
settle_bad_compacts-requires-clause-bad c =
    let r = c.args.graph.now.registry in
    let propagated = c.in_ok-done.ensures.propagates in
    subst (λ (q : List TypeInfo). IsBad q (progress_of c.begin.new.self))
    (sym propagated.propagated.steady.ready.types)
    (bad r c.args.graph.now c.begin.new.graph (progress_of c.in_ok-settling.settling)
    (progress_of c.begin.new.self) c.in_ok-done.done propagated)

pub returns-clause-analysed : goal.returns-clause-analysed
returns-clause-analysed c =
    let r = c.args.graph.now.registry in
    let linked = c.requires.linked in
    let propagated = c.in_ok-done.ensures.propagates in
    let ended = c.in_ok-settle_bad_compacts.ensures.propagated in
    let same : c.begin.new.graph.registry ≡ r = propagated.propagated.steady.ready.types in
    let all : PropagatesAll r c.begin.new.graph c.settle_bad_compacts.new.graph
    (progress_of c.begin.new.self) (progress_of c.settle_bad_compacts.new.self)
    c.in_ok-settle_bad_compacts.field-0 =
    subst (λ (q : List TypeInfo). PropagatesAll q c.begin.new.graph
    c.settle_bad_compacts.new.graph (progress_of c.begin.new.self)
    (progress_of c.settle_bad_compacts.new.self) c.in_ok-settle_bad_compacts.field-0) same ended in
    let compacts : AreCompactsSettled r (progress_of c.settle_bad_compacts.new.self) =
    subst (λ (q : List TypeInfo). AreCompactsSettled q
    (progress_of c.settle_bad_compacts.new.self)) same
    c.in_ok-settle_bad_compacts.ensures.compacts in
    let ready = all.propagated.steady.ready in
    let opened = all.lists.opened ∙ propagated.lists.opened in
    record {
      settled = record {
        checked = types_linked_checked r c.args.read.linked.counters.items c.args.graph.now linked;
        types = ready.types;
        table = rw c.finish.ensures.rows (table_all r c.begin.new.graph
            c.settle_bad_compacts.new.graph (progress_of c.begin.new.self)
            (progress_of c.settle_bad_compacts.new.self) c.in_ok-settle_bad_compacts.field-0
            c.finish.new.self.steps.items c.settle_bad_compacts.new.graph.members.items all
            compacts c.finish.ensures.steps
            (ready.linked.members ∙ ready.read ∙ all_references r));
        looks = record {
          types = λ t. rw opened (linked.opened t);
          seen = λ t lt. rw opened (linked.seen t lt);
          read = ready.read ∙ all_references r;
          listed = listed_once r c.begin.new.graph c.settle_bad_compacts.new.graph
              (progress_of c.begin.new.self) (progress_of c.settle_bad_compacts.new.self)
              c.in_ok-settle_bad_compacts.field-0 all;
        };
      };
      widest_is = c.requires.widest_is;
    }

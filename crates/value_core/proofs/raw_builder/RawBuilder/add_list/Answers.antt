use Rattle.std.proofs.Common.{subst, sym}
use Rattle.grammar_core.specs.Preorder.{branch}
use Rattle.grammar_core.specs.Tree.{list}
use Rattle.value_core.specs.Built.{IsNextOpen}
use Rattle.node_core.specs.Remaining.{left_of}
use Rattle.value_core.specs.Opened.{OpensElements}
use Rattle.value_core.specs.Walked.{Walked}
use Rattle.value_core.proofs.NextOpen.{list_next}
use Rattle.value_core.proofs.raw_builder.RawBuilder.add_list.Goals as goal

pub add_open-requires-clause-next : goal.add_open-requires-clause-next
add_open-requires-clause-next g c =
    let w = c.args.self.now.walk in
    let part = left_of w.types c.elements-left.result in
    let opens : OpensElements w c.args.count part =
    subst (λ (v : Walked). OpensElements v c.args.count (left_of v.types c.elements-left.result))
    c.walk.ensures.same c.elements-left.ensures.opens in
    subst (λ n. IsNextOpen w (branch list n) part) (sym c.elements-left.ensures.counts)
    (list_next w c.args.count part c.ranges.count.fits c.requires.next opens)

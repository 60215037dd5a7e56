use Rattle.std.proofs.Common.{◌≡◌, subst}
use Rattle.grammar_core.specs.Parts.{how_many_left}
use Rattle.grammar_core.specs.Preorder.{branch}
use Rattle.grammar_core.specs.Tree.{fields}
use Rattle.value_core.specs.Built.{IsNextOpen}
use Rattle.node_core.specs.Remaining.{left_of}
use Rattle.value_core.specs.Opened.{OpensFields}
use Rattle.value_core.specs.Walked.{Walked}
use Rattle.value_core.proofs.NextOpen.{fields_next}
use Rattle.value_core.proofs.raw_builder.RawBuilder.add_fields.Goals as goal

pub add_open-requires-clause-next : goal.add_open-requires-clause-next
add_open-requires-clause-next g c =
    let w = c.args.self.now.walk in
    let part = left_of w.types c.fields-left.result in
    let counted : how_many_left part ≡ c.fields-left.result.count =
    subst (λ (v : Walked). how_many_left (left_of v.types c.fields-left.result)
    ≡ c.fields-left.result.count) c.walk.ensures.same c.fields-left.ensures.counts in
    let opens : OpensFields w part =
    subst (λ (v : Walked). OpensFields v (left_of v.types c.fields-left.result))
    c.walk.ensures.same c.fields-left.ensures.opens in
    subst (λ n. IsNextOpen w (branch fields n) part) counted
    (fields_next w part c.requires.next opens)

use Rattle.std.proofs.Common.{◌≡◌, [], subst}
use Rattle.value_core.specs.Walked.{next_of}
use Rattle.value_core.proofs.NextLeaf.{empty_next}
use Rattle.grammar_core.specs.declared.form.Form.{Form}
use Rattle.grammar_core.specs.declared.form.Next.TheVariants as next
use Rattle.machine_core.proofs.steps.LengthAdding.{array_read, bytes_added, empty_read}
use Rattle.machine_core.proofs.steps.LengthAdding.{fields_read}
use Rattle.machine_core.proofs.steps.FormSplits.{bare_empty}
use Rattle.machine_core.proofs.node.add_bare.Goals as goal

pub add_leaf-requires-clause-next : goal.add_leaf-requires-clause-next
add_leaf-requires-clause-next g c =
    let is = bare_empty c.args.form c.requires.bare c.in_default.not-Fields
    c.in_default.not-Array in
    empty_next c.args.builder.now.walk
    (subst (λ (f : Form). next_of c.args.builder.now.walk ≡ next.Wants f) is c.requires.next)

pub returns-in_default : goal.returns-in_default
returns-in_default g c =
    let is = bare_empty c.args.form c.requires.bare c.in_default.not-Fields
    c.in_default.not-Array in
    bytes_added c.args.builder.now c.add_leaf.new.self [] _ c.add_leaf.result
    (empty_read c.args.builder.now
    (subst (λ (f : Form). next_of c.args.builder.now.walk ≡ next.Wants f) is c.requires.next))
    c.add_leaf.ensures.ok c.add_leaf.ensures.err

pub returns-in-Fields : goal.returns-in-Fields
returns-in-Fields g c =
    bytes_added c.args.builder.now c.add_fields.new.self [] _ c.add_fields.result
    (fields_read c.args.builder.now
    (subst (λ (f : Form). next_of c.args.builder.now.walk ≡ next.Wants f) c.in-Fields.is
    c.requires.next)) c.add_fields.ensures.ok c.add_fields.ensures.err

pub returns-in-Array : goal.returns-in-Array
returns-in-Array g c =
    bytes_added c.args.builder.now c.add_list.new.self [] _ c.add_list.result
    (array_read c.args.builder.now c.in-Array.length
    (subst (λ (f : Form). next_of c.args.builder.now.walk ≡ next.Wants f) c.in-Array.is
    c.requires.next)) c.add_list.ensures.ok c.add_list.ensures.err

use Rattle.std.proofs.Common.{Ok, refl, subst, sym}
use Rattle.node_core.specs.declared.leaf.Leaf.TheVariants as leaf
use Rattle.form_core.specs.Needs.{AreOwn}
use Rattle.form_core.specs.NodeForms.{form_of_plain}
use Rattle.form_core.specs.PlainReads.{ReadsPlain}
use Rattle.form_core.specs.declared.forms.PlainForm.{PlainForm}
use Rattle.form_core.proofs.PlainReads.{compact_reads, wide_reads}
use Rattle.form_core.proofs.plain.read_plain.Goals as goal

pub returns-in-Wide-clause-reads : goal.returns-in-Wide-clause-reads
returns-in-Wide-clause-reads c =
    let own = c.args.own.now in
    let whole = subst (λ (p : PlainForm). AreOwn (form_of_plain p) own) c.in-Wide.is c.requires in
    subst (λ (p : PlainForm). ReadsPlain p own (Ok (leaf.Wide c.args.own))) (sym c.in-Wide.is)
    (wide_reads c.in-Wide.field-0 own (leaf.Wide c.args.own) whole refl)

pub returns-in_ok-read_compact-in-Compact-clause-reads :
    goal.returns-in_ok-read_compact-in-Compact-clause-reads
returns-in_ok-read_compact-in-Compact-clause-reads c =
    let own = c.args.own.now in
    let n = c.in_ok-read_compact-in-Compact.field-0.0 in
    subst (λ (p : PlainForm). ReadsPlain p own (Ok (leaf.Compact n))) (sym c.in-Compact.is)
    (compact_reads c.in-Compact.target own n c.in_ok-read_compact-in-Compact.field-0.1
    c.in_ok-read_compact-in-Compact.ensures.reads)

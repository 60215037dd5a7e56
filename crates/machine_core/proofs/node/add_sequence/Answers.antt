use Rattle.std.proofs.lemmas.Result.{err_from_is_err_and}
use Rattle.grammar_core.specs.Reading.{basic}
use Rattle.grammar_core.specs.declared.form.Form.TheVariants as form
use Rattle.machine_core.proofs.steps.LengthAdding.{list_all, list_refused}
use Rattle.machine_core.proofs.steps.NodeAdding.{node_refused}
use Rattle.machine_core.proofs.node.add_sequence.Goals as goal

pub returns-in_err-length : goal.returns-in_err-length
returns-in_err-length g c =
    let p = err_from_is_err_and c.from_residual.result c.from_residual.ensures.1 in
    let f = c.in_err-length.field-0.0 in
    rw p.1 (node_refused form.Sequence c.args.builder.now c.args.own.now (basic f.reason) f.at p.0
    c.requires.next tt tt c.requires.whole
    (list_refused c.args.builder.now c.args.own.now f.reason f.at c.requires.next
    c.in_err-length.ensures) p.2)

pub returns-in_err-add_list : goal.returns-in_err-add_list
returns-in_err-add_list g c =
    let p = err_from_is_err_and c.from_residual-in_err-add_list.result
    c.from_residual-in_err-add_list.ensures.1 in
    rw (p.1, p.2) (
      (
        _,
        list_all c.args.builder.now c.args.own.now c.in_ok-length.length c.requires.next
            c.requires.whole c.in_ok-length.ensures,
      ),
      c.in_err-add_list.ensures.err,
    )

pub returns : goal.returns
returns g c = (
  _,
  list_all c.args.builder.now c.args.own.now c.in_ok-length.length c.requires.next
      c.requires.whole c.in_ok-length.ensures,
  c.in_ok-add_list.ensures.ok,
)

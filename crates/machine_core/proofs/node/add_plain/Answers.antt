use Rattle.std.proofs.Common.{arith}
use Rattle.std.proofs.lemmas.Result.{err_from_is_err_and}
use Rattle.scale_core.proofs.ReadModes.{are_bytes}
use Rattle.machine_core.proofs.steps.PlainAdding.{plain_added, plain_next, plain_refused}
use Rattle.machine_core.proofs.steps.PlainAdding.{plain_spelled}
use Rattle.machine_core.proofs.node.add_plain.Goals as goal

pub returns-in_err-leaf : goal.returns-in_err-leaf
returns-in_err-leaf g c =
    let p = err_from_is_err_and c.from_residual.result c.from_residual.ensures.1 in
    rw p.1 (plain_refused c.args.builder.now c.args.form c.args.own.now c.in_err-leaf.field-0.0 p.0
    c.requires.next c.requires.whole c.in_err-leaf.ensures.reads p.2)

pub add_leaf-requires-clause-next : goal.add_leaf-requires-clause-next
add_leaf-requires-clause-next g c =
    plain_next c.args.builder.now c.args.form c.args.own.now c.in_ok-leaf.leaf
    (are_bytes c.args.own.now (λ i. omega (arith, c.type_inv.own i))) c.requires.next
    c.requires.whole c.in_ok-leaf.ensures.reads

pub returns-in_err-add_leaf : goal.returns-in_err-add_leaf
returns-in_err-add_leaf g c =
    let p = err_from_is_err_and c.from_residual-in_err-add_leaf.result
    c.from_residual-in_err-add_leaf.ensures.1 in
    rw (p.1, p.2) (
      plain_spelled c.args.builder.now c.args.form c.args.own.now c.in_ok-leaf.leaf
          c.requires.next c.requires.whole c.in_ok-leaf.ensures.reads,
      c.in_err-add_leaf.ensures.err,
    )

pub returns : goal.returns
returns g c =
    plain_added c.args.builder.now c.add_leaf.new.self c.args.form c.args.own.now c.in_ok-leaf.leaf
    c.requires.next c.requires.whole c.in_ok-leaf.ensures.reads c.in_ok-add_leaf.ensures.ok

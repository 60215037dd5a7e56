use Rattle.std.proofs.Common.{arith}
use Rattle.form_core.specs.NodeForms.{form_of_plain}
use Rattle.form_core.proofs.Firsts.{whole_front}
use Rattle.form_core.proofs.fronts.PlainFormLeafForm.leaf_at_front.Goals as goal

pub read_plain-requires : goal.read_plain-requires
read_plain-requires c =
    let len = c.need-len in
    whole_front (form_of_plain c.args.self) c.args.piece.now len.result len.ensures.exact
    len.ensures.some (omega (arith, c.if-piece-len.false))

pub returns-clause-whole : goal.returns-clause-whole
returns-clause-whole c =
    let len = c.need-len in (
      whole_front (form_of_plain c.args.self) c.args.piece.now len.result len.ensures.exact
          len.ensures.some (omega (arith, c.if-piece-len.false)),
      c.in-Ok.ensures.reads,
    )

use Rattle.std.proofs.Common.{arith}
use Rattle.scale_core.proofs.ReadModes.{are_bytes}
use Rattle.form_core.proofs.WholeCompacts.{short_len, short_read}
use Rattle.form_core.proofs.compacts.short_mode.Goals as goal

pub overflow_sub-number : goal.overflow_sub-number
overflow_sub-number c = short_len _ (omega arith) c.if-mark-eq3.false

pub returns : goal.returns
returns c = λ m wide.
    short_read m c.args.piece.now c.in-Ok.word c.in-Ok.field-0-1
    (are_bytes c.args.piece.now (λ i. omega (arith, c.type_inv.piece i))) c.in-Ok.ensures
    c.if-mark-eq3.false c.if-number-mark.false wide

use Rattle.std.proofs.Common.{arith, refl}
use Rattle.record_core.proofs.Adds.{signed_adds}
use Rattle.record_core.proofs.replaying.add_scalar.Goals as goal

pub returns-in-4 : goal.returns-in-4
returns-in-4 g c = signed_adds c.args.node.now c.args.builder.now c.signed.new.self
    c.signed.result
    c.number-in-4.result c.cast_signed.result _ c.in-4.is c.number-in-4.ensures
    (omega (arith, c.number-in-4.type_inv)) c.cast_signed.ensures refl c.signed.ensures

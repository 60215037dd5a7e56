use Rattle.scaleview_c.proofs.Ended.{ended_by}
use Rattle.scaleview_c.proofs.session.Stage.ended.Goals as goal

pub returns-in-Err : goal.returns-in-Err
returns-in-Err c = rw (c.in-Decoding.is, c.from.ensures) (λ b led.
    ended_by c.in-Err.fault.reason c.in-Decoding.decoder.query b c.in-Err.fault
    (c.in-Err.ensures.finishes b led))

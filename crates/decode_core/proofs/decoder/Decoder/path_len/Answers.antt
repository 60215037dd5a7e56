use Rattle.std.proofs.Common.{subst, sym}
use Rattle.value_core.specs.OpenNodes.{HasPath}
use Rattle.decode_core.specs.Decoding.{Decoding}
use Rattle.decode_core.specs.Paths.{PathLed, RunPath}
use Rattle.decode_core.specs.Viewed.{job_within}
use Rattle.decode_core.proofs.calls.Inside.{led_to_run}
use Rattle.decode_core.proofs.calls.Leading.{run_path}
use Rattle.decode_core.proofs.decoder.Decoder.path_len.Goals as goal

pub returns-in-Ok-clause-led : goal.returns-in-Ok-clause-led
returns-in-Ok-clause-led g c = λ b led.
    let d = c.self.inside in
    let j = job_within d in
    let path = run_path j b d.taken c.in-Ok.run'
    (led_to_run d c.args.self.now c.in-Ok.run' b c.self.view_is c.in-Ok.is led)
    (subst HasPath c.builder.ensures c.path_len.ensures.path) in
    subst (λ (x : Decoding). PathLed x b) c.self.view_is
    (subst (RunPath j b) (sym c.in-Ok.is) path)

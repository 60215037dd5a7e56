use Rattle.std.proofs.Common.{◌≤◌, ap, arith, subst}
use Rattle.decode_core.specs.Decoding.{Decoding}
use Rattle.value_core.specs.Built.{built_text_bytes}
use Rattle.decode_core.proofs.calls.Inside.{small_inside}
use Rattle.decode_core.proofs.decoder.Decoder.text_bytes.Goals as goal

pub returns-in-Ok-clause-bound : goal.returns-in-Ok-clause-bound
returns-in-Ok-clause-bound g c =
    let d = c.self.inside in
    let small = small_inside d _ c.self.invariant c.in-Ok.is in
    let few : c.text_bytes.result ≤ d.taken = omega (
      arith,
      small.texts,
      c.text_bytes.ensures.count,
      ap built_text_bytes c.builder.ensures,
    ) in
    subst (λ (x : Decoding). c.text_bytes.result ≤ x.taken) c.self.view_is few

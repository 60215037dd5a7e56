use Rattle.std.proofs.Common.{arith, refl}
use Rattle.std.proofs.lemmas.Bool.{ne_eqb}
use Rattle.scale_core.proofs.boolean.read_bool.Goals as goal

pub returns-in_default : goal.returns-in_default
returns-in_default c =
    let byte = c.in_ok-byte.byte in (
      c.args.bytes.now,
      rw (
        c.in_ok-byte.ensures.1,
        ne_eqb byte 0 (λ e. omega arith),
        ne_eqb byte 1 (λ e. omega arith),
      ) refl,
      omega arith,
    )

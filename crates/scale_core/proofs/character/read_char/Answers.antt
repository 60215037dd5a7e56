use Rattle.std.proofs.Common.{arith, refl}
use Rattle.scale_core.proofs.Characters.{out_of_range}
use Rattle.scale_core.proofs.character.read_char.Goals as goal

pub returns-in-None : goal.returns-in-None
returns-in-None c = (
  c.args.bytes.now,
  rw (c.in_ok-code.ensures.1, out_of_range _ c.in-None.ensures.cases) refl,
  omega arith,
)

use Rattle.std.proofs.Common.{◌*◌}
use Rattle.token_core.proofs.Hexadecimal.{AreDigits}
use Rattle.token_core.proofs.digits.place_hex.Given as goal

abbrev pub invariant-turns : goal.invariant-turns
invariant-turns l = AreDigits l.bytes l.fn.buffer l.buffer l.at (16 * l.block)

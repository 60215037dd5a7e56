use Rattle.token_core.specs.Digits.{bit_digits}
use Rattle.token_core.specs.Places.{OnlyPlaced}
use Rattle.token_core.proofs.digits.place_bits.Given as goal

-- the digits of the bits so far were written
abbrev pub invariant-bits : goal.invariant-bits
invariant-bits l = OnlyPlaced l.fn.buffer l.buffer l.at (bit_digits l.form l.bytes l.bit) l.end

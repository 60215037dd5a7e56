use Rattle.std.proofs.Common.{◌≡◌, ◌++◌}
use Rattle.std.specs.Prelude.{codes, string_bytes}
use Rattle.token_core.specs.Digits.{bit_digits}
use Rattle.json_core.proofs.bits.bits_text.Given as goal

abbrev pub invariant-bits : goal.invariant-bits
invariant-bits l = string_bytes l.text ≡ codes "0b" ++ bit_digits l.form l.bytes l.bit

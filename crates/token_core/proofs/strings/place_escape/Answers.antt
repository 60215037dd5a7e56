use Rattle.std.proofs.Common.{rules}
use Rattle.json.specs.Print.{escape_byte}
use Rattle.token_core.proofs.strings.place_escape.Goals as goal

pub returns-then-letter-gt0-clause-placed : goal.returns-then-letter-gt0-clause-placed
unfolding escape_byte
returns-then-letter-gt0-clause-placed c = search rules

pub returns-then-byte-lt32-clause-placed : goal.returns-then-byte-lt32-clause-placed
unfolding escape_byte
returns-then-byte-lt32-clause-placed c = search rules

pub returns-clause-placed : goal.returns-clause-placed
unfolding escape_byte
returns-clause-placed c = search rules

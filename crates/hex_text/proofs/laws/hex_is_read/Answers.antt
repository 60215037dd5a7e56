use Rattle.hex_text.proofs.HexDigits.{hex_is_read}
use Rattle.hex_text.proofs.laws.hex_is_read.Goals as goal

pub returns : goal.returns
returns c = hex_is_read

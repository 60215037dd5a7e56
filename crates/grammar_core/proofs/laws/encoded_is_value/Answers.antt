use Rattle.grammar_core.proofs.Spelled as law
use Rattle.grammar_core.proofs.laws.encoded_is_value.Goals as goal

pub returns : goal.returns
returns c = law.encoded_is_value

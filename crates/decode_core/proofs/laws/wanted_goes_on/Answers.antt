use Rattle.decode_core.proofs.calls.Wanted as law
use Rattle.decode_core.proofs.laws.wanted_goes_on.Goals as goal

pub returns : goal.returns
returns c = law.wanted_goes_on

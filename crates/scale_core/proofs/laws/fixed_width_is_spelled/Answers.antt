use Rattle.scale_core.proofs.Numbers.{number_is_spelled, signed_is_spelled}
use Rattle.scale_core.proofs.laws.fixed_width_is_spelled.Goals as goal

pub returns-clause-unsigned : goal.returns-clause-unsigned
returns-clause-unsigned c = number_is_spelled

pub returns-clause-signed : goal.returns-clause-signed
returns-clause-signed c = signed_is_spelled

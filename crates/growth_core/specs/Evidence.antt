-- The evidence that an allocation failed has one value.
use Rattle.growth_core.specs.declared.refused.Refused.{Refused}

abbrev pub evidence : Refused
evidence = record { only_here = tt }

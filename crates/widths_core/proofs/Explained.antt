-- The fault of a registry explains itself.
use Rattle.std.specs.Prelude.{List}
use Rattle.types_core.specs.declared.type_info.TypeInfo.{TypeInfo}
use Rattle.graph_core.specs.declared.fault.CheckFault.{CheckFault}
use Rattle.graph_core.specs.declared.fault.CheckFault.TheVariants as fault
use Rattle.graph_core.specs.References.{first_fault}
use Rattle.graph_core.proofs.FirstFault.{fault_is_first}
use Rattle.graph_core.specs.Stops.{IsFaultOf}
use Rattle.widths_core.specs.Checks.{Explains}

-- the fault that is reported explains itself
pub explains : (r : List TypeInfo) (f : CheckFault) → IsFaultOf f (first_fault r) → Explains r f
explains r (fault.UnknownType from to) h = ((fault_is_first r).2 from.0 to.0).0 h
explains r (fault.TooLarge _) h = (fault_is_first r).0 h
explains r (fault.OutOfMemory _) h = (fault_is_first r).0 h

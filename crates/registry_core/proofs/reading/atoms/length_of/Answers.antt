use Rattle.scale_core.specs.Read.{compact_at}
use Rattle.scale_core.specs.declared.compact.Target.TheVariants.{U32}
use Rattle.registry_core.proofs.Places.{stops_at}
use Rattle.registry_core.proofs.Inside.{compact_inside}
use Rattle.registry_core.proofs.reading.atoms.length_of.Goals as goal

pub returns-in-Err : goal.returns-in-Err
returns-in-Err c = stops_at c.args.bytes.now c.in-Err.fault (compact_at U32 c.args.bytes.now)
    c.at_fault.result (compact_inside c.args.bytes.now) c.in-Err.ensures.reads c.at_fault.ensures

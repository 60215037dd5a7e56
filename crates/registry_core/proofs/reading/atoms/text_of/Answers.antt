use Rattle.scale_core.specs.Read.{text_at}
use Rattle.registry_core.proofs.Places.{stops_at}
use Rattle.registry_core.proofs.Inside.{text_inside}
use Rattle.registry_core.proofs.reading.atoms.text_of.Goals as goal

pub returns-in-Err : goal.returns-in-Err
returns-in-Err c = stops_at c.args.bytes.now c.in-Err.fault (text_at c.args.bytes.now)
    c.at_fault.result (text_inside c.args.bytes.now) c.in-Err.ensures.reads c.at_fault.ensures

-- How the faults of a value are printed.
use Rattle.std.specs.Prelude.{ℕ, List, ◌++◌, codes, decimal}
use Rattle.decode_core.specs.declared.fault.DecodeFault.{DecodeFault}
use Rattle.decode_core.specs.declared.fault.OpenFault.{OpenFault}
use Rattle.decode_core.specs.declared.fault.OpenFault.TheVariants as opening
use Rattle.decode_core.specs.declared.stream.StreamFault.{StreamFault}
use Rattle.decode_core.specs.declared.stream.StreamFault.TheVariants as stream
use Rattle.machine_core.specs.Reasons.{reason_name}

-- a fault's reason and place
abbrev pub fault_text : DecodeFault → List ℕ
fault_text fault = reason_name fault.reason ++ (codes " at " ++ decimal fault.at)

-- the name of why no decoder is made
abbrev pub open_fault_name : OpenFault → List ℕ
open_fault_name opening.UnknownType = codes "UnknownType"
open_fault_name opening.LimitOutOfRange = codes "LimitOutOfRange"
open_fault_name (opening.OutOfMemory _) = codes "OutOfMemory"

-- why a reader's bytes are not a value: the fault's text, or a name and a place
abbrev pub stream_fault_text : StreamFault → List ℕ
stream_fault_text (stream.Open fault) = open_fault_name fault
stream_fault_text (stream.Decode fault) = fault_text fault
stream_fault_text (stream.TrailingBytes at) = codes "TrailingBytes at " ++ decimal at
stream_fault_text stream.Device = codes "Device"

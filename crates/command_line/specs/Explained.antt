-- What is reported if no job begins: about a command line that names none, with its status, and
-- about a file that doesn't open.
use Rattle.std.specs.Prelude.{◌≡◌, ◌≢◌, ℕ, ◌⊎◌, List, [], codes, string_bytes}
use Rattle.clap.specs.Words.{HasKind, Text, fault_of, kind_of, subcommand_of}
use Rattle.clap.specs.declared.error.Error.{Error}
use Rattle.clap.specs.declared.error.kind.ErrorKind.TheVariants.{DisplayHelp, DisplayVersion}
use Rattle.clap.specs.declared.error.kind.ErrorKind.TheVariants.{OutOfMemory}
use Rattle.command_line.specs.Line.{NamesNone, line}
use Rattle.command_line.specs.declared.device.Device.{Device}
use Rattle.command_line.specs.declared.device.Device.TheVariants as device
use Rattle.command_line.specs.declared.jobs.JobFault.{JobFault}
use Rattle.command_line.specs.declared.jobs.JobFault.TheVariants as fault

-- the line is wrong, and asks neither for help nor for the version
abbrev pub IsMistake : Error → Type 0
IsMistake e = (kind_of e ≢ DisplayHelp) × (kind_of e ≢ DisplayVersion)

-- 2 for a mistake; otherwise 0 if the requested text was written, and 3 if it couldn't be
abbrev pub IsStatusOfLine : Error → ℕ → Type 0
IsStatusOfLine e status = ((status ≡ 2) × IsMistake e)
    ⊎ (((status ≡ 0) ⊎ (status ≡ 3)) × (IsMistake e → ⊥))

-- the status that each fault has
abbrev pub IsStatusOf : JobFault → ℕ → Type 0
IsStatusOf (fault.Line e text) status = IsStatusOfLine e status
IsStatusOf fault.Usage status = status ≡ 2
IsStatusOf (fault.Memory _) status = status ≡ 4

-- what is reported about it: the text of `clap`, or one line
abbrev pub reported_text : JobFault → List ℕ
reported_text (fault.Line e text) = string_bytes text
reported_text fault.Usage = codes "scaleview: usage\n"
reported_text (fault.Memory _) = codes "scaleview: memory\n"

-- why the words are rejected: with one of the errors that `clap` has for them, except an allocation
-- failure; or `clap` has none and they name no job
abbrev pub IsFaultOfWords : List Text → JobFault → Type 0
IsFaultOfWords words (fault.Line e text) = HasKind (fault_of line words) e
    × (kind_of e ≢ OutOfMemory)
IsFaultOfWords words fault.Usage = (fault_of line words ≡ []) × NamesNone (subcommand_of line words)
IsFaultOfWords words (fault.Memory _) = Unit {0}

-- what is reported if this device fails
abbrev pub device_line : Device → List ℕ
device_line device.Registry = codes "scaleview: device: registry\n"
device_line device.Value = codes "scaleview: device: value\n"
device_line device.Output = codes "scaleview: device: output\n"

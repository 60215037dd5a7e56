use Rattle.std.proofs.Common.{◌≡◌, ◌++◌, take}
use Rattle.std.specs.Prelude.{string_bytes}
use Rattle.scale_calls.specs.Lines.{lines_from}
use Rattle.scale_calls.proofs.lines.push_type_lines.Given as goal

abbrev pub invariant-types : goal.invariant-types
invariant-types l = string_bytes l.lines
    ≡ string_bytes l.fn.lines ++ lines_from l.checked.types 0 (take l.i l.info-items)

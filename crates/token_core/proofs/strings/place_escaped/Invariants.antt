use Rattle.std.proofs.Common.{◌+◌, ◌*◌, ◌≤◌, take}
use Rattle.json.specs.Filled.{Placed}
use Rattle.json.specs.Print.{escape}
use Rattle.token_core.proofs.strings.place_escaped.Given as goal

-- the escapes of the bytes so far were written
abbrev pub invariant-bytes : goal.invariant-bytes
invariant-bytes l = (l.end ≤ l.at + 6 * l.byte-index)
    × Placed l.fn.buffer l.buffer l.at (escape (take l.byte-index l.bytes)) l.end

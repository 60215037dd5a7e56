use Rattle.std.proofs.Common.{◌≡◌, drop}
use Rattle.std.specs.List.{list_any}
use Rattle.scale_calls.specs.NameLines.{is_control}
use Rattle.scale_calls.proofs.names.has_control.Given as goal

-- none of those so far is one
abbrev pub invariant-bytes : goal.invariant-bytes
invariant-bytes l = list_any is_control (drop l.byte-index l.text) ≡ list_any is_control l.text

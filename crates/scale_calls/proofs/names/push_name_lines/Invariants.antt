use Rattle.std.proofs.Common.{◌≡◌, ◌++◌, ℕ, List}
use Rattle.std.specs.Prelude.{string_bytes}
use Rattle.chain_core.specs.Names.{entries_of}
use Rattle.scale_calls.specs.NameLines.{AreLines}
use Rattle.scale_calls.proofs.names.push_name_lines.Given as goal

abbrev pub invariant-names : goal.invariant-names
invariant-names l = (text : List ℕ) × AreLines (entries_of l.names) text
    × (string_bytes l.lines ≡ string_bytes l.initial.lines ++ text)

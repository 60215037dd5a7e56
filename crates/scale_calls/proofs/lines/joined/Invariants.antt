use Rattle.std.proofs.Common.{◌≡◌, ◌++◌, take, codes}
use Rattle.std.specs.Prelude.{flat_map, string_bytes}
use Rattle.scale_calls.proofs.lines.joined.Given as goal

abbrev pub invariant-segments : goal.invariant-segments
invariant-segments l = string_bytes l.path
    ≡ string_bytes l.initial.path ++ flat_map (λ t. codes "::" ++ t) (take l.segment-index l.others)

use Rattle.std.proofs.Common.{◌≡◌, ◌++◌, drop}
use Rattle.std.specs.List.{AllByRecursion}
use Rattle.types_core.specs.Fits.{FitsField}
use Rattle.chain_core.specs.Synthetic.{part_fields}
use Rattle.chain_core.proofs.synthetic.push_parts.Given as goal

-- what is left to append, after what is appended
abbrev pub invariant-parts : goal.invariant-parts
invariant-parts l = record {
  exact : l.list.items ++ part_fields l.small l.position (drop l.position l.parts)
      ≡ l.initial.list.items ++ part_fields l.small 0 l.parts;
  fits : AllByRecursion FitsField l.list.items;
}

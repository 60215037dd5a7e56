use Rattle.std.proofs.Common.{◌≡◌, ◌++◌, drop, map}
use Rattle.std.specs.List.{AllByRecursion}
use Rattle.types_core.specs.Fits.{FitsField}
use Rattle.chain_core.specs.Synthetic.{field}
use Rattle.chain_core.proofs.synthetic.fields.Given as goal

-- what is left to append, after what is appended
abbrev pub invariant-parts : goal.invariant-parts
invariant-parts l = record {
  exact : l.list.items ++ map (λ p. field p.0.now p.1) (drop l.name-index l.parts)
      ≡ map (λ p. field p.0.now p.1) l.parts;
  fits : AllByRecursion FitsField l.list.items;
}

use Rattle.std.proofs.Common.{◌≡◌, ◌++◌, drop}
use Rattle.std.specs.List.{AllByRecursion}
use Rattle.types_core.specs.Fits.{FitsType}
use Rattle.chain_core.specs.Synthetic.{all_made}
use Rattle.chain_core.specs.Things.{all_named}
use Rattle.chain_core.proofs.synthetic.push_all_made.Given as goal

-- what is left to append, after what is appended
abbrev pub invariant-things : goal.invariant-things
invariant-things l = record {
  exact : l.types.items ++ all_made l.small (all_named (drop l.thing-index l.things))
      ≡ l.initial.types.items ++ all_made l.small (all_named l.things);
  fits : AllByRecursion FitsType l.types.items;
}

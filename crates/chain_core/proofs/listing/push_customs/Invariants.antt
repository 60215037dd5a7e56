use Rattle.std.proofs.Common.{◌≡◌, ◌++◌}
use Rattle.std.specs.Prelude.{flat_map}
use Rattle.chain_core.specs.Listed.{children_in, custom_thing}
use Rattle.chain_core.specs.Things.{all_named}
use Rattle.chain_core.proofs.listing.push_customs.Given as goal

-- what is left to append, after what is appended
abbrev pub invariant-values : goal.invariant-values
invariant-values l = record {
  can : (goal.iterator-values).can_next l.value-iterator;
  ends : (goal.iterator-values).is_finite l.value-iterator;
  reported : all_named l.things.items ++ flat_map (custom_thing) l.value-iterator
      ≡ all_named l.initial.things.items ++ flat_map (custom_thing) (children_in l.fn.list);
}

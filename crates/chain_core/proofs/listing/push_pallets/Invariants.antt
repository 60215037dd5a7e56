use Rattle.std.proofs.Common.{◌≡◌, ◌++◌}
use Rattle.std.specs.Prelude.{flat_map}
use Rattle.chain_core.specs.Listed.{children_in, pallet_things}
use Rattle.chain_core.specs.Things.{all_named}
use Rattle.chain_core.proofs.listing.push_pallets.Given as goal

-- what is left to append, after what is appended
abbrev pub invariant-pallets : goal.invariant-pallets
invariant-pallets l = record {
  can : (goal.iterator-pallets).can_next l.pallet-iterator;
  ends : (goal.iterator-pallets).is_finite l.pallet-iterator;
  reported : all_named l.things.items ++ flat_map (pallet_things l.own) l.pallet-iterator
      ≡ all_named l.initial.things.items ++ flat_map (pallet_things l.own) (children_in l.fn.list);
}

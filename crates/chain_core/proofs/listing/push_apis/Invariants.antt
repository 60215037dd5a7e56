use Rattle.std.proofs.Common.{◌≡◌, ◌++◌}
use Rattle.std.specs.Prelude.{flat_map}
use Rattle.chain_core.specs.Listed.{children_in, api_things}
use Rattle.chain_core.specs.Things.{all_named}
use Rattle.chain_core.proofs.listing.push_apis.Given as goal

-- what is left to append, after what is appended
abbrev pub invariant-apis : goal.invariant-apis
invariant-apis l = record {
  can : (goal.iterator-apis).can_next l.api-iterator;
  ends : (goal.iterator-apis).is_finite l.api-iterator;
  reported : all_named l.things.items ++ flat_map (api_things) l.api-iterator
      ≡ all_named l.initial.things.items ++ flat_map (api_things) (children_in l.fn.list);
}

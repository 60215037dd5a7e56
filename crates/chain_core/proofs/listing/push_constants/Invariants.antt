use Rattle.std.proofs.Common.{◌≡◌, ◌++◌}
use Rattle.std.specs.Prelude.{flat_map}
use Rattle.std.specs.Rc.{rc_str_bytes}
use Rattle.chain_core.specs.Listed.{children_in, constant_thing}
use Rattle.chain_core.specs.Things.{all_named}
use Rattle.chain_core.proofs.listing.push_constants.Given as goal

-- what is left to append, after what is appended
abbrev pub invariant-constants : goal.invariant-constants
invariant-constants l = record {
  can : (goal.iterator-constants).can_next l.constant-iterator;
  ends : (goal.iterator-constants).is_finite l.constant-iterator;
  reported : all_named l.things.items
      ++ flat_map (constant_thing (rc_str_bytes l.pallet)) l.constant-iterator
      ≡ all_named l.initial.things.items
      ++ flat_map (constant_thing (rc_str_bytes l.pallet)) (children_in l.fn.list);
}

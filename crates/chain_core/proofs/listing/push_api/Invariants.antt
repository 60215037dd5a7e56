use Rattle.std.proofs.Common.{◌≡◌, ◌++◌}
use Rattle.std.specs.Prelude.{flat_map}
use Rattle.std.specs.Rc.{rc_str_bytes}
use Rattle.chain_core.specs.Listed.{children_in, method_things}
use Rattle.chain_core.specs.Parts.{child}
use Rattle.chain_core.specs.Things.{all_named}
use Rattle.chain_core.proofs.listing.push_api.Given as goal

-- what is left to append, after what is appended
abbrev pub invariant-methods : goal.invariant-methods
invariant-methods l = record {
  can : (goal.iterator-methods).can_next l.method-iterator;
  ends : (goal.iterator-methods).is_finite l.method-iterator;
  reported : all_named l.things.items
      ++ flat_map (method_things (rc_str_bytes l.name)) l.method-iterator
      ≡ all_named l.initial.things.items
      ++ flat_map (method_things (rc_str_bytes l.name)) (children_in (child 1 l.api));
}

use Rattle.std.proofs.Common.{◌≡◌, ◌++◌}
use Rattle.std.specs.Prelude.{flat_map}
use Rattle.std.specs.Rc.{rc_str_bytes}
use Rattle.chain_core.specs.Listed.{children_in, entry_things}
use Rattle.chain_core.specs.Things.{all_named}
use Rattle.chain_core.proofs.listing.push_entries.Given as goal

-- what is left to append, after what is appended
abbrev pub invariant-entries : goal.invariant-entries
invariant-entries l = record {
  can : (goal.iterator-entries).can_next l.entry-iterator;
  ends : (goal.iterator-entries).is_finite l.entry-iterator;
  reported : all_named l.things.items
      ++ flat_map (entry_things l.own (rc_str_bytes l.pallet)) l.entry-iterator
      ≡ all_named l.initial.things.items
      ++ flat_map (entry_things l.own (rc_str_bytes l.pallet)) (children_in l.fn.list);
}

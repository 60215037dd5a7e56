use Rattle.std.proofs.Common.{◌≡◌, ◌+◌, ◌<◌, ◌^◌, ◌++◌, length}
use Rattle.chain_core.specs.Names.{placed, types_of}
use Rattle.chain_core.specs.Things.{all_named}
use Rattle.chain_core.proofs.names.named_types.Given as goal

-- those that are left are placed after those so far
abbrev pub invariant-things : goal.invariant-things
invariant-things l = record {
  can : (goal.iterator-things).can_next l.thing-iterator;
  ends : (goal.iterator-things).is_finite l.thing-iterator;
  reported : types_of l.types.items ++ placed (all_named l.thing-iterator.rest.items) l.free
      ≡ placed (all_named l.fn.things.items) l.fn.own;
  few : l.free + length l.thing-iterator.rest.items < 2 ^ 32;
}

use Rattle.std.proofs.Common.{◌≡◌, ◌++◌, [], map, drop}
use Rattle.types_core.specs.Keys.{order_from, lent_entries}
use Rattle.types_core.proofs.keys.order_of.Given as goal

abbrev pub invariant-fields : goal.invariant-fields
invariant-fields l = order_from l.fields 0 []
    ≡ order_from (drop l.position l.fields) l.position (lent_entries l.positions.entries)

abbrev pub invariant-names : goal.invariant-names
invariant-names l = record {
  can : (goal.iterator-names).can_next l.position-iterator;
  ends : (goal.iterator-names).is_finite l.position-iterator;
  reported : l.order.items ++ map (λ e. e.1) l.position-iterator
      ≡ map (λ e. e.1) l.initial.position-iterator;
}

use Rattle.std.proofs.Common.{◌≡◌, ◌+◌, ◌*◌, map, drop}
use Rattle.std.specs.List.{AllByRecursion}
use Rattle.std.specs.Slice.Iter.{iter_rest}
use Rattle.json.specs.Tree.{items_tokens, members_tokens}
use Rattle.serde_json.specs.View.{items_of}
use Rattle.serde_json.specs.Written.{items_outline, members_outline}
use Rattle.grammar_core.specs.Tree.{nodes}
use Rattle.node_core.specs.Shown.{children_of}
use Rattle.json_core.specs.Json.{json_seen}
use Rattle.token_core.specs.Tokens.{prints}
use Rattle.json_core.specs.Tokens.{AreNamed, members_at, members_in_order}
use Rattle.json_core.proofs.Children.{AreBelow}
use Rattle.json_core.proofs.Ordered.{IsNamedAt}
use Rattle.json_core.proofs.writing.+write.Given as goal

abbrev pub decreases-write_node : goal.decreases-write_node
decreases-write_node g l = 5 * nodes l.node.now.tree + 4

abbrev pub decreases-write_child : goal.decreases-write_child
decreases-write_child g l = 5 * nodes l.node.now.tree

abbrev pub decreases-write_fields : goal.decreases-write_fields
decreases-write_fields g l = 5 * nodes l.node.now.tree + 2

abbrev pub decreases-write_arm : goal.decreases-write_arm
decreases-write_arm g l = 5 * nodes l.node.now.tree + 3

abbrev pub decreases-write_items : goal.decreases-write_items
decreases-write_items g l = 5 * nodes l.node.now.tree + 1

abbrev pub decreases-write_each : goal.decreases-write_each
decreases-write_each g l = 5 * nodes l.node.now.tree

abbrev pub decreases-write_in_order : goal.decreases-write_in_order
decreases-write_in_order g l = 5 * nodes l.node.now.tree + 1

abbrev pub decreases-write_sorted : goal.decreases-write_sorted
decreases-write_sorted g l = 5 * nodes l.node.now.tree + 1

-- what is left to write, after what is written
abbrev pub invariant-write_each-children : goal.invariant-write_each-children
invariant-write_each-children g l = record {
  can : (goal.iterator-write_each-children g).can_next l.child-iterator;
  ends : (goal.iterator-write_each-children g).is_finite l.child-iterator;
  reported : prints l.out (items_tokens (items_outline (items_of (map json_seen l.child-iterator))))
      ≡ prints l.initial.out
      (items_tokens (items_outline (items_of (map json_seen (children_of l.node)))));
  below : AreBelow l.node.types (nodes l.node.tree) l.child-iterator;
}

abbrev pub invariant-write_in_order-members : goal.invariant-write_in_order-members
invariant-write_in_order-members g l = record {
  can : (goal.iterator-write_in_order-members g).can_next l.field-iterator;
  ends : (goal.iterator-write_in_order-members g).is_finite l.field-iterator;
  named : AreNamed (iter_rest l.field-iterator.a);
  reported : prints l.out (members_tokens (members_outline
      (members_in_order (iter_rest l.field-iterator.a) (map json_seen l.field-iterator.b))))
      ≡ prints l.initial.out (members_tokens (members_outline
      (members_in_order l.fields (map json_seen (children_of l.node)))));
  below : AreBelow l.node.types (nodes l.node.tree) l.field-iterator.b;
}

-- the positions that are left of the order
abbrev pub invariant-write_sorted-members : goal.invariant-write_sorted-members
invariant-write_sorted-members g l = record {
  named : AllByRecursion (IsNamedAt l.fields) (drop l.place-index l.order);
  reported : prints l.out (members_tokens (members_outline
      (members_at l.fields (map json_seen (children_of l.node)) (drop l.place-index l.order))))
      ≡ prints l.initial.out (members_tokens (members_outline
      (members_at l.fields (map json_seen (children_of l.node)) l.order)));
}

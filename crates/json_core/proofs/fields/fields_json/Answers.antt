use Rattle.std.proofs.Common.{sym, ◌∙◌}
use Rattle.serde_json.specs.View.{items_view}
use Rattle.serde_json.proofs.Views.{view-Array}
use Rattle.json_core.proofs.Ordered.{are_named, named_json_is, order_of_keys, unnamed_json_is}
use Rattle.json_core.proofs.fields.fields_json.Goals as goal

pub object-requires : goal.object-requires
object-requires c =
    let fs = c.args.fields.now in
    let order = order_of_keys fs c.keys.result.now c.keys.ensures c.in-InOrder.is in
    rw c.as_slice.ensures (are_named fs order.0 order.1)

pub returns-in-Unnamed : goal.returns-in-Unnamed
returns-in-Unnamed c = view-Array c.args.items
    ∙ sym (unnamed_json_is c.args.fields.now (items_view c.args.items.items)
    (rw c.in-Unnamed.is at c.keys.ensures))

pub returns-in-InOrder : goal.returns-in-InOrder
returns-in-InOrder c =
    let fs = c.args.fields.now in
    let order = order_of_keys fs c.keys.result.now c.keys.ensures c.in-InOrder.is in
    rw (
      named_json_is fs order.0 (items_view c.args.items.items) order.1,
      ← c.as_slice.ensures,
    ) c.object.ensures

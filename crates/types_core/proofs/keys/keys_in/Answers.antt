use Rattle.types_core.proofs.KeyOrders.{counted_keys}
use Rattle.types_core.proofs.keys.keys_in.Goals as goal

pub returns-then-counts_up : goal.returns-then-counts_up
returns-then-counts_up c = counted_keys c.args.fields.now c.args.order.now c.requires
    (c.counts_up.ensures.0 c.if-counts_up.true)

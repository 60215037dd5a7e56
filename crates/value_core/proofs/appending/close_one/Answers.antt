use Rattle.std.proofs.Common.{◌-◌, List, length, ap, arith}
use Rattle.value_core.proofs.Closing.{closed_inside, closing_settles}
use Rattle.value_core.proofs.appending.close_one.Goals as goal

pub overflow_sub-size : goal.overflow_sub-size
overflow_sub-size g c =
    omega (
      arith,
      closed_inside _ _ _ _ c.requires c.in-Some.ensures.some,
      ap length c.as_slice.ensures.value,
    )

pub get-node-requires : goal.get-node-requires
get-node-requires g c = closed_inside _ _ _ _ c.requires c.in-Some.ensures.some

pub replace-requires : goal.replace-requires
replace-requires g c = closed_inside _ _ _ _ c.requires c.in-Some.ensures.some

pub returns-clause-settles : goal.returns-clause-settles
returns-clause-settles g c =
    rw (c.replace.ensures.items, c.close-2.ensures) (closing_settles c.args.walk.now
    c.close.new.self c.args.nodes.now.list.items c.get-node.result (length c.as_slice.result.now
    - c.in-Some.place) c.in-Some.place c.get-node.ensures
    (ap (λ (x : List _). length x - c.in-Some.place) c.as_slice.ensures.value)
    c.in-Some.ensures.some)

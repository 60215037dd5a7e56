use Rattle.std.proofs.Common.{◌≡◌, ◌∙◌, ◌/◌, ◌%◌, ◌^◌, ap, arith}
use Rattle.node_core.proofs.Halves.{put_halves}
use Rattle.node_core.proofs.pool.put_long.Goals.{then-not-has_room+in_ok-make_room}
use Rattle.node_core.proofs.pool.put_long.Goals.{else-not-has_room}
use Rattle.node_core.proofs.pool.put_long.Goals as goal

pub returns-clause-ok : goal.returns-clause-ok
returns-clause-ok g c =
    let n = c.args.number in
    let same : c.if-not-has_room.pool.list.items ≡ c.args.pool.now.list.items =
    elim c.if-not-has_room.branch [
      | then-not-has_room+in_ok-make_room w ↦ ap (λ p. p.list.items) w.pool-is
          ∙ w.make_room.ensures.items
      | else-not-has_room w ↦ ap (λ p. p.list.items) w.pool-is
    ] in
    put_halves n (n % 2 ^ 64) (n / 2 ^ 64) c.args.pool.now.list.items
    c.if-not-has_room.pool.list.items c.to_le_bytes.result c.to_le_bytes-2.result
    c.extend_from_slice.new.self.list.items c.extend_from_slice-2.new.self.list.items same
    c.to_le_bytes.ensures c.to_le_bytes-2.ensures (omega arith) (omega arith)
    c.in_ok-extend_from_slice.ensures.ok c.in_ok-extend_from_slice-2.ensures.ok

use Rattle.std.proofs.Common.{arith, rules, refl, sym, ap, ◌∙◌, ◌+◌, ℕ, List, length, take}
use Rattle.std.proofs.lemmas.List.{length-map, take_all}
use Rattle.node_core.specs.Shown.{cell_shown, cells_shown}
use Rattle.record_core.specs.Records.{pool_of}
use Rattle.record_core.proofs.Puts.{all_le, next_fits, pool_next}
use Rattle.record_core.proofs.writing.room_of.Goals as goal

pub overflow_add-pool : goal.overflow_add-pool
overflow_add-pool c =
    let small = all_le c.args.bytes.now c.args.nodes.now in
    let fits = next_fits c.args.bytes.now c.args.nodes.now c.nodes.node-index _ c.nodes.pool
    c.pooled.result.now c.nodes-test.true c.nodes.invariant c.pooled.ensures in
    search rules

pub nodes-preserved : goal.nodes-preserved
nodes-preserved c =
    ap (λ (n : ℕ). n + length c.pooled.result.now) c.nodes.invariant
    ∙ ap (λ (xs : List ℕ).
    length (pool_of (cells_shown c.args.bytes.now (take c.nodes.node-index c.args.nodes.now)))
    + length xs) c.pooled.ensures
    ∙ sym (pool_next c.args.bytes.now c.args.nodes.now c.nodes.node-index _ c.nodes-test.true)

pub returns : goal.returns
returns c =
    let all = take_all c.nodes.node-index c.args.nodes.now (omega arith) in
    rw (
      length-map c.args.nodes.now (cell_shown c.args.bytes.now),
      c.nodes.invariant,
      all,
    ) refl

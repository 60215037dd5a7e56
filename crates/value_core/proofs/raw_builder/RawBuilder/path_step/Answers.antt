use Rattle.std.proofs.Common.{◌≡◌, ◌+◌, List, Some, subst}
use Rattle.std.specs.Prelude.{option_map, slice_get}
use Rattle.node_core.specs.declared.node.Node.{Node}
use Rattle.value_core.specs.Building.{pieces_shown}
use Rattle.value_core.specs.Built.{Built}
use Rattle.value_core.specs.Frames.{open_part_of}
use Rattle.value_core.specs.OpenNodes.{HasPath, open_path, step_before}
use Rattle.value_core.proofs.OpenNodes.{entry_shown, has_path, step_found}
use Rattle.value_core.proofs.raw_builder.RawBuilder.path_step.Goals as goal

pub returns-in_err-frame-clause-path : goal.returns-in_err-frame-clause-path
returns-in_err-frame-clause-path g c =
    let b = c.self.inside in
    subst HasPath c.self.view_is
    (has_path b.root.0 b.walk b.pool.list.items b.nodes.list.items b.text_len
    (pieces_shown b.pool.list.items b.open_run) b.turns.so_far c.self.invariant.0
    c.self.invariant.3 c.self.invariant.2)

pub returns-clause-step : goal.returns-clause-step
returns-clause-step g c =
    let b = c.self.inside in
    let f = c.in_ok-frame in
    subst (λ (x : Built). Some c.step_before.result ≡ slice_get (open_path x) c.args.depth)
    c.self.view_is
    (step_found b.pool.list.items b.nodes.list.items b.walk.frames
    (open_part_of b.walk.types f.frame) f.begun f.frame.left.count c.args.depth
    c.step_before.result f.ensures.part f.ensures.counts
    (subst (λ (ns : List Node). c.step_before.result ≡ step_before
    (option_map (entry_shown b.pool.list.items) (slice_get ns f.frame.node))
    (f.frame.left.count + f.begun)) c.as_slice.ensures.value
    (c.step_before.ensures b.pool.list.items)))

pub returns-clause-path : goal.returns-clause-path
returns-clause-path g c =
    let b = c.self.inside in
    subst HasPath c.self.view_is
    (has_path b.root.0 b.walk b.pool.list.items b.nodes.list.items b.text_len
    (pieces_shown b.pool.list.items b.open_run) b.turns.so_far c.self.invariant.0
    c.self.invariant.3 c.self.invariant.2)

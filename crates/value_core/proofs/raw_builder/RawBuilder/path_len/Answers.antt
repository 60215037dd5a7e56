use Rattle.std.proofs.Common.{◌≡◌, ap, arith, length, subst}
use Rattle.std.proofs.lemmas.List.{length-map}
use Rattle.value_core.specs.Building.{pieces_shown}
use Rattle.value_core.specs.Built.{Built, entries_shown}
use Rattle.value_core.specs.OpenNodes.{HasPath, open_parts, open_path, step_in}
use Rattle.value_core.specs.Walked.{Walked}
use Rattle.value_core.proofs.OpenNodes.{depth_is, has_path}
use Rattle.value_core.proofs.raw_builder.RawBuilder.path_len.Goals as goal

pub returns-clause-len : goal.returns-clause-len
returns-clause-len g c =
    let b = c.self.inside in
    let es = entries_shown b.pool.list.items b.nodes.list.items in
    subst (λ (x : Built). c.from.result ≡ length (open_path x)) c.self.view_is
    (omega (
      arith,
      c.from.ensures,
      c.depth.ensures.depth,
      depth_is b.walk (ap (λ (w : Walked). w.frames) c.self.invariant.2),
      length-map (open_parts b.walk.frames) (step_in es),
    ))

pub returns-clause-path : goal.returns-clause-path
returns-clause-path g c =
    let b = c.self.inside in
    subst HasPath c.self.view_is
    (has_path b.root.0 b.walk b.pool.list.items b.nodes.list.items b.text_len
    (pieces_shown b.pool.list.items b.open_run) b.turns.so_far c.self.invariant.0
    c.self.invariant.3 c.self.invariant.2)

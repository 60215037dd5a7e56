use Rattle.std.proofs.Common.{rules, ◌≡◌, ◌∙◌, ◌+◌, ◌^◌, ◌<◌, length, arith, None, IfSome, sym}
use Rattle.std.proofs.Common.{subst}
use Rattle.widths_core.specs.RunBytes.{run_bytes}
use Rattle.value_core.specs.Built.{Built, IsCleanRun}
use Rattle.value_core.specs.Building.{IsOpenRun}
use Rattle.value_core.specs.Refusals.{IsRunComplete, bad_text}
use Rattle.node_core.specs.Shown.{all_kept}
use Rattle.value_core.proofs.Closing.{leaf_paid, settled_again, settled_paid}
use Rattle.value_core.proofs.Leaves.{texts_kept}
use Rattle.value_core.proofs.RunEnded.{run_ended}
use Rattle.value_core.proofs.raw_builder.RawBuilder.close_run.Goals as goal

pub close_complete-requires : goal.close_complete-requires
close_complete-requires g c =
    let done = subst (λ (b : Built). IfSome b.run (λ x. IsRunComplete b) × (bad_text b.run ≡ None)
    × IsCleanRun b.run) (sym c.self.view_is) (c.requires.whole, c.requires.valid, c.requires.clean)
    in
    let b = run_ended c.self.inside.root.0 c.self.inside.walk c.self.inside.pool.list.items
    c.self.inside.nodes.list.items c.self.inside.text_len c.self.inside.open_run c.in-Some.open
    c.ty.result c.self.invariant.0 c.self.invariant.1 c.in-Some.is done.0 done.1 done.2 c.ty.ensures
    in (
      c.self.inside.root.0,
      c.self.inside.pool.list.items,
      c.self.inside.text_len + run_bytes c.in-Some.open.kind c.in-Some.open.len,
      rw (c.advance.ensures, c.in_ok-append_node.ensures.ok, c.content.ensures) b.0,
    )

pub invariant_of-self-2 : goal.invariant_of-self-2
invariant_of-self-2 g c =
    let done = subst (λ (b : Built). IfSome b.run (λ x. IsRunComplete b) × (bad_text b.run ≡ None)
    × IsCleanRun b.run) (sym c.self.view_is) (c.requires.whole, c.requires.valid, c.requires.clean)
    in
    let b = run_ended c.self.inside.root.0 c.self.inside.walk c.self.inside.pool.list.items
    c.self.inside.nodes.list.items c.self.inside.text_len c.self.inside.open_run c.in-Some.open
    c.ty.result c.self.invariant.0 c.self.invariant.1 c.in-Some.is done.0 done.1 done.2 c.ty.ensures
    in (
      c.close_complete.ensures.settles.builds _ _ _
          (rw (
            c.bytes.ensures.exact,
            c.advance.ensures,
            c.in_ok-append_node.ensures.ok,
            c.append_node.ensures.pool,
            c.content.ensures,
          ) b.0),
      c.close_complete.ensures.settles.kept
          ∙ rw (c.in_ok-append_node.ensures.ok, c.append_node.ensures.pool, c.content.ensures) b.1,
      rw c.close_complete.ensures.walk (settled_again c.advance.new.self),
      settled_paid _ _ _ _ _ _ c.close_complete.ensures.settles c.close_complete.ensures.walk
          c.close_complete.ensures.turns
          (rw (c.advance.ensures, c.in_ok-append_node.ensures.ok, c.content.ensures)
          (leaf_paid c.self.inside.walk c.self.inside.nodes.list.items _ c.self.inside.turns.so_far
          c.self.invariant.3)),
    )

pub overflow_add-self : goal.overflow_add-self
overflow_add-self g c =
    let place = subst (IsOpenRun c.self.inside.walk c.self.inside.pool.list.items
    (all_kept c.self.inside.nodes.list.items)) c.in-Some.is c.self.invariant.1 in
    let small : length c.self.inside.pool.list.items < 2 ^ 63 = search rules in
    let fits : c.self.inside.text_len + c.bytes.result < 2 ^ 64 =
    omega (
      arith,
      small,
      c.bytes.ensures.bound,
      c.self.invariant.0.texts,
      c.self.invariant.0.fits,
      texts_kept c.self.inside.pool.list.items c.self.inside.nodes.list.items,
    ) in
    search rules

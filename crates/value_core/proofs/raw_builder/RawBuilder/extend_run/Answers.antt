use Rattle.std.proofs.Common.{◌∙◌, ◌≤◌, length, ap, sym, subst, refl}
use Rattle.std.specs.Prelude.{IfOk, IsSome}
use Rattle.scale_core.proofs.ReadModes.{are_bytes}
use Rattle.value_core.specs.Built.{Built, with_piece}
use Rattle.value_core.specs.Refusals.{missing_of}
use Rattle.node_core.specs.Shown.{all_kept}
use Rattle.value_core.proofs.Adding.{bytes_added, open_longer, longer_entries}
use Rattle.value_core.proofs.raw_builder.RawBuilder.extend_run.Goals as goal

pub invariant_of-self-2 : goal.invariant_of-self-2
invariant_of-self-2 g c =
    let some = subst (λ (b : Built). IsSome b.run) (sym c.self.view_is) c.requires.open in
    let lacks = subst (λ (b : Built). IfOk (missing_of b) (λ m. length c.args.piece.now ≤ m.1))
    (sym c.self.view_is) c.requires.lacks in
    let o = open_longer c.self.inside.walk c.self.inside.pool.list.items c.args.piece.now
    (all_kept c.self.inside.nodes.list.items) c.self.inside.open_run
    (are_bytes c.args.piece.now (λ i. (c.type_inv.piece i).fits)) c.self.invariant.1 some lacks in
    rw c.in_ok-put_piece.ensures.ok (
      bytes_added _ _ c.self.inside.pool.list.items c.args.piece.now c.self.inside.nodes.list.items
          c.self.inside.text_len c.self.invariant.0,
      o.0,
      c.self.invariant.2,
      c.self.invariant.3,
    )

pub returns-clause-ok : goal.returns-clause-ok
returns-clause-ok g c =
    let some = subst (λ (b : Built). IsSome b.run) (sym c.self.view_is) c.requires.open in
    let lacks = subst (λ (b : Built). IfOk (missing_of b) (λ m. length c.args.piece.now ≤ m.1))
    (sym c.self.view_is) c.requires.lacks in
    let o = open_longer c.self.inside.walk c.self.inside.pool.list.items c.args.piece.now
    (all_kept c.self.inside.nodes.list.items) c.self.inside.open_run
    (are_bytes c.args.piece.now (λ i. (c.type_inv.piece i).fits)) c.self.invariant.1 some lacks in
    (rw (
      c.in_ok-put_piece.ensures.ok,
      longer_entries c.self.inside.pool.list.items c.args.piece.now c.self.inside.nodes.list.items
          c.self.invariant.0.inside,
      o.1,
    ) refl)
    ∙ ap (λ (b : Built). with_piece b c.args.piece.now) c.self.view_is

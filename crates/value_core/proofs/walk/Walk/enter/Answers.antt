use Rattle.std.proofs.Common.{◌+◌, ◌≤◌, length, sym, subst, arith}
use Rattle.std.specs.Prelude.{IsSome}
use Rattle.widths_core.specs.Steps.{references_of}
use Rattle.value_core.specs.Frames.{frames_of}
use Rattle.node_core.specs.Remaining.{IsWithin}
use Rattle.value_core.specs.Walked.{Walked, next_type}
use Rattle.value_core.proofs.Members.{frames_counted, some_counted, within_append}
use Rattle.value_core.proofs.walk.Walk.enter.Goals as goal

pub advanced-requires : goal.advanced-requires
advanced-requires g c =
    some_counted (references_of c.self.inside.checked.now.types) c.self.inside.top.left
    (subst (λ (w : Walked). IsSome (next_type w)) (sym c.self.view_is) c.requires.next)

pub invariant_of-self-2 : goal.invariant_of-self-2
invariant_of-self-2 g c =
    let refs = references_of c.self.inside.checked.now.types in
    let before : length (frames_of c.self.inside.checked.now.types c.self.inside.top
    c.self.inside.around.list.items) ≤ c.self.inside.limit + 1 =
    subst (λ (w : Walked). length w.frames ≤ w.limit + 1) (sym c.self.view_is) c.requires.room in
    let room : length c.push_frame.new.frames.list.items ≤ c.self.inside.limit + 1 =
    omega (
      arith,
      before,
      c.in_ok-push_frame.ensures.len,
      frames_counted c.self.inside.checked.now.types c.self.inside.around.list.items,
    ) in
    let within : IsWithin refs c.args.left =
    subst (λ (w : Walked). IsWithin (references_of w.types) c.args.left) (sym c.self.view_is)
    c.requires.within in (
      c.self.invariant.0,
      room,
      c.look_ahead.ensures,
      within,
      rw c.in_ok-push_frame.ensures.ok (within_append refs c.self.inside.around.list.items _
          c.self.invariant.4 (c.advanced.ensures.within refs c.self.invariant.3)),
    )

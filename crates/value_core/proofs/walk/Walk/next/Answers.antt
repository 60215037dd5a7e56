use Rattle.std.proofs.Common.{◌≡◌, ◌∙◌, ◌≤◌, ◌+◌, length, false, sym, subst, arith}
use Rattle.std.specs.Prelude.{is_none}
use Rattle.value_core.specs.Walked.{Walked, next_type}
use Rattle.value_core.proofs.Ahead.{found_ahead, next_in_room}
use Rattle.value_core.proofs.Members.{frames_counted}
use Rattle.value_core.proofs.walk.Walk.next.Goals as goal

pub returns : goal.returns
returns g c =
    let around = frames_counted c.self.inside.checked.now.types c.self.inside.around.list.items in
    let room : length c.args.self.now.frames ≤ c.args.self.now.limit + 1 =
    subst (λ (w : Walked). length w.frames ≤ w.limit + 1) c.self.view_is
    (omega (arith, around, c.if-len-self.false, c.len.ensures)) in
    let found : is_none (next_type c.args.self.now) ≡ false =
    sym c.is_finished.ensures ∙ c.if-is_finished.false in
    let ahead = found_ahead c.args.self.now.types (next_type c.args.self.now) c.step.result found
    c.step.ensures in
    c.next_of_step.ensures ∙ next_in_room c.args.self.now c.step.result room ahead

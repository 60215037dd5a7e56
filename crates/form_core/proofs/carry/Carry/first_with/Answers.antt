use Rattle.std.proofs.Common.{ℕ, List, ◌≡◌, ◌∙◌, None, Some, ap}
use Rattle.std.specs.Prelude.{slice_get}
use Rattle.form_core.proofs.Firsts.{first_carried, first_of_piece}
use Rattle.form_core.proofs.carry.Carry.first_with.Goals as goal

pub returns-in-Some : goal.returns-in-Some
returns-in-Some c =
    let k = c.args.self.now in
    let got : Some c.in-Some.first.now ≡ slice_get k 0 = c.in-Some.ensures.value
    ∙ ap (λ (l : List ℕ). slice_get l 0) c.as_slice.ensures.bytes in
    first_carried k c.args.piece.now c.in-Some.first.now got

pub returns-in-None : goal.returns-in-None
returns-in-None c =
    let k = c.args.self.now in
    let got : None ≡ slice_get k 0 = c.in-None.ensures.value
    ∙ ap (λ (l : List ℕ). slice_get l 0) c.as_slice.ensures.bytes in
    first_of_piece k c.args.piece.now got c.requires

use Rattle.std.proofs.Common.{◌≤◌, sym, subst}
use Rattle.widths_core.specs.Steps.{references_of}
use Rattle.value_core.specs.Walked.{Walked, elements_after}
use Rattle.value_core.proofs.Members.{more_counted}
use Rattle.value_core.proofs.walk.Walk.pass_element.Goals as goal

pub advance-requires : goal.advance-requires
advance-requires g c =
    more_counted (references_of c.self.inside.checked.now.types) c.self.inside.top.left
    (subst (λ (w : Walked). 1 ≤ elements_after w) (sym c.self.view_is) c.requires)

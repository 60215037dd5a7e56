use Rattle.std.proofs.Common.{sym, subst}
use Rattle.std.specs.Prelude.{IsSome}
use Rattle.widths_core.specs.Steps.{references_of}
use Rattle.value_core.specs.Walked.{Walked, next_type}
use Rattle.value_core.proofs.Members.{some_counted}
use Rattle.value_core.proofs.walk.Walk.advance.Goals as goal

pub advance-requires : goal.advance-requires
advance-requires g c =
    some_counted (references_of c.self.inside.checked.now.types) c.self.inside.top.left
    (subst (λ (w : Walked). IsSome (next_type w)) (sym c.self.view_is) c.requires)

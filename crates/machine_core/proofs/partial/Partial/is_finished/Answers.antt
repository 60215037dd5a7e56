use Rattle.std.proofs.Common.{◌≡◌}
use Rattle.std.proofs.Common.{sym, ap, subst, ◌∙◌}
use Rattle.value_core.specs.Walked.{next_of}
use Rattle.grammar_core.specs.declared.form.Next.TheVariants as next
use Rattle.machine_core.specs.Running.{Running}
use Rattle.machine_core.specs.Turned.{EndsTurns}
use Rattle.machine_core.specs.declared.turned.Stopped.TheVariants as stop
use Rattle.machine_core.proofs.steps.Endings.{finished_stops}
use Rattle.machine_core.proofs.partial.Partial.is_finished.Goals as goal

pub returns-in-Finished-clause-ends : goal.returns-in-Finished-clause-ends
returns-in-Finished-clause-ends g c = λ yes rest.
    let is : next_of c.self.inside.builder.walk ≡ next.Finished =
    sym (ap next_of c.walk.ensures.same) ∙ sym c.in-Finished.ensures in
    subst (λ (s : Running). EndsTurns s rest stop.Finished) c.self.view_is
    (finished_stops c.self.inside.builder c.self.inside.carry rest
    c.self.invariant is)

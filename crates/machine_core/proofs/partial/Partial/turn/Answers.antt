use Rattle.std.proofs.Common.{◌≡◌}
use Rattle.value_core.specs.Walked.{next_of}
use Rattle.std.proofs.Common.{refl, sym, ap, subst, ◌∙◌}
use Rattle.grammar_core.specs.declared.form.Next.TheVariants as next
use Rattle.machine_core.specs.Reasons.{reason_of, stop_refusal}
use Rattle.machine_core.specs.Running.{Running}
use Rattle.machine_core.specs.Turned.{EndsTurns}
use Rattle.machine_core.specs.declared.reason.DecodeReason.{DecodeReason}
use Rattle.machine_core.specs.declared.turned.Stopped.TheVariants as stop
use Rattle.machine_core.proofs.steps.Endings.{finished_stops, stop_stops}
use Rattle.machine_core.proofs.steps.Sound.{sound_of}
use Rattle.machine_core.proofs.partial.Partial.turn.Goals as goal

pub returns-in-Finished-clause-reports : goal.returns-in-Finished-clause-reports
returns-in-Finished-clause-reports g c =
    let is : next_of c.self.inside.builder.walk ≡ next.Finished =
    sym (ap next_of c.walk.ensures.same) ∙ sym c.in-Finished.ensures in (
      refl,
      subst (λ (s : Running). EndsTurns s c.args.piece.now stop.Finished) c.self.view_is
          (finished_stops c.self.inside.builder c.self.inside.carry
          c.args.piece.now c.self.invariant is),
    )

pub returns-in-Stop-clause-reports : goal.returns-in-Stop-clause-reports
returns-in-Stop-clause-reports g c =
    let is : next_of c.self.inside.builder.walk ≡ next.Stop c.in-Stop.reason =
    sym (ap next_of c.walk.ensures.same) ∙ sym c.in-Stop.ensures in
    subst (λ (reported_reason : DecodeReason). EndsTurns c.args.self.now c.args.piece.now
    (stop.Refused 0 reported_reason 0 0)) (sym c.into.ensures)
    (subst (λ (s : Running). EndsTurns s c.args.piece.now
    (stop.Refused 0 (reason_of (stop_refusal c.in-Stop.reason)) 0 0)) c.self.view_is
    (stop_stops c.self.inside.builder c.self.inside.carry c.args.piece.now
    c.in-Stop.reason c.self.invariant is))

pub returns-in-Finished-clause-sound : goal.returns-in-Finished-clause-sound
returns-in-Finished-clause-sound g c =
    sound_of c.self.inside.builder c.self.inside.carry c.args.self.now
    c.self.view_is c.walk.ensures.begun c.self.invariant

pub returns-in-Stop-clause-sound : goal.returns-in-Stop-clause-sound
returns-in-Stop-clause-sound g c =
    sound_of c.self.inside.builder c.self.inside.carry c.args.self.now
    c.self.view_is c.walk.ensures.begun c.self.invariant

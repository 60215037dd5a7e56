use Rattle.std.proofs.Common.{◌≡◌, slice_get, rules}
use Rattle.widths_core.proofs.StepReads.{step_at, step_read}
use Rattle.widths_core.proofs.checked.Checked.step.Goals as goal

pub returns : goal.returns
returns c =
    let own = c.self.inside in
    let same : c.args.self.now.types ≡ own.examined.registry = search rules in
    let got : c.step_of.result ≡ slice_get own.steps.items c.args.id.0 = search rules in
    step_read own.examined.registry c.args.self.now.types c.args.id.0
    (slice_get own.steps.items c.args.id.0)
    c.step_of.result same got
    (step_at own.examined.registry own.members.items own.rows own.steps.items c.args.id.0
    c.self.invariant.table)

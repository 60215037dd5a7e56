use Rattle.std.proofs.Common.{◌≡◌, Some, ◌∙◌, rules}
use Rattle.widths_core.proofs.StepReads.{class_read}
use Rattle.widths_core.proofs.checked.Checked.class.Goals as goal

pub returns : goal.returns
returns c =
    let s = c.in_ok-step.field-0 in
    let is : c.step.result ≡ Some s = search rules in
    let r = class_read c.args.self.now.types c.args.id.0 c.step.result s c.step.ensures is in
    (r.0, c.class.ensures ∙ r.1)

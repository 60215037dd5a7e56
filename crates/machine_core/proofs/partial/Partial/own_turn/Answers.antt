use Rattle.std.proofs.Common.{refl}
use Rattle.form_core.specs.NodeForms.{form_of_bytes}
use Rattle.machine_core.proofs.steps.TurnReports.{none_of, wants_more}
use Rattle.machine_core.proofs.steps.FormSplits.{have_bytes}
use Rattle.machine_core.proofs.partial.Partial.own_turn.Goals as goal

pub returns-then-is_empty-clause-reports : goal.returns-then-is_empty-clause-reports
returns-then-is_empty-clause-reports g c =
    let more = wants_more c.args.self.now.built c.args.self.now.carry (form_of_bytes c.args.form)
    c.requires.carried
    c.requires.next (have_bytes c.args.form) c.requires.closed in
    (refl, (none_of c.args.piece.now c.if-is_empty.ensures, more.1))

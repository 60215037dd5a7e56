use Rattle.std.proofs.lemmas.Result.{err_from_is_err_and}
use Rattle.scale_tool.specs.Reported.{LacksPosition}
use Rattle.scale_tool.proofs.Reports.{faults_more}
use Rattle.scale_tool.proofs.registry.read_types_with.Goals as goal

pub returns-in_err-opened-clause-faults : goal.returns-in_err-opened-clause-faults
returns-in_err-opened-clause-faults g c =
    let p = err_from_is_err_and c.from_residual.result c.from_residual.ensures.1 in
    rw (p.1, p.2) (faults_more c.args.options (λ at b. ⊥)
    (LacksPosition c.args.options c.args.id) (λ f. ⊥) (λ f. ⊥)
    (g.R.Read.remaining c.args.source.now.device) c.in_err-opened.field-0.0
    (λ at b x. absurd x) (λ f x. x) c.in_err-opened.ensures.faults)

use Rattle.std.proofs.Common.{◌≡◌, Err, ap, inr, true}
use Rattle.scale_core.specs.Sending.{Sends}
use Rattle.scale_tool.specs.Reported.{Faults, Stands, job_name}
use Rattle.scale_tool.proofs.Reports.{faults_memory, reports_refused, stands}
use Rattle.scale_tool.proofs.engine.run.Goals as goal

pub returns-clause-reported : goal.returns-clause-reported
returns-clause-reported g c = inr (reports_refused (job_name c.args.job)
    (Stands (c.serve.new.registry.failed ≡ true) (c.serve.new.value.failed ≡ true)
    (c.serve.new.out.failed ≡ true) (Faults c.args.job
    (g.R.Read.remaining c.args.registry.now.device) (g.V.Read.remaining c.args.value.now.device)))
    (Sends g.E.WriteOnce.writes g.E.Write.contents c.args.err.now c.refuse.new.err)
    c.in-Err.refusal c.refuse.result
    (stands (c.serve.new.registry.failed ≡ true) (c.serve.new.value.failed ≡ true)
    (c.serve.new.out.failed ≡ true) (Faults c.args.job
    (g.R.Read.remaining c.args.registry.now.device) (g.V.Read.remaining c.args.value.now.device))
    c.in-Err.refusal (λ is. (c.in-Err.ensures.registry_failed (ap Err is)).0)
    (λ is. (c.in-Err.ensures.value_failed (ap Err is)).0)
    (λ is. (c.in-Err.ensures.out_failed (ap Err is)).0.0) c.in-Err.ensures.faults)
    (faults_memory c.args.job (g.R.Read.remaining c.args.registry.now.device)
    (g.V.Read.remaining c.args.value.now.device)) (rw c.job_name.ensures at c.refuse.ensures))

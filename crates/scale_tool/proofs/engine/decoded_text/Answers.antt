use Rattle.std.proofs.Common.{subst, sym}
use Rattle.std.proofs.lemmas.Result.{IfErr-weaker}
use Rattle.command_line.specs.declared.task.Wanted.{Wanted}
use Rattle.scale_tool.specs.Reported.{FaultsNamed, FaultsWanted}
use Rattle.scale_tool.proofs.engine.decoded_text.Goals as goal

pub returns-in-Name-clause-faults : goal.returns-in-Name-clause-faults
returns-in-Name-clause-faults g c =
    let r = g.R.Read.remaining c.args.registry.now.device in
    let v = g.V.Read.remaining c.args.value.now.device in
    IfErr-weaker c.named_text.result (FaultsNamed c.args.job.now c.as_str.result.now r v) _
    (λ e h. subst (λ (w : Wanted). FaultsWanted w c.args.job.now r v e) (sym c.in-Name.is)
    (rw c.as_str.ensures.value at h)) c.named_text.ensures.faults

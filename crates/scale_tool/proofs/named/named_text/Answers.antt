use Rattle.std.proofs.Common.{None, Some}
use Rattle.std.proofs.lemmas.Result.{IfErr-weaker, IfOk-weaker, err_from_is_err_and}
use Rattle.chain_core.specs.Names.{entries_of}
use Rattle.scale_tool.specs.Answer.{text_bytes}
use Rattle.scale_tool.proofs.FoundNames.{named_faults, named_found, named_none}
use Rattle.scale_tool.proofs.named.named_text.Goals as goal

pub returns-in_err-metadata-clause-refused : goal.returns-in_err-metadata-clause-refused
returns-in_err-metadata-clause-refused g c =
    let p = err_from_is_err_and c.from_residual.result c.from_residual.ensures.1 in
    rw (p.1, p.2) (λ one. named_none c.args.job.now c.args.name.now
    (g.R.Read.remaining c.args.registry.now.device) (g.V.Read.remaining c.args.value.now.device)
    (c.in_err-metadata.ensures.refused one))

pub returns-clause-ok : goal.returns-clause-ok
returns-clause-ok g c = IfOk-weaker c.text_by_name.result _ _ (λ text h.
    let m = c.in_ok-metadata.metadata in
    let ok = c.in_ok-metadata.ensures.ok in
    named_found c.args.job.now c.args.name.now (g.R.Read.remaining c.args.registry.now.device)
    (g.V.Read.remaining c.args.value.now.device) m.checked.types (entries_of m.names) ok.0
    (Some (text_bytes text)) ok.1 ok.2.types ok.2.names h) c.text_by_name.ensures.ok

pub returns-clause-refused : goal.returns-clause-refused
returns-clause-refused g c = IfErr-weaker c.text_by_name.result _ _ (λ e h one.
    let m = c.in_ok-metadata.metadata in
    let ok = c.in_ok-metadata.ensures.ok in
    named_found c.args.job.now c.args.name.now (g.R.Read.remaining c.args.registry.now.device)
    (g.V.Read.remaining c.args.value.now.device) m.checked.types (entries_of m.names) ok.0
    None ok.1 ok.2.types ok.2.names (h one)) c.text_by_name.ensures.refused

pub returns-clause-faults : goal.returns-clause-faults
returns-clause-faults g c = IfErr-weaker c.text_by_name.result _ _ (λ e h.
    let m = c.in_ok-metadata.metadata in
    let ok = c.in_ok-metadata.ensures.ok in
    named_faults c.args.job.now c.args.name.now (g.R.Read.remaining c.args.registry.now.device)
    (g.V.Read.remaining c.args.value.now.device) m.checked.types (entries_of m.names) ok.0 e
    ok.1 ok.2.types ok.2.names h) c.text_by_name.ensures.faults

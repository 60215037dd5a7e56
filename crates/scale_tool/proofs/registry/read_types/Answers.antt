use Rattle.std.proofs.lemmas.Result.{err_from_is_err_and}
use Rattle.scale_tool.proofs.Reports.{gathered_refused, registry_faults}
use Rattle.scale_tool.proofs.registry.read_types.Goals as goal

pub returns-in_err-checked_registry-in-Ok-clause-faults :
    goal.returns-in_err-checked_registry-in-Ok-clause-faults
returns-in_err-checked_registry-in-Ok-clause-faults g c =
    let p = err_from_is_err_and c.from_residual.result c.from_residual.ensures.1 in
    rw (p.1, p.2) (registry_faults _ c.args.options _ (gathered_refused _ c.args.options
    c.new-bytes.result.items c.gather_all.new.out.items c.as_slice.result.now _
    c.new-bytes.ensures.items c.in-Ok.ensures.ok c.as_slice.ensures.value
    c.in_err-checked_registry-in-Ok.ensures.refuses))

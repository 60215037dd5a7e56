use Rattle.std.proofs.Common.{◌≡◌, Err, false, string_bytes, rules}
use Rattle.chain_core.specs.Names.{entries_of}
use Rattle.scale_tool.specs.declared.refusal.Refusal.TheVariants as refusal
use Rattle.scale_tool.proofs.FoundNames.{names_shown}
use Rattle.scale_tool.proofs.Reports.{metadata_memory}
use Rattle.scale_tool.proofs.named.names_text.Goals as goal

pub returns-clause-ok : goal.returns-clause-ok
returns-clause-ok g c =
    let ok = c.in_ok-metadata.ensures.ok in
    names_shown (g.R.Read.remaining c.args.registry.now.device) ok.0
    (entries_of c.in_ok-metadata.metadata.names) (string_bytes c.in_ok-lines_of.field-0)
    ok.1 ok.2.names c.in_ok-lines_of.ensures

pub returns-in_err-lines_of-clause-faults : goal.returns-in_err-lines_of-clause-faults
returns-in_err-lines_of-clause-faults g c =
    let refused = c.in_err-lines_of.field-0.0 in
    let is : c.from_residual-in_err-lines_of.result ≡ Err (refusal.Memory refused) = search rules in
    rw is (metadata_memory refused false (g.R.Read.remaining c.args.registry.now.device))

use Rattle.std.proofs.Common.{ap, inr, subst}
use Rattle.chain_core.specs.Names.{entries_of, entry_of}
use Rattle.decode_core.specs.Streaming.{FailsAfter}
use Rattle.scale_tool.specs.Answer.{HasEntry, StopsTyped}
use Rattle.scale_tool.specs.declared.form.ValueJob.{ValueJob}
use Rattle.scale_tool.proofs.FoundNames.{entry_had}
use Rattle.scale_tool.proofs.named.text_by_name.Given.{Over}
use Rattle.scale_tool.proofs.named.text_by_name.Goals as goal

-- the name is found, and its type is there
had : (g : Over) (c : goal.After-found_text g) → HasEntry c.args.metadata.now.checked.types
    (entries_of c.args.metadata.now.names) c.args.name.now (entry_of c.in-Some.found.now)
had g c = entry_had c.args.metadata.now.checked.types (entries_of c.args.metadata.now.names)
    c.args.name.now c.as_bytes.result.now (entry_of c.in-Some.found.now)
    c.named_value-wanted.result.id c.class.result _ c.in-Some.ensures c.as_bytes.ensures.value
    (ap (λ (v : ValueJob). v.id) c.named_value-wanted.ensures) c.class.ensures c.if-is_none.ensures

pub returns-clause-failed : goal.returns-clause-failed
returns-clause-failed g c is =
    let stops = c.found_text.ensures.failed is in (
      stops.0,
      (
        entry_of c.in-Some.found.now,
        had g c,
        subst (λ (v : ValueJob). StopsTyped v c.args.metadata.now.checked.types (FailsAfter
            g.V.ReadOnce.reads c.args.value.now.device c.found_text.new.value.device)
            (g.V.Read.remaining c.args.value.now.device)
            (g.V.Read.remaining c.found_text.new.value.device)) c.named_value-wanted.ensures
            stops.1,
      ),
    )

pub returns-clause-read_last : goal.returns-clause-read_last
returns-clause-read_last g c = inr (entry_of c.in-Some.found.now, had g c)

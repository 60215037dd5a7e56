use Rattle.std.proofs.Common.{◌∙◌, ap, length}
use Rattle.json_core.proofs.InFront.{found_quoted, found_run}
use Rattle.json_core.proofs.placed.json_to_slice.Goals as goal

pub returns-clause-len : goal.returns-clause-len
returns-clause-len g c =
    c.quote_in_front.ensures.len
    ∙ ap length (found_quoted c.root-root.result c.args.value.now c.text.result c.in-Some.text
    c.text.ensures c.in-Some.is c.root-root.ensures.same)

pub returns-clause-ok : goal.returns-clause-ok
returns-clause-ok g c =
    rw (← found_quoted c.root-root.result c.args.value.now c.text.result c.in-Some.text
    c.text.ensures c.in-Some.is c.root-root.ensures.same) c.quote_in_front.ensures.placed

pub returns-2-clause-len : goal.returns-2-clause-len
returns-2-clause-len g c =
    c.run_in_front.ensures.len
    ∙ ap length (found_run c.root-root.result c.args.value.now c.bytes.result c.in-Some-bytes.bytes
    c.bytes.ensures c.in-Some-bytes.is c.root-root.ensures.same)

pub returns-2-clause-ok : goal.returns-2-clause-ok
returns-2-clause-ok g c =
    rw (← found_run c.root-root.result c.args.value.now c.bytes.result c.in-Some-bytes.bytes
    c.bytes.ensures c.in-Some-bytes.is c.root-root.ensures.same) c.run_in_front.ensures.placed

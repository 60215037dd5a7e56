use Rattle.std.proofs.Common.{rules, arith, ◌∙◌}
use Rattle.record_core.proofs.Adds.{bad_text_rejected, text_adds}
use Rattle.record_core.proofs.replaying.add_pooled.Goals as goal

pub returns-in-Ok : goal.returns-in-Ok
returns-in-Ok g c = text_adds c.args.pool.now c.in-Ok.text.now c.args.node.now c.args.builder.now
    c.text.new.self c.text.result c.in-7.is (omega (arith, c.in_ok-bytes.ensures.0))
    (c.in-Ok.ensures.cases.0 ∙ c.in_ok-bytes.ensures.1) (search rules) c.text.ensures

pub returns-in-Err : goal.returns-in-Err
returns-in-Err g c = bad_text_rejected c.args.pool.now c.in_ok-bytes.bytes.now c.args.node.now
    c.args.builder.now c.valid_up_to.result c.in-7.is (omega (arith, c.in_ok-bytes.ensures.0))
    c.in_ok-bytes.ensures.1 c.in-Err.ensures.cases.0
    (c.valid_up_to.ensures ∙ c.in-Err.ensures.valid_len)

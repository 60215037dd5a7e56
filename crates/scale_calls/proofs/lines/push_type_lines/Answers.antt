use Rattle.std.proofs.Common.{◌∙◌, arith}
use Rattle.scale_calls.proofs.TypeLines.{class_is, lines_next, lines_whole}
use Rattle.scale_calls.proofs.lines.push_type_lines.Goals as goal

pub types-preserved : goal.types-preserved
types-preserved c =
    lines_next _ c.args.checked.now.types c.types-info-items.result.now c.types.i
    c.info-item.result _ _ _ (omega arith) c.info-item.is
    (class_is c.class.result _ _ _ c.class.ensures c.unwrap-class.ensures) c.types.invariant
    c.in_ok-push_line.ensures

pub returns : goal.returns
returns c =
    lines_whole _ c.args.checked.now.types c.types-info-items.result.now c.types.i _ (omega arith)
    (c.types-info-items.ensures.same ∙ c.registry.ensures.same) c.types.invariant

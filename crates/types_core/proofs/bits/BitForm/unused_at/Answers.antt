use Rattle.std.proofs.Common.{◌+◌, ◌∙◌, ap, cond, None, Some, sym}
use Rattle.types_core.proofs.BitWords.{unused_first, unused_next}
use Rattle.types_core.proofs.bits.BitForm.unused_at.Goals as goal

pub returns-then-not-is_clean : goal.returns-then-not-is_clean
returns-then-not-is_clean c =
    sym (unused_first c.args.self c.args.count c.args.from c.args.bytes.now c.bytes.i
    (c.bytes.i + 1)
    (unused_next c.args.self c.args.count c.args.from c.args.bytes.now c.bytes.i c.bytes-test.true
    c.bytes.invariant
    ∙ ap (λ b. cond b None (Some c.bytes.i)) (sym c.is_clean.ensures ∙ c.if-not-is_clean.true)))

pub bytes-preserved : goal.bytes-preserved
bytes-preserved c =
    unused_next c.args.self c.args.count c.args.from c.args.bytes.now c.bytes.i c.bytes-test.true
    c.bytes.invariant
    ∙ ap (λ b. cond b None (Some c.bytes.i)) (sym c.is_clean.ensures ∙ c.if-not-is_clean.false)

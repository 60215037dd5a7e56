use Rattle.std.proofs.Common.{rules, arith}
use Rattle.std.proofs.lemmas.List.{take_rest}
use Rattle.scale_core.proofs.SentParts.{appends_next}
use Rattle.scale_core.proofs.sending.send.Goals as goal

pub parts-preserved : goal.parts-preserved
parts-preserved g c = record {
  inside = search rules;
  sent = appends_next _ _ _ c.args.bytes.now _ _ c.parts.invariant.sent
      (rw (take_rest c.args.bytes.now c.parts.written) at c.in-Ok.ensures.bytes);
  quiet = search rules;
  none = λ e. absurd (omega (arith, e, c.parts-test.true));
}

pub returns-in-Err-clause-met : goal.returns-in-Err-clause-met
returns-in-Err-clause-met g c = (c.parts.sink.device, _, search rules, c.in-Err.ensures.once)

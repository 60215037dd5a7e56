use Rattle.std.proofs.Common.{rules, ◌+◌, ◌*◌, ◌^◌, ◌<◌, flat_map, subst, refl, length, ap, ◌∙◌}
use Rattle.std.proofs.Common.{arith}
use Rattle.std.specs.Io.KnownBytes.{Appends}
use Rattle.std.proofs.lemmas.Grind.{common_steps}
use Rattle.std.proofs.lemmas.List.{take_all}
use Rattle.node_core.specs.Shown.{IsValue}
use Rattle.node_core.specs.Encoding.{node_bytes}
use Rattle.node_core.proofs.SpelledParts.{is_encoding, nodes_spell, stops, is_few, no_own}
use Rattle.node_core.proofs.writing.encode.Goals as goal

pub returns-in-Err-clause-value : goal.returns-in-Err-clause-value
returns-in-Err-clause-value g c =
    is_encoding c.args.value.now (subst IsValue c.parts.ensures.same c.parts.ensures.whole.value)

pub overflow_add-written : goal.overflow_add-written
overflow_add-written g c =
    let small : length c.parts.result.1.now < 2 ^ 63 = search rules in
    let few : length c.parts.result.0.now * 24 < 2 ^ 63 = search rules in
    let fits : c.nodes.written + c.in-Ok.sent < 2 ^ 64 =
    (is_few c.parts.result.0.now c.nodes.node-index _ c.nodes.written c.in-Ok.sent _
    (length c.parts.result.1.now) c.parts.ensures.fits small few c.nodes-test.true
    c.nodes.invariant.few (omega (arith, c.in-Ok.ensures.count)) c.in-Ok.ensures.bound).fits in
    search rules

pub overflow_add-result : goal.overflow_add-result
overflow_add-result g c =
    let small : length c.parts.result.1.now < 2 ^ 63 = search rules in
    let few : length c.parts.result.0.now * 24 < 2 ^ 63 = search rules in
    let fits : c.nodes.written + c.in-Err.fault.written < 2 ^ 64 =
    (is_few c.parts.result.0.now c.nodes.node-index _ c.nodes.written c.in-Err.fault.written _
    (length c.parts.result.1.now) c.parts.ensures.fits small few c.nodes-test.true
    c.nodes.invariant.few c.in-Err.ensures.part c.in-Err.ensures.bound).fits in
    search rules

pub nodes-preserved : goal.nodes-preserved
nodes-preserved g c =
    let small : length c.parts.result.1.now < 2 ^ 63 = search rules in
    let few : length c.parts.result.0.now * 24 < 2 ^ 63 = search rules in
    record {
      sent = grind (arith, common_steps);
      written = grind (arith, common_steps);
      few = (is_few c.parts.result.0.now c.nodes.node-index _ c.nodes.written c.in-Ok.sent _
          (length c.parts.result.1.now) c.parts.ensures.fits small few c.nodes-test.true
          c.nodes.invariant.few (omega (arith, c.in-Ok.ensures.count)) c.in-Ok.ensures.bound).few;
      quiet = grind (arith, common_steps);
      none = grind (arith, common_steps);
    }

pub returns-in-Err-clause-part : goal.returns-in-Err-clause-part
returns-in-Err-clause-part g c =
    (stops _ _ _ _ _ c.parts.result.1.now c.parts.result.0.now c.nodes.node-index _ _
    c.in-Err.fault.written c.nodes.written c.checked.ensures c.nodes-test.true
    (nodes_spell _ _ _ _ c.parts.ensures.whole c.parts.ensures.same) c.nodes.invariant.sent
    c.nodes.invariant.written c.in-Err.ensures.part c.in-Err.ensures.err).part

pub returns-in-Err-clause-err : goal.returns-in-Err-clause-err
returns-in-Err-clause-err g c =
    (stops _ _ _ _ _ c.parts.result.1.now c.parts.result.0.now c.nodes.node-index _ _
    c.in-Err.fault.written c.nodes.written c.checked.ensures c.nodes-test.true
    (nodes_spell _ _ _ _ c.parts.ensures.whole c.parts.ensures.same) c.nodes.invariant.sent
    c.nodes.invariant.written c.in-Err.ensures.part c.in-Err.ensures.err).sent

pub returns-clause-value : goal.returns-clause-value
returns-clause-value g c =
    is_encoding c.args.value.now (subst IsValue c.parts.ensures.same c.parts.ensures.whole.value)

pub returns-clause-ok : goal.returns-clause-ok
returns-clause-ok g c =
    let all = take_all c.nodes.node-index c.parts.result.0.now (omega arith) in
    subst (Appends (g.W.Write.contents c.args.sink.now.device)
    (g.W.Write.contents c.nodes.sink.device))
    (ap (flat_map (node_bytes c.args.value.now.types c.parts.result.1.now)) all
    ∙ nodes_spell _ _ _ _ c.parts.ensures.whole c.parts.ensures.same)
    c.nodes.invariant.sent

pub returns-in-Err-clause-none : goal.returns-in-Err-clause-none
returns-in-Err-clause-none g c = λ e.
    let no = (c.in-Err.ensures.none
    (no_own _ _ c.parts.result.1.now c.parts.result.0.now c.nodes.node-index _ _
    c.checked.ensures c.nodes-test.true
    (nodes_spell _ _ _ _ c.parts.ensures.whole c.parts.ensures.same) e)).1 in absurd cc

pub returns-clause-none : goal.returns-clause-none
returns-clause-none g c = λ e.
    let all = take_all c.nodes.node-index c.parts.result.0.now (omega arith) in (
      c.nodes.invariant.none (ap length
          (ap (flat_map (node_bytes c.args.value.now.types c.parts.result.1.now)) all
          ∙ nodes_spell _ _ _ _ c.parts.ensures.whole c.parts.ensures.same ∙ e)),
      refl,
    )

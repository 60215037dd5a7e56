use Rattle.std.proofs.Common.{◌≡◌, [], ap, arith, inl, length, refl}
use Rattle.decode_core.specs.Decoding.{opening_fault}
use Rattle.decode_core.specs.Streaming.{query_of}
use Rattle.machine_core.specs.Running.{Running}
use Rattle.decode_core.proofs.calls.Opening.{first, first_going, opened_first}
use Rattle.decode_core.proofs.decoder.Decoder.new.Goals as goal

pub invariant_of-result : goal.invariant_of-result
invariant_of-result g c =
    let j = query_of c.args.checked.now.types c.args.root.0 c.args.limits in
    let run = c.in_ok-run.run' in
    let fault = opening_fault j.registry j.ty c.args.limits in
    let is : run ≡ first j = (opened_first fault (first j) run c.in_ok-run.ensures.opens).1 in
    let nodes : length run.built.entries ≡ 0 = ap (λ (r : Running). length r.built.entries) is in
    let closed : run.built.turns ≡ 0 = ap (λ (r : Running). r.built.turns) is in
    record {
      limit = c.in_ok-run.ensures.limit;
      bytes = [];
      led = inl (first_going j run (first j).built is refl);
      counted = (
        omega (arith, nodes, closed, c.new.ensures, c.new-3.ensures),
        omega (arith, nodes, closed, c.new.ensures, c.new-3.ensures),
      );
    }

pub returns-clause-led : goal.returns-clause-led
returns-clause-led g c =
    let j = query_of c.args.checked.now.types c.args.root.0 c.args.limits in
    let run = c.in_ok-run.run' in
    let fault = opening_fault j.registry j.ty c.args.limits in
    inl (first_going j run (first j).built
    (opened_first fault (first j) run c.in_ok-run.ensures.opens).1 refl)

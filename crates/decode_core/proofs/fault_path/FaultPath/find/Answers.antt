use Rattle.std.proofs.Common.{List, Ok, Option, arith, refl, subst, sym, take, ℕ}
use Rattle.scale_core.proofs.ReadModes.{are_bytes}
use Rattle.machine_core.specs.Turned.{FeedReports}
use Rattle.decode_core.specs.Decoding.{opening_fault}
use Rattle.decode_core.specs.Streaming.{query_of}
use Rattle.decode_core.specs.Paths.{FindsPath}
use Rattle.decode_core.specs.declared.fault.OpenFault.{OpenFault}
use Rattle.decode_core.proofs.calls.Leading.{fed_leads, first_bytes, is_answer}
use Rattle.decode_core.proofs.calls.Opening.{first, first_going, opened_first}
use Rattle.decode_core.proofs.fault_path.FaultPath.find.Goals as goal

pub returns : goal.returns
returns g c =
    let j = query_of c.args.checked.now.types c.args.root.0 c.args.limits in
    let run = c.in_ok-run.run' in
    let new = c.feed-stopped.new.self in
    let why = c.feed-stopped.result.1 in
    let fault = opening_fault j.registry j.ty c.args.limits in
    let opened = opened_first fault (first j) run c.in_ok-run.ensures.opens in
    let going = first_going j run (first j).built opened.1 refl in
    let all = c.args.bytes.now in
    let are = first_bytes j.bytes all (are_bytes all (λ i. omega (arith, c.type_inv.bytes i))) in
    let reports = subst (λ (x : List ℕ). FeedReports run new x c.feed-stopped.result.0 why)
    c.within.ensures c.feed-stopped.ensures.reports in
    let leads = fed_leads j (take j.bytes all) run new c.feed-stopped.result.0 why going are reports
    (is_answer why c.in_default.not-OutOfMemory) c.len.ensures.path in
    subst (λ (o : Option OpenFault). FindsPath o j all (Ok new.built)) (sym opened.0) leads

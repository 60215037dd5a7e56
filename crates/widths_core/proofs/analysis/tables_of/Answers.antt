use Rattle.std.proofs.Common.{◌≡◌, Err, ◌∙◌, rules}
use Rattle.graph_core.specs.Stops.{IsAnsweredFault}
use Rattle.graph_core.specs.declared.fault.CheckFault.TheVariants as fault
use Rattle.graph_core.proofs.FirstFault.{fault_is_first}
use Rattle.widths_core.proofs.Complete.{types_linked_checked}
use Rattle.widths_core.proofs.Results.{err_is}
use Rattle.widths_core.proofs.analysis.tables_of.Goals as goal

pub returns-in_err-settle_types-clause-refused : goal.returns-in_err-settle_types-clause-refused
returns-in_err-settle_types-clause-refused c =
    let r = c.args.graph.now.registry in
    let linked = c.in_ok-read.ensures.linked.linked in
    let is : c.from_residual-in_err-settle_types.result
    ≡ Err (fault.OutOfMemory c.in_err-settle_types.field-0.0) = search rules in
    err_is c.from_residual-in_err-settle_types.result
    (fault.OutOfMemory c.in_err-settle_types.field-0.0)
    (IsAnsweredFault r c.settle_types.new.graph) is (record {
      types = c.settle_types.ensures.lists.types ∙ linked.types;
      fault_is = (fault_is_first r).1
          (types_linked_checked r c.in_ok-read.read.linked.counters.items
          c.read_or_fault.new.graph linked);
      looks = tt;
    })

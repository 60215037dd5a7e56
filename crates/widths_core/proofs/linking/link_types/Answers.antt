use Rattle.std.proofs.Common.{◌≡◌, ℕ, Some, Err, List, [], ◌∷◌, ◌++◌, reverse, sym, ap, ◌∙◌, rules}
use Rattle.graph_core.specs.Graphs.{refs}
use Rattle.graph_core.specs.Stops.{IsRefusedFor, StopsLinking}
use Rattle.graph_core.specs.declared.fault.CheckFault.TheVariants as fault
use Rattle.graph_core.specs.Types.{shape}
use Rattle.graph_core.proofs.UnderWay.{refused_for, told_opened, way_opened}
use Rattle.widths_core.specs.Linking.{LinksType}
use Rattle.widths_core.specs.Rules.{rules_of, all_parts}
use Rattle.widths_core.proofs.DraftsTo.{drafts_more}
use Rattle.widths_core.proofs.PartsOf.{parts_of}
use Rattle.widths_core.proofs.Results.{err_is}
use Rattle.widths_core.proofs.TypesLinked.{types_linked_more}
use Rattle.widths_core.proofs.linking.link_types.Goals as goal

pub link_definition-requires-clause-told : goal.link_definition-requires-clause-told
link_definition-requires-clause-told c =
    let r = c.args.graph.now.registry in
    let h = c.types.invariant.0 in
    let k = c.open-definition.ensures.found in
    let e : shape r c.types.position ≡ Some k.0 = rw (← h.way.reading.types) k.1 in
    rw k.2 (told_opened r c.types.graph c.open-definition.new.self c.types.position k.0 e
    h.way.reading.types c.open-definition.ensures.opened).0

pub types-preserved : goal.types-preserved
types-preserved c =
    let r = c.args.graph.now.registry in
    let i = c.types.position in
    let h = c.types.invariant.0 in
    let b = c.open-definition.new.self in
    let n = c.link_definition.new.graph in
    let k = c.open-definition.ensures.found in
    let e : shape r i ≡ Some k.0 = rw (← h.way.reading.types) k.1 in
    let open' = (told_opened r c.types.graph b i k.0 e h.way.reading.types
    c.open-definition.ensures.opened).1 in
    let links : LinksType i k.0 c.types.counters.items c.link_definition.new.counters.items
    c.types.rows c.link_definition.new.rows b n c.in-Ok.step =
    rw open' at c.in-Ok.ensures.links in
    let read : refs n ≡ refs c.types.graph ++ all_parts (rules_of i k.0) = links.adds.reads.on.read
    ∙ ap (λ (xs : List ℕ). reverse xs ++ all_parts (rules_of i k.0))
    c.open-definition.ensures.opened.read in
    let pushed : c.push.new.list.items ≡ c.types.steps.items ++ c.in-Ok.step ∷ [] =
    search rules in (
      types_linked_more r i k.0 c.types.counters.items c.link_definition.new.counters.items
          c.types.graph b n e h c.open-definition.ensures.opened links.adds,
      rw pushed (drafts_more r (refs c.types.graph) _ (refs n) c.types.rows
          c.link_definition.new.rows i c.types.steps.items k.0 c.in-Ok.step e read links.paired
          links.keeps links.step c.types.invariant.1),
    )

pub returns-in-Err-clause-refused : goal.returns-in-Err-clause-refused
returns-in-Err-clause-refused c =
    let r = c.args.graph.now.registry in
    let i = c.types.position in
    let h = c.types.invariant.0 in
    let b = c.open-definition.new.self in
    let k = c.open-definition.ensures.found in
    let e : shape r i ≡ Some k.0 = rw (← h.way.reading.types) k.1 in
    let open' = (told_opened r c.types.graph b i k.0 e h.way.reading.types
    c.open-definition.ensures.opened).1 in
    let stops : StopsLinking (all_parts (rules_of i k.0)) b c.link_definition.new.graph
    c.in-Err.stop = rw open' at c.in-Err.ensures.stops in
    rw c.in_type.ensures (refused_for r i k.0 (all_parts (rules_of i k.0)) b
    c.link_definition.new.graph c.in-Err.stop
    (way_opened r c.types.graph b i k.0 e h.way h.done (sym h.place)
    c.open-definition.ensures.opened) (parts_of i k.0) stops)

pub returns-in_err-push-in-Ok-clause-refused : goal.returns-in_err-push-in-Ok-clause-refused
returns-in_err-push-in-Ok-clause-refused c =
    let r = c.args.graph.now.registry in
    let i = c.types.position in
    let h = c.types.invariant.0 in
    let b = c.open-definition.new.self in
    let n = c.link_definition.new.graph in
    let k = c.open-definition.ensures.found in
    let e : shape r i ≡ Some k.0 = rw (← h.way.reading.types) k.1 in
    let open' = (told_opened r c.types.graph b i k.0 e h.way.reading.types
    c.open-definition.ensures.opened).1 in
    let links : LinksType i k.0 c.types.counters.items c.link_definition.new.counters.items
    c.types.rows c.link_definition.new.rows b n c.in-Ok.step =
    rw open' at c.in-Ok.ensures.links in
    let more = types_linked_more r i k.0 c.types.counters.items
    c.link_definition.new.counters.items c.types.graph b n e h c.open-definition.ensures.opened
    links.adds in
    let is : c.from_residual-in_err-push-in-Ok.result
    ≡ Err (fault.OutOfMemory c.in_err-push-in-Ok.field-0.0) = search rules in
    err_is c.from_residual-in_err-push-in-Ok.result
    (fault.OutOfMemory c.in_err-push-in-Ok.field-0.0)
    (IsRefusedFor r n) is more.way

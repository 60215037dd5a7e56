use Rattle.std.proofs.Common.{◌≡◌, ◌<◌, ◌+◌, ◌∷◌, ◌++◌, [], List, ℕ, length, get_or, Some, refl, ap}
use Rattle.std.proofs.Common.{◌∙◌}
use Rattle.std.proofs.Common.{arith, rules}
use Rattle.std.proofs.lemmas.List.{get_or_read}
use Rattle.graph_core.specs.Graphs.{IsReadNext}
use Rattle.graph_core.specs.declared.graph.Link.{Link}
use Rattle.graph_core.proofs.Linked.{next_one}
use Rattle.graph_core.proofs.graph.Graph.next.Goals as goal

pub returns-clause-reads : goal.returns-clause-reads
returns-clause-reads c =
    let a = c.args.self.now in
    let m = c.read_next.new.self in
    let id = c.unwrap-id.result in
    let is : c.read_next.result ≡ Some id = c.unwrap-id.ensures in
    let e : IsReadNext a m (Some id) = rw is at c.read_next.ensures in
    let n : length m.registry ≡ length a.registry = ap length e.on.types in
    let lt : id < length a.registry = search rules in
    let within : id < length m.newest.items =
    omega (arith, lt, ap length e.lists.newest, c.requires.linked.heads) in
    let read : c.index-before.result.now ≡ get_or m.newest.items id 0 =
    get_or_read m.newest.items id c.index-before.result.now within c.index-before.ensures 0 in
    let before : c.index-before.result.now ≡ get_or a.newest.items id 0 =
    rw e.lists.newest at read in
    let new : Link = record { counter = c.args.counter; before = c.index-before.result.now } in
    let pushed : c.push-2.new.list.items ≡ m.links.items ++ new ∷ [] = search rules in
    let members : c.push.new.list.items ≡ m.members.items ++ id ∷ [] = search rules in
    let counted : c.in_ok-count.count ≡ length m.links.items + 1 = search rules in
    let small : length m.links.items < 4294967295 = search rules in
    let count : c.in_ok-count.count ≡ length a.links.items + 1 =
    omega (arith, counted, ap length e.lists.links) in
    next_one a m _ id c.args.counter c.requires.linked e lt
    (omega (arith, ap length e.lists.links, small)) refl refl refl refl refl
    (rw (← e.lists.links, ← before) pushed)
    (members ∙ ap (λ (xs : List ℕ). xs ++ id ∷ []) e.lists.members)
    (rw (count, e.lists.newest) refl)

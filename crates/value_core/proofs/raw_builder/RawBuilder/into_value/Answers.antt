use Rattle.std.proofs.Common.{rules, ◌≡◌, ◌∙◌, true, sym, ap, subst, List}
use Rattle.types_core.specs.declared.type_info.TypeInfo.{TypeInfo}
use Rattle.node_core.specs.Shown.{IsWhole, seen}
use Rattle.value_core.specs.Building.{pieces_shown}
use Rattle.value_core.specs.Refusals.{is_whole_in}
use Rattle.value_core.proofs.Finished.{is_finished, seen_finished}
use Rattle.value_core.proofs.raw_builder.RawBuilder.into_value.Goals as goal

pub new-requires-clause-whole : goal.new-requires-clause-whole
new-requires-clause-whole g c =
    let w : is_whole_in c.self.inside.walk.frames ≡ true = search rules in
    let f = is_finished c.self.inside.root.0 c.self.inside.walk c.self.inside.pool.list.items
    c.self.inside.nodes.list.items c.self.inside.text_len c.self.invariant.0 w in
    subst (λ (r : List TypeInfo). IsWhole r c.self.inside.pool.list.items
    c.self.inside.nodes.list.items)
    (sym c.checked.ensures) f.whole

pub new-requires-clause-texts : goal.new-requires-clause-texts
new-requires-clause-texts g c =
    let w : is_whole_in c.self.inside.walk.frames ≡ true = search rules in
    (is_finished c.self.inside.root.0 c.self.inside.walk c.self.inside.pool.list.items
    c.self.inside.nodes.list.items c.self.inside.text_len c.self.invariant.0 w).texts

pub new-requires-clause-fits : goal.new-requires-clause-fits
new-requires-clause-fits g c =
    let w : is_whole_in c.self.inside.walk.frames ≡ true = search rules in
    (is_finished c.self.inside.root.0 c.self.inside.walk c.self.inside.pool.list.items
    c.self.inside.nodes.list.items c.self.inside.text_len c.self.invariant.0 w).fits

pub returns : goal.returns
returns g c =
    let w : is_whole_in c.self.inside.walk.frames ≡ true = search rules in
    let f = is_finished c.self.inside.root.0 c.self.inside.walk c.self.inside.pool.list.items
    c.self.inside.nodes.list.items c.self.inside.text_len c.self.invariant.0 w in
    let value = c.new.ensures
    ∙ ap (λ (r : List TypeInfo). seen r c.self.inside.pool.list.items
    c.self.inside.nodes.list.items)
    c.checked.ensures ∙ seen_finished
    (pieces_shown c.self.inside.pool.list.items c.self.inside.open_run) c.self.inside.turns.so_far
    c.self.inside.root.0 c.self.inside.walk c.self.inside.pool.list.items
    c.self.inside.nodes.list.items
    f.type_is in
    rw (← c.self.view_is) value

use Rattle.std.proofs.Common.{◌≡◌, ◌++◌, drop, rules, arith, ap, sym, ◌∙◌, option_map}
use Rattle.std.proofs.Common.{map, [], Some}
use Rattle.std.proofs.lemmas.List.{append-nil}
use Rattle.std.proofs.Math.ListN.{drop_of_length-le}
use Rattle.types_core.specs.Keys.{order_from, lent_entries, positions_of}
use Rattle.types_core.proofs.KeyOrders.{found_here, new_here, Lent, lent_positions}
use Rattle.types_core.proofs.KeyMaps.{there_in_map, put_in_map}
use Rattle.types_core.proofs.keys.order_of.Goals as goal

pub returns-then-is_some : goal.returns-then-is_some
returns-then-is_some c =
    let old = c.fields.positions.entries in
    sym (ap (option_map positions_of) (c.fields.invariant
    ∙ found_here c.args.fields.now c.fields.position c.index-fields-position.result
    c.as_str.result.now (lent_entries old) (omega arith) c.index-fields-position.is (search rules)
    (sym (there_in_map c.as_str.result old c.in_ok-reported.field-0
    (rw c.in_ok-reported.ensures.ok at c.insert.ensures.old))
    ∙ sym c.is_some.ensures ∙ c.if-is_some.true)))

pub fields-preserved : goal.fields-preserved
fields-preserved c =
    let p = c.fields.position in
    let old = c.fields.positions.entries in
    c.fields.invariant
    ∙ new_here c.args.fields.now p c.index-fields-position.result c.as_str.result.now
    (lent_entries old) _ (omega arith) c.index-fields-position.is (search rules)
    (sym (there_in_map c.as_str.result old c.in_ok-reported.field-0
    (rw c.in_ok-reported.ensures.ok at c.insert.ensures.old))
    ∙ sym c.is_some.ensures ∙ c.if-is_some.false)
    (put_in_map c.as_str.result p old c.insert.new.self.entries
    (rw c.in_ok-reported.ensures.ok at c.insert.ensures.entries))

pub returns : goal.returns
returns c =
    let fs = c.args.fields.now in
    let none : drop c.fields.position fs ≡ [] = drop_of_length-le fs (omega arith) in
    let found : order_from fs 0 [] ≡ Some (lent_entries c.fields.positions.entries) =
    c.fields.invariant
    ∙ ap (λ gs. order_from gs c.fields.position (lent_entries c.fields.positions.entries)) none in
    let left : c.names.position-iterator ≡ [] = c.in-None.ensures.steps.0 in
    let reported : c.names.order.items ≡ map (λ e. e.1) c.into_iter-position-iterator.result =
    sym (append-nil c.names.order.items)
    ∙ ap (λ l. c.names.order.items ++ map (λ e. e.1) l) (sym left) ∙ c.names.invariant.reported in
    let given : c.into_iter-position-iterator.result ≡ c.fields.positions.entries =
    c.into_iter-position-iterator.ensures.into_iter_gives.0 in
    ap Some (reported ∙ ap (λ (l : Lent). map (λ e. e.1) l) given
    ∙ lent_positions c.fields.positions.entries)
    ∙ sym (ap (option_map positions_of) found)

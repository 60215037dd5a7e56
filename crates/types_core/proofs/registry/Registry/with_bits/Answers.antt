use Rattle.std.proofs.Common.{rules, ◌≡◌, ◌<◌, ◌∙◌, ap, length, sym}
use Rattle.std.proofs.lemmas.List.{get_or_read}
use Rattle.types_core.specs.Bits.{bit_form}
use Rattle.types_core.specs.declared.definition.TypeDef.TheVariants as def
use Rattle.types_core.proofs.BitsAllowed.{fits, one_more}
use Rattle.types_core.proofs.registry.Registry.with_bits.Goals as goal

pub types-preserved : goal.types-preserved
types-preserved c =
    let own = c.in-BitSequence in
    let inside : c.types.at < length c.types.types.items = search rules in
    let same : c.index_mut.result.now ≡ c.index.result.now =
    c.index_mut.ensures.value ∙ sym (get_or_read c.types.types.items c.types.at c.index.result.now
    inside c.index.ensures c.index_mut.result.now) in
    let found : c.bit_form-form.result ≡ bit_form c.types.types.items own.store.0 own.order.0 =
    search rules in
    one_more c.args.self c.types.types.items c.types.at c.index_mut.result.now _ inside
    c.types.invariant (search rules)
    (rw (same, own.is) (ap (def.BitSequence own.store own.order) found))

pub invariant_of-result : goal.invariant_of-result
invariant_of-result c =
    fits c.args.self c.types.types.items c.types.at c.types.invariant (search rules)

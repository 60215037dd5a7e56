use Rattle.std.proofs.Common.{◌∙◌, rules, sym}
use Rattle.scale_core.proofs.ReadModes.{are_bytes}
use Rattle.widths_core.specs.declared.run_kind.RunKind.TheVariants as kind
use Rattle.value_core.proofs.NextLeaf.{run_next}
use Rattle.value_core.proofs.builder.Builder.bits.Goals as goal

pub add_leaf-requires-clause-next : goal.add_leaf-requires-clause-next
add_leaf-requires-clause-next g c =
    run_next _ (kind.Bits c.in-Bits.form) c.args.count c.args.bytes.now (search rules)
    (sym c.unused_at.ensures ∙ c.in-None.is)
    (are_bytes c.args.bytes.now (λ i. (c.type_inv.bytes i).fits))
    (c.if-bytes.false ∙ c.bytes.ensures.exact) (search rules) tt

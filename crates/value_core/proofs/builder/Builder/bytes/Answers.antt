use Rattle.std.proofs.Common.{length, refl, rules}
use Rattle.scale_core.proofs.ReadModes.{are_bytes}
use Rattle.widths_core.specs.declared.run_kind.RunKind.TheVariants as kind
use Rattle.value_core.proofs.NextLeaf.{run_next}
use Rattle.value_core.proofs.builder.Builder.bytes.Goals as goal
use Rattle.value_core.proofs.builder.Builder.bytes.Goals.{in-Bytes, in-ByteArray}

pub add_leaf-requires-clause-next : goal.add_leaf-requires-clause-next
add_leaf-requires-clause-next g c = elim c.match-branch-2.branch [
  | in-Bytes w ↦ run_next _ kind.Bytes (length c.args.bytes.now) c.args.bytes.now (search rules) tt
      (are_bytes c.args.bytes.now (λ i. (c.type_inv.bytes i).fits)) refl (search rules) tt
  | in-ByteArray w ↦ run_next _ (kind.ByteArray w.in-ByteArray.len)
      (length c.args.bytes.now) c.args.bytes.now (search rules) tt
      (are_bytes c.args.bytes.now (λ i. (c.type_inv.bytes i).fits)) refl (search rules)
      (search rules)
]

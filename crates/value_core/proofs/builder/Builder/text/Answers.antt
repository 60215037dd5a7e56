use Rattle.std.proofs.Common.{rules, subst, sym}
use Rattle.scale_core.specs.Number.{AreBytes}
use Rattle.scale_core.proofs.ReadModes.{are_bytes}
use Rattle.std.proofs.lemmas.Str.{is_utf8-from_IsUtf8}
use Rattle.value_core.proofs.NextLeaf.{text_next}
use Rattle.value_core.proofs.builder.Builder.text.Goals as goal

pub add_leaf-requires-clause-next : goal.add_leaf-requires-clause-next
add_leaf-requires-clause-next g c =
    text_next _ c.as_bytes.result.now (search rules)
    (is_utf8-from_IsUtf8 c.as_bytes.result.now c.as_bytes.ensures.utf8)
    (subst AreBytes (sym c.as_bytes.ensures.value)
    (are_bytes c.args.text.now (λ i. (c.type_inv.text i).fits))) (search rules)

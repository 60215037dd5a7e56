use Rattle.std.proofs.Common.{◌≡◌, ◌≤◌, length, get_or, Some, ap, sym, ◌∙◌, rules, arith}
use Rattle.std.proofs.lemmas.Option.{slice_get_within, get_or_from_slice_get}
use Rattle.types_core.specs.declared.definition.Arm.{Arm}
use Rattle.types_core.specs.declared.definition.TypeDef.TheVariants as Def
use Rattle.graph_core.specs.Types.{shape}
use Rattle.widths_core.specs.Steps.{references_of}
use Rattle.widths_core.proofs.ArmReads.{arm_read}
use Rattle.widths_core.proofs.checked.Checked.arm.Goals as goal

pub returns-in_err-get-in-Variant : goal.returns-in_err-get-in-Variant
returns-in_err-get-in-Variant c =
    let r = c.args.self.now.types in
    let e : shape r c.args.id.0 ≡ Some (Def.Variant c.in-Variant.arms) = search rules in
    let b = arm_read r (references_of r) c.args.id.0 c.args.index c.in_ok-position.field-0
    c.in-Variant.arms e c.in_ok-position.ensures in
    let lt = slice_get_within c.in-Variant.arms c.in_ok-position.field-0.position b.0 b.2 in
    let past : length c.in-Variant.arms ≤ c.in_ok-position.field-0.position = search rules in
    absurd (omega (arith, lt, past))

pub returns-in_ok-get-in-Variant : goal.returns-in_ok-get-in-Variant
returns-in_ok-get-in-Variant c =
    let r = c.args.self.now.types in
    let e : shape r c.args.id.0 ≡ Some (Def.Variant c.in-Variant.arms) = search rules in
    let b = arm_read r (references_of r) c.args.id.0 c.args.index c.in_ok-position.field-0
    c.in-Variant.arms e c.in_ok-position.ensures in
    let read = get_or_from_slice_get c.in-Variant.arms c.in_ok-position.field-0.position b.0
    c.in_ok-get-in-Variant.field-0.now b.2 in
    let at : c.in_ok-get-in-Variant.field-0.now
    ≡ get_or c.in-Variant.arms c.in_ok-position.field-0.position
    c.in_ok-get-in-Variant.field-0.now = search rules in
    sym (b.1 ∙ ap (λ (a : Arm). Some (c.in_ok-position.field-0.position, a)) (sym (at ∙ read)))

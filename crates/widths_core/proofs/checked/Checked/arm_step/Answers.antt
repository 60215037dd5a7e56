use Rattle.std.proofs.Common.{◌≡◌, List, Some, None, slice_get, sym, ◌∙◌, rules}
use Rattle.types_core.specs.declared.definition.Arm.{Arm}
use Rattle.types_core.specs.declared.definition.TypeDef.TheVariants as Def
use Rattle.graph_core.specs.Types.{shape}
use Rattle.widths_core.specs.Steps.{references_of, IsRow}
use Rattle.widths_core.proofs.ArmReads.{arm_none, arm_found, row_at}
use Rattle.widths_core.proofs.checked.Checked.arm_step.Goals as goal

pub returns-in_err-from : goal.returns-in_err-from
returns-in_err-from c =
    let own = c.self.inside in
    let same : c.args.self.now.types ≡ own.examined.registry = search rules in
    let s = c.in_ok-step_of.field-0 in
    let got : slice_get own.steps.items c.args.id.0 ≡ Some s = search rules in
    let none : c.row.result ≡ None = search rules in
    let empty : c.from_residual-in_err-from.result ≡ None = search rules in
    rw (
      empty,
      same,
      arm_none own.examined.registry own.members.items own.rows own.steps.items c.args.id.0
          c.args.index s c.self.invariant.table got (sym c.row.ensures ∙ none),
    ) tt

-- a type whose step has arms is a variant, and its arms are in a row of their own
row : (c : goal.In_ok-from) → (arms : List Arm)
    × (shape c.self.inside.examined.registry c.args.id.0 ≡ Some (Def.Variant arms))
    × IsRow (references_of c.self.inside.examined.registry) c.self.inside.rows
    c.in_ok-from.field-0.from
    c.in_ok-from.field-0.count arms
row c =
    let own = c.self.inside in
    let s = c.in_ok-step_of.field-0 in
    let got : slice_get own.steps.items c.args.id.0 ≡ Some s = search rules in
    let some : c.row.result ≡ Some c.in_ok-from.field-0 = search rules in
    row_at own.examined.registry own.members.items own.rows own.steps.items c.args.id.0 s
    c.in_ok-from.field-0 c.self.invariant.table got (sym c.row.ensures ∙ some)

pub find-requires-clause-within : goal.find-requires-clause-within
find-requires-clause-within c = (row c).2.within

pub find-requires-clause-rises : goal.find-requires-clause-rises
find-requires-clause-rises c = (row c).2.rises

pub returns : goal.returns
returns c =
    let own = c.self.inside in
    let same : c.args.self.now.types ≡ own.examined.registry = search rules in
    let s = c.in_ok-step_of.field-0 in
    let got : slice_get own.steps.items c.args.id.0 ≡ Some s = search rules in
    let some : c.row.result ≡ Some c.in_ok-from.field-0 = search rules in
    let r = row_at own.examined.registry own.members.items own.rows own.steps.items c.args.id.0 s
    c.in_ok-from.field-0 c.self.invariant.table got (sym c.row.ensures ∙ some) in
    rw (same, r.1) (arm_found (references_of own.examined.registry) own.rows
    c.in_ok-from.field-0.from
    c.in_ok-from.field-0.count c.args.index r.0 c.find.result r.2 c.find.ensures)

use Rattle.std.proofs.Common.{◌≡◌, ◌<◌, List, length, get_or, Some, true, false, refl, sym, ap, ◌∙◌}
use Rattle.std.proofs.Common.{arith, rules}
use Rattle.std.proofs.lemmas.List.{get_or_read, length-set}
use Rattle.std.specs.Prelude.{slice_get}
use Rattle.widths_core.specs.declared.class.Class.{Class}
use Rattle.widths_core.specs.declared.class.Class.TheVariants as class
use Rattle.widths_core.specs.declared.type_step.TypeStep.{TypeStep}
use Rattle.widths_core.specs.ClassTables.{has_value, known_class}
use Rattle.widths_core.specs.Completing.{without_value}
use Rattle.widths_core.proofs.StepsOf.{finishes_kept, finishes_changed, finishes_all, get_at}
use Rattle.widths_core.proofs.settling.Settling.finish.Goals as goal
use Rattle.widths_core.proofs.settling.Settling.finish.Goals.{then-not-has_value}
use Rattle.widths_core.proofs.settling.Settling.finish.Goals.{else-not-has_value}

pub types-preserved : goal.types-preserved
types-preserved c =
    let i = c.types.position in
    let s = c.types.self in
    let xs = c.args.self.now.steps.items in
    let classes = c.args.self.now.classes.items in
    let h = c.types.invariant in
    let lt : i < length s.classes.items =
    omega (
      arith,
      c.types-test.true,
      c.len-position-end.ensures,
      ap length h.1,
      c.args.self.now.classes.ok.0,
      s.classes.ok.0,
    ) in
    let is : c.index.result.now ≡ known_class classes i =
    get_or_read s.classes.items i c.index.result.now lt c.index.ensures class.NoValue
    ∙ ap (λ (cs : List Class). known_class cs i) h.1 in
    let within : i < length s.steps.items =
    omega (arith, lt, ap length h.1, h.0.count, c.requires) in
    elim c.if-not-has_value.branch [
      | then-not-has_value w ↦
          let fails : c.has_value.result ≡ false = search rules in
          let none : has_value (known_class classes i) ≡ false = rw (← is)
          (sym c.has_value.ensures ∙ fails) in
          let old = w.index-then-not-has_value.result.now in
          let read : old ≡ get_or s.steps.items i old =
          get_or_read s.steps.items i old within w.index-then-not-has_value.ensures old in
          let at : slice_get s.steps.items i ≡ Some old = get_at s.steps.items i old within
          ∙ ap (λ (y : TypeStep). Some y) (sym read) in
          rw (w.self-is, w.without_value.ensures) (
            finishes_changed classes xs s.steps.items _ i old h.0 none
                at refl
                (length-set s.steps.items i (without_value old)),
            h.1,
            h.2,
          )
      | else-not-has_value w ↦
          let holds : c.has_value.result ≡ true = search rules in
          let some : has_value (known_class classes i) ≡ true = rw (← is)
          (sym c.has_value.ensures ∙ holds) in
          rw w.self-is (finishes_kept classes xs s.steps.items i h.0 some, h.1, h.2)
    ]

pub returns-clause-steps : goal.returns-clause-steps
returns-clause-steps c =
    finishes_all c.args.self.now.classes.items c.args.self.now.steps.items c.types.self.steps.items
    c.types.position
    (omega (
      arith,
      c.types-test.false,
      c.len-position-end.ensures,
      c.requires,
      c.args.self.now.classes.ok.0,
    )) c.types.invariant.0

pub returns-clause-rows : goal.returns-clause-rows
returns-clause-rows c = c.types.invariant.2

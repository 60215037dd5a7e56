use Rattle.std.proofs.Common.{◌≡◌}
use Rattle.widths_core.proofs.StepsOf.{FinishesTo}
use Rattle.widths_core.proofs.settling.Settling.finish.Given as goal

abbrev pub invariant-types : goal.invariant-types
invariant-types l = FinishesTo l.fn.self.classes.items l.fn.self.steps.items l.self.steps.items
    l.position × (l.self.classes.items ≡ l.fn.self.classes.items)
    × (l.self.rows ≡ l.fn.self.rows)

-- How many bytes a budget is made of.
use Rattle.std.specs.Prelude.{ℕ}
use Rattle.budget_core.specs.declared.budget.Budget.{Budget}

-- the number of bytes that a budget and its clones are made of, where 0 stands for no budget
abbrev pub budget_bytes : {B : Type 0} → Budget B → ℕ
budget_bytes budget = budget.shared.value.bytes

-- What is kept with a checked registry.
use Rattle.std.specs.Prelude.{◌≡◌}
use Rattle.widths_core.specs.declared.checked.Checked.TheInside.{Inside}
use Rattle.graph_core.specs.References.{IsChecked}
use Rattle.graph_core.specs.Widths.{widest}
use Rattle.widths_core.specs.Steps.{IsTable}
use Rattle.widths_core.specs.Analysed.{HasFewLooks}

-- every reference is a position, and the table and the width are those of the registry
pub record AreTables (c : Inside) : Type 0 where
  pub checked : IsChecked c.examined.registry
  pub table : IsTable c.examined.registry c.members.items c.rows c.steps.items
  pub widest_is : c.widest ≡ widest c.examined.registry
  pub looks : HasFewLooks c.examined.registry c.examined.looks

-- What a caller knows about a checked registry.
use Rattle.std.specs.Prelude.{List}
use Rattle.types_core.specs.declared.type_info.TypeInfo.{TypeInfo}
use Rattle.graph_core.specs.declared.looks.Looks.{Looks}

-- its types, by position, and what was looked at to check them
pub record CheckedView : Type 0 where
  pub types : List TypeInfo
  pub looks : Looks

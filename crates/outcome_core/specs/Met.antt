-- The layout by which a type is read when it is met: a type without a finite value is rejected like
-- an unknown one.
use Rattle.std.specs.Prelude.{ℕ, List, if◌then◌else◌}
use Rattle.types_core.specs.declared.type_info.TypeInfo.{TypeInfo}
use Rattle.widths_core.specs.Classes.{is_finite}
use Rattle.widths_core.specs.Layouts.{Layout, layout}
use Rattle.widths_core.specs.Layouts as layout

unfoldable pub met_layout : List TypeInfo → ℕ → Layout
met_layout r t = if is_finite r t then layout r t else layout.unknown

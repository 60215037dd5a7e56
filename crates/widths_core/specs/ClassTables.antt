-- Tables of targets and classes with an entry for each type, and how the class of a type follows
-- from those of its parts.
use Rattle.std.specs.Prelude.{◌≡◌, ℕ, zero, suc, List, [], ◌∷◌, length, Bool, true, false, Option}
use Rattle.std.specs.Prelude.{None, slice_index_or, if◌then◌else◌}
use Rattle.std.specs.List.{list_any}
use Rattle.scale_core.specs.declared.compact.Target.{Target}
use Rattle.types_core.specs.declared.definition.Arm.{Arm}
use Rattle.types_core.specs.declared.definition.TypeDef.{TypeDef}
use Rattle.types_core.specs.declared.definition.TypeDef.TheVariants as Def
use Rattle.types_core.specs.declared.type_info.TypeInfo.{TypeInfo}
use Rattle.widths_core.specs.declared.class.Class.{Class}
use Rattle.widths_core.specs.declared.class.Class.TheVariants as class
use Rattle.graph_core.specs.Types.{ids, field_types}
use Rattle.widths_core.specs.Arms.{live_arms}
use Rattle.widths_core.specs.Targets.{target_of}
use Rattle.widths_core.specs.Classes.{class_of, is_unit}

-- the target of type t in a table, if it has one
abbrev pub known_target : List (Option Target) → ℕ → Option Target
known_target targets t = slice_index_or targets t None

-- the table has the target of each type
abbrev pub ReportsTargets : List TypeInfo → List (Option Target) → Type 0
ReportsTargets r targets = (t : ℕ) → known_target targets t ≡ target_of r t

-- the class of type t in a table; a type that is not in it has no value
abbrev pub known_class : List Class → ℕ → Class
known_class classes t = slice_index_or classes t class.NoValue

-- the class of a value with two parts of these classes
abbrev pub joined : Class → Class → Class
joined class.NoValue c = class.NoValue
joined class.Empty c = c
joined class.Sized class.NoValue = class.NoValue
joined class.Sized class.Empty = class.Sized
joined class.Sized class.Sized = class.Sized

abbrev pub class_of_parts : (ℕ → Class) → List ℕ → Class
class_of_parts below [] = class.Empty
class_of_parts below (t ∷ ts) = joined (below t) (class_of_parts below ts)

abbrev pub has_value : Class → Bool
has_value class.NoValue = false
has_value class.Empty = true
has_value class.Sized = true

-- a variant takes bytes if an arm that is not shadowed has a value, and otherwise has no value
abbrev pub class_of_arms : (ℕ → Class) → List Arm → Class
class_of_arms below arms =
    if list_any (λ a. has_value (class_of_parts below (field_types a.fields))) (live_arms [] arms)
    then class.Sized else class.NoValue

-- a compact takes no bytes exactly if its target is the unit
abbrev pub class_of_compact : Option Target → Class
class_of_compact over = if is_unit over then class.Empty else class.Sized

-- the class of a type of this shape, if the types that it refers to have these targets and the
-- classes given by `below`
abbrev pub class_step : (ℕ → Option Target) → (ℕ → Class) → TypeDef → Class
class_step targets below (Def.Composite fs) = class_of_parts below (field_types fs)
class_step targets below (Def.Variant arms) = class_of_arms below arms
class_step targets below (Def.Sequence t) = class.Sized
class_step targets below (Def.Array zero t) = class.Empty
class_step targets below (Def.Array (suc n) t) = below t.0
class_step targets below (Def.Tuple ts) = class_of_parts below (ids ts)
class_step targets below (Def.Primitive p) = class.Sized
class_step targets below (Def.Compact t) = class_of_compact (targets t.0)
class_step targets below (Def.BitSequence store order form) = class.Sized

-- the table has one entry for each type, the type's class
abbrev pub ReportsClasses : List TypeInfo → List Class → Type 0
ReportsClasses r classes = (length classes ≡ length r)
    × ((t : ℕ) → known_class classes t ≡ class_of r t)

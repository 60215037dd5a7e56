-- How far the definitions were read, and what is left of the open one.
use Rattle.std.specs.Prelude.{ℕ, zero, suc, List, [], ◌∷◌, ◌++◌, length, drop, flat_map, Option}
use Rattle.std.specs.Prelude.{Some, None}
use Rattle.std.specs.Prelude.{slice_get, option_map}
use Rattle.types_core.specs.declared.definition.Arm.{Arm}
use Rattle.types_core.specs.declared.definition.TypeDef.{TypeDef}
use Rattle.types_core.specs.declared.definition.TypeDef.TheVariants as Def
use Rattle.graph_core.specs.declared.graph.Graph.{Graph}
use Rattle.graph_core.specs.Types.{ids, field_types}

-- the last of the first k items, if there is one
abbrev pub last_of : {X : Type 0} → List X → ℕ → Option X
last_of xs zero = None
last_of xs (suc k) = slice_get xs k

-- the types of the fields of an open arm
abbrev pub fields_open : Option Arm → List ℕ
fields_open (Some a) = field_types a.fields
fields_open None = []

-- the open references of a definition whose first k arms were begun: the types of the fields of the
-- last of these arms, or the references outside any arm
abbrev pub open_references : TypeDef → ℕ → List ℕ
open_references (Def.Composite fs) k = field_types fs
open_references (Def.Variant arms) k = fields_open (last_of arms k)
open_references (Def.Sequence t) k = t.0 ∷ []
open_references (Def.Array n t) k = t.0 ∷ []
open_references (Def.Tuple ts) k = ids ts
open_references (Def.Primitive p) k = []
open_references (Def.Compact t) k = t.0 ∷ []
open_references (Def.BitSequence store order form) k = []

abbrev pub arms_of : TypeDef → List Arm
arms_of (Def.Variant arms) = arms
arms_of _ = []

-- the open definition, if there is one
abbrev pub current : Graph → Option TypeDef
current g = option_map (λ i. i.shape) (last_of g.registry g.cursor.types)

-- the same, or a definition without references if none is open
abbrev pub open_definition : Option TypeDef → TypeDef
open_definition (Some d) = d
open_definition None = Def.Tuple []

abbrev pub parts_after : Option TypeDef → ℕ → ℕ → List ℕ
parts_after (Some d) arms parts = drop parts (open_references d arms)
parts_after None arms parts = []

abbrev pub arms_after : Option TypeDef → ℕ → List Arm
arms_after (Some d) arms = drop arms (arms_of d)
arms_after None arms = []

-- the open references that were not read
abbrev pub parts_left : Graph → List ℕ
parts_left g = parts_after (current g) g.cursor.arms g.cursor.parts

-- the arms of the open definition that were not begun
abbrev pub arms_left : Graph → List Arm
arms_left g = arms_after (current g) g.cursor.arms

abbrev pub reference_after : Option TypeDef → ℕ → ℕ → Option ℕ
reference_after (Some d) arms parts = slice_get (open_references d arms) parts
reference_after None arms parts = None

abbrev pub arm_after : Option TypeDef → ℕ → Option Arm
arm_after (Some d) arms = slice_get (arms_of d) arms
arm_after None arms = None

-- the next open reference, if one is left
abbrev pub next_reference : Graph → Option ℕ
next_reference g = reference_after (current g) g.cursor.arms g.cursor.parts

-- the next arm of the open definition, if one is left
abbrev pub next_arm : Graph → Option Arm
next_arm g = arm_after (current g) g.cursor.arms

-- the index of an arm, and how many fields it has
abbrev pub arm_outline : Option Arm → Option (ℕ × ℕ)
arm_outline None = None
arm_outline (Some a) = Some (a.index, length a.fields)

-- the types of the fields of these arms
abbrev pub arm_references : List Arm → List ℕ
arm_references arms = flat_map (λ a. field_types a.fields) arms

-- the references of the open definition that were not read
abbrev pub left : Graph → List ℕ
left g = parts_left g ++ arm_references (arms_left g)

-- What a graph reports about a definition when it opens it.
use Rattle.std.specs.Prelude.{◌≡◌, List, [], ◌∷◌, length}
use Rattle.types_core.specs.declared.definition.Arm.{Arm}
use Rattle.types_core.specs.declared.definition.Field.{Field}
use Rattle.types_core.specs.declared.definition.TypeDef.{TypeDef}
use Rattle.types_core.specs.declared.definition.TypeDef.TheVariants as Def
use Rattle.types_core.specs.declared.type_id.TypeId.{TypeId}
use Rattle.graph_core.specs.declared.definition.Definition.{Definition}
use Rattle.graph_core.specs.declared.definition.Definition.TheVariants as told
use Rattle.graph_core.specs.declared.graph.Graph.{Graph}
use Rattle.graph_core.specs.Cursors.{current, open_definition, parts_left, arms_left}
use Rattle.graph_core.specs.Types.{ids, field_types}

-- what a definition is made of, without its references
abbrev pub outline : TypeDef → Definition
outline (Def.Composite fs) = told.Composite (length fs)
outline (Def.Variant arms) = told.Variant (length arms)
outline (Def.Sequence t) = told.Sequence
outline (Def.Array n t) = told.Array n
outline (Def.Tuple ts) = told.Tuple (length ts)
outline (Def.Primitive p) = told.Primitive p
outline (Def.Compact t) = told.Compact
outline (Def.BitSequence store order form) = (told.BitSequence form)

-- this was reported for the open definition, and none of it was read yet
abbrev pub IsTold : Graph → Definition → Type 0
IsTold g (told.Composite n) = (fs : List Field) × (open_definition (current g) ≡ Def.Composite fs)
    × (parts_left g ≡ field_types fs) × (n ≡ length fs)
IsTold g (told.Variant n) = (arms : List Arm) × (open_definition (current g) ≡ Def.Variant arms)
    × (parts_left g ≡ []) × (arms_left g ≡ arms) × (n ≡ length arms)
IsTold g told.Sequence = (t : TypeId) × (open_definition (current g) ≡ Def.Sequence t)
    × (parts_left g ≡ t.0 ∷ [])
IsTold g (told.Array n) = (t : TypeId) × (open_definition (current g) ≡ Def.Array n t)
    × (parts_left g ≡ t.0 ∷ [])
IsTold g (told.Tuple n) = (ts : List TypeId) × (open_definition (current g) ≡ Def.Tuple ts)
    × (parts_left g ≡ ids ts) × (n ≡ length ts)
IsTold g (told.Primitive p) = open_definition (current g) ≡ Def.Primitive p
IsTold g told.Compact = (t : TypeId) × (open_definition (current g) ≡ Def.Compact t)
    × (parts_left g ≡ t.0 ∷ [])
IsTold g (told.BitSequence form) = (store order : TypeId)
    × (open_definition (current g) ≡ Def.BitSequence store order form)

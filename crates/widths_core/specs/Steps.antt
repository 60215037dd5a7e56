-- What a type is made of, in a few bytes: its parts are a slice of the list of all references, its
-- arms a row sorted by index.
use Rattle.std.specs.Prelude.{◌≡◌, ℕ, ◌+◌, ◌<◌, ◌≤◌, List, length, take, drop, flat_map, Bool}
use Rattle.std.specs.Prelude.{if◌then◌else◌, Option, Some, None, slice_get}
use Rattle.types_core.specs.declared.definition.Arm.{Arm}
use Rattle.types_core.specs.declared.definition.TypeDef.{TypeDef}
use Rattle.types_core.specs.declared.definition.TypeDef.TheVariants as Def
use Rattle.types_core.specs.declared.type_info.TypeInfo.{TypeInfo}
use Rattle.widths_core.specs.declared.rows.Rows.{Rows}
use Rattle.widths_core.specs.declared.type_step.ArmStep.{ArmStep}
use Rattle.widths_core.specs.declared.class.Class.{Class}
use Rattle.widths_core.specs.declared.class.Class.TheVariants as class
use Rattle.widths_core.specs.declared.type_step.Parts.{Parts}
use Rattle.widths_core.specs.declared.type_step.TypeStep.{TypeStep}
use Rattle.widths_core.specs.declared.type_step.TypeStep.TheVariants as step
use Rattle.scale_core.specs.declared.compact.Target.{Target}
use Rattle.graph_core.specs.Types.{shape, ids, field_types}
use Rattle.widths_core.specs.Arms.{arm_of}
use Rattle.graph_core.specs.References.{references}
use Rattle.widths_core.specs.Targets.{target_of}
use Rattle.widths_core.specs.Classes.{class_of}
use Rattle.widths_core.specs.ClassTables.{class_of_compact}
use Rattle.widths_core.specs.Layouts.{is_byte}
use Rattle.widths_core.specs.Rows.{IsPaired, Lacks, Rises, arm_at_place, index_in}

-- the references of a registry, in the order of its bytes
abbrev pub references_of : List TypeInfo → List ℕ
references_of r = flat_map (λ i. references i.shape) r

-- the `count` references from place `from` on are these types
pub record AreParts (refs : List ℕ) (from count : ℕ) (ts : List ℕ) : Type 0 where
  pub within : from + count ≤ length refs
  pub are : take count (drop from refs) ≡ ts

-- the step of the arm, if there is one
abbrev pub IsArm : List ℕ → Option ArmStep → Option (ℕ × Arm) → Type 0
IsArm refs None None = Unit {0}
IsArm refs (Some s) (Some x) = (s.position ≡ x.0)
    × AreParts refs s.from s.count (field_types x.1.fields)
IsArm refs None (Some x) = ⊥
IsArm refs (Some s) None = ⊥

-- the row of `count` arms from place `from` on has the first arm with each index that occurs, in
-- ascending order of the index
pub record IsRow (refs : List ℕ) (rows : Rows) (from count : ℕ) (arms : List Arm) : Type 0 where
  pub within : from + count ≤ length rows.indexes.items
  pub rises : Rises rows.indexes.items from (from + count)
  pub arm : (k : ℕ) → from ≤ k → k < from + count →
      IsArm refs (Some (arm_at_place rows k)) (arm_of arms (index_in rows k))
  pub none : (x : ℕ) → Lacks rows.indexes.items from (from + count) x → arm_of arms x ≡ None

-- s is the step of these parts, which are a slice of these references
abbrev pub ArePartsOf : List ℕ → List ℕ → TypeStep → Type 0
ArePartsOf refs ts s = (from count : ℕ) × (s ≡ step.Parts from count) × AreParts refs from count ts

-- s is the step of a type of this shape before it or its parts have settled; its parts are a slice
-- of these references, and the row of a variant satisfies `Row`
abbrev pub IsDraft : List ℕ → (ℕ → ℕ → List Arm → Type 0) → TypeDef → TypeStep → Type 0
IsDraft refs Row (Def.Composite fs) s = ArePartsOf refs (field_types fs) s
IsDraft refs Row (Def.Tuple ts) s = ArePartsOf refs (ids ts) s
IsDraft refs Row (Def.Variant arms) s = (from count : ℕ) × (s ≡ step.Arms from count)
    × Row from count arms
IsDraft refs Row (Def.Sequence t) s = s ≡ step.Sequence t.0
IsDraft refs Row (Def.Array n t) s = s ≡ step.Array n t.0
IsDraft refs Row (Def.Primitive p) s = s ≡ step.Primitive p
IsDraft refs Row (Def.Compact t) s = s ≡ step.Compact None
IsDraft refs Row (Def.BitSequence store order form) s = s ≡ (step.BitSequence form)

-- the step of each type is as it is before any type has settled
pub record AreDrafts (r : List TypeInfo) (refs : List ℕ) (rows : Rows)
    (steps : List TypeStep) : Type 0
  where
    pub paired : IsPaired rows
    pub count : length steps ≡ length r
    pub own : (t : ℕ) (d : TypeDef) (s : TypeStep) → shape r t ≡ Some d →
        slice_get steps t ≡ Some s →
        IsDraft refs (IsRow refs rows) d s

-- a step by the class of a type: the first if it has no value, `Empty` if it takes no bytes, and
-- the second if it takes bytes
abbrev pub by_class : Class → TypeStep → TypeStep → TypeStep
by_class class.NoValue none sized = none
by_class class.Empty none sized = step.Empty
by_class class.Sized none sized = sized

-- the step of a sequence that has values, by the class of its elements, and by whether they are u8
abbrev pub sequence_step : Class → Bool → ℕ → TypeStep
sequence_step class.NoValue byte t = if byte then step.Bytes else step.Sequence t
sequence_step class.Empty byte t = step.Count
sequence_step class.Sized byte t = if byte then step.Bytes else step.Sequence t

-- the step of an array that takes bytes, by whether its elements are u8
abbrev pub array_step : Bool → ℕ → ℕ → TypeStep
array_step byte n t = if byte then step.ByteArray n else step.Array n t

-- s is the step of a type of this class and shape; its parts are a slice of these references, and
-- the row of a variant satisfies `Row`
abbrev pub IsStep : List TypeInfo → List ℕ → (ℕ → ℕ → List Arm → Type 0) → Class → TypeDef →
    TypeStep →
    Type 0
IsStep r refs Row c (Def.Composite fs) s = (from count : ℕ)
    × (s ≡ by_class c step.NoValue (step.Parts from count))
    × AreParts refs from count (field_types fs)
IsStep r refs Row c (Def.Tuple ts) s = (from count : ℕ)
    × (s ≡ by_class c step.NoValue (step.Parts from count)) × AreParts refs from count (ids ts)
IsStep r refs Row c (Def.Variant arms) s = (from count : ℕ)
    × (s ≡ by_class c (step.NoArm from count) (step.Arms from count)) × Row from count arms
IsStep r refs Row c (Def.Sequence t) s =
    s ≡ by_class c step.NoValue (sequence_step (class_of r t.0) (is_byte (shape r t.0)) t.0)
IsStep r refs Row c (Def.Array n t) s =
    s ≡ by_class c step.NoValue (array_step (is_byte (shape r t.0)) n t.0)
IsStep r refs Row c (Def.Primitive p) s = s ≡ by_class c step.NoValue (step.Primitive p)
IsStep r refs Row c (Def.Compact t) s = s ≡ step.Compact (target_of r t.0)
IsStep r refs Row c (Def.BitSequence store order form) s =
    s ≡ by_class c step.NoValue (step.BitSequence form)

-- refs are the references of the registry, and the steps and rows refer to them
pub record IsTable (r : List TypeInfo) (refs : List ℕ) (rows : Rows)
    (steps : List TypeStep) : Type 0
  where
    pub all : refs ≡ references_of r
    pub paired : IsPaired rows
    pub count : length steps ≡ length r
    pub own : (t : ℕ) (d : TypeDef) (s : TypeStep) → shape r t ≡ Some d →
        slice_get steps t ≡ Some s →
        IsStep r (references_of r) (IsRow (references_of r) rows) (class_of r t) d s

-- the step of type t, wherever its row is
abbrev pub IsStepAt : List TypeInfo → ℕ → Option TypeStep → Type 0
IsStepAt r t s = elim (shape r t) [
  | Some d ↦ (x : TypeStep) × (s ≡ Some x)
      × IsStep r (references_of r) (λ from count arms. Unit {0}) (class_of r t) d x
  | None ↦
      s ≡ None
]

-- the class of a type with this step
abbrev pub class_of_step : TypeStep → Class
class_of_step (step.Compact m) = class_of_compact m
class_of_step (step.NoArm from count) = class.NoValue
class_of_step step.NoValue = class.NoValue
class_of_step step.Empty = class.Empty
class_of_step (step.Primitive p) = class.Sized
class_of_step (step.Parts from count) = class.Sized
class_of_step (step.Arms from count) = class.Sized
class_of_step (step.Array n t) = class.Sized
class_of_step (step.ByteArray n) = class.Sized
class_of_step (step.Sequence t) = class.Sized
class_of_step step.Bytes = class.Sized
class_of_step step.Count = class.Sized
class_of_step (step.BitSequence form) = class.Sized

-- the target of a compact with this step
abbrev pub compact_of_step : TypeStep → Option Target
compact_of_step (step.Compact m) = m
compact_of_step (step.NoArm from count) = None
compact_of_step step.NoValue = None
compact_of_step step.Empty = None
compact_of_step (step.Primitive p) = None
compact_of_step (step.Parts from count) = None
compact_of_step (step.Arms from count) = None
compact_of_step (step.Array n t) = None
compact_of_step (step.ByteArray n) = None
compact_of_step (step.Sequence t) = None
compact_of_step step.Bytes = None
compact_of_step step.Count = None
compact_of_step (step.BitSequence form) = None

-- where the row of a variant with this step is
abbrev pub row_of_step : TypeStep → Option Parts
row_of_step (step.Compact m) = None
row_of_step (step.NoArm from count) = Some (record { from = from; count = count })
row_of_step step.NoValue = None
row_of_step step.Empty = None
row_of_step (step.Primitive p) = None
row_of_step (step.Parts from count) = None
row_of_step (step.Arms from count) = Some (record { from = from; count = count })
row_of_step (step.Array n t) = None
row_of_step (step.ByteArray n) = None
row_of_step (step.Sequence t) = None
row_of_step step.Bytes = None
row_of_step step.Count = None
row_of_step (step.BitSequence form) = None

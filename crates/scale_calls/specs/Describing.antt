-- What the types of a registry are: their definitions, parts, arms and paths.
use Rattle.std.specs.Prelude.{◌≡◌, ◌≢◌, ◌≤◌, ◌<◌, ℕ, List, slice_get}
use Rattle.std.specs.Prelude.{Option, Some, None, ok_or, option_copied, option_map}
use Rattle.std.specs.Prelude.{Result, Ok, Err}
use Rattle.std.specs.Borrow.{Bor}
use Rattle.types_core.specs.declared.definition.Arm.{Arm}
use Rattle.types_core.specs.declared.definition.Field.{Field}
use Rattle.types_core.specs.declared.definition.TypeDef.{TypeDef}
use Rattle.types_core.specs.declared.definition.TypeDef.TheVariants as definition
use Rattle.types_core.specs.declared.type_id.TypeId.{TypeId}
use Rattle.types_core.specs.declared.type_info.TypeInfo.{TypeInfo}
use Rattle.widths_core.specs.declared.class.Class.{Class}
use Rattle.widths_core.specs.Classes.{class_of}
use Rattle.scale_calls.specs.Lines.{joined_segments}
use Rattle.scale_calls.specs.declared.describing.Part.{Part}
use Rattle.scale_calls.specs.declared.describing.PartRefusal.{PartRefusal}
use Rattle.scale_calls.specs.declared.describing.PartRefusal.TheVariants as refusal

-- the class and the definition of the type at a position
abbrev pub type_definition : List TypeInfo → ℕ → Option (Class × TypeDef)
type_definition r id = option_map (λ x. (class_of r id, x.shape)) (slice_get r id)

-- a class and a borrowed definition, as values
abbrev pub seen_definition : Class × Bor TypeDef → Class × TypeDef
seen_definition x = (x.0, x.1.now)

-- a part as values: its name, if it has one, and the position of its type
abbrev pub Named : Type 0
Named = Option (List ℕ) × ℕ

-- a borrowed part, as values
abbrev pub part_shown : Part → Named
part_shown part = (option_copied part.name, part.ty)

-- a field as a part
abbrev pub field_part : Field → Named
field_part field = (field.name, field.ty.0)

-- a tuple's member as a part, which has no name
abbrev pub member_part : TypeId → Named
member_part member = (None, member.0)

-- the field or member at a position of a definition
abbrev pub described_part : TypeDef → ℕ → Option Named
described_part (definition.Composite fields) i = option_map field_part (slice_get fields i)
described_part (definition.Variant arms) i = None
described_part (definition.Sequence element) i = None
described_part (definition.Array len element) i = None
described_part (definition.Tuple members) i = option_map member_part (slice_get members i)
described_part (definition.Primitive p) i = None
described_part (definition.Compact target) i = None
described_part (definition.BitSequence store order form) i = None

-- the arm at a position of a definition
abbrev pub described_arm : TypeDef → ℕ → Option Arm
described_arm (definition.Composite fields) i = None
described_arm (definition.Variant arms) i = slice_get arms i
described_arm (definition.Sequence element) i = None
described_arm (definition.Array len element) i = None
described_arm (definition.Tuple members) i = None
described_arm (definition.Primitive p) i = None
described_arm (definition.Compact target) i = None
described_arm (definition.BitSequence store order form) i = None

-- `Result::map`
abbrev pub result_map : {X Y E : Type 0} → (X → Y) → Result X E → Result Y E
result_map f (Ok x) = Ok (f x)
result_map f (Err e) = Err e

-- what `find` finds in the definition of a type, or why there is nothing
abbrev pub in_type : {X : Type 0} → (TypeDef → Option X) → Option TypeInfo → Result X PartRefusal
in_type find (Some info) = ok_or (find info.shape) refusal.UnknownPart
in_type find None = Err refusal.UnknownType

-- the field or member of the type at a position
abbrev pub type_part : List TypeInfo → ℕ → ℕ → Result Named PartRefusal
type_part r id i = in_type (λ d. described_part d i) (slice_get r id)

-- the arm of the type at a position
abbrev pub type_arm : List TypeInfo → ℕ → ℕ → Result Arm PartRefusal
type_arm r id i = in_type (λ d. described_arm d i) (slice_get r id)

-- the field at a position of an arm, if there is an arm
abbrev pub field_in : ℕ → Result Arm PartRefusal → Result Named PartRefusal
field_in i (Ok arm) = ok_or (option_map field_part (slice_get arm.fields i)) refusal.UnknownPart
field_in i (Err e) = Err e

-- the field at position `i` of the arm at position `arm` of the type at a position
abbrev pub arm_field : List TypeInfo → ℕ → ℕ → ℕ → Result Named PartRefusal
arm_field r id arm i = field_in i (type_arm r id arm)

-- the path of the type at a position, its segments joined by `::`
abbrev pub type_path : List TypeInfo → ℕ → Option (List ℕ)
type_path r id = option_map (λ x. joined_segments x.path) (slice_get r id)

-- the first position, at or after `from`, of a type with the path; `None` if there is none
abbrev pub IsFirstOfPath : List TypeInfo → ℕ → List ℕ → Option ℕ → Type 0
IsFirstOfPath r from path (Some id) = (from ≤ id) × (type_path r id ≡ Some path)
    × ((j : ℕ) → from ≤ j → j < id → type_path r j ≢ Some path)
IsFirstOfPath r from path None = (j : ℕ) → from ≤ j → type_path r j ≢ Some path

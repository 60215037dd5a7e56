-- What a registry says of its types beside their definitions.
use Rattle.std.specs.Prelude.{ℕ, List, slice_get, Option, Some, None, ok_or, option_map}
use Rattle.std.specs.Prelude.{Result, Err}
use Rattle.types_core.specs.declared.definition.Arm.{Arm}
use Rattle.types_core.specs.declared.definition.Field.{Field}
use Rattle.types_core.specs.declared.definition.TypeDef.{TypeDef}
use Rattle.types_core.specs.declared.definition.TypeDef.TheVariants as definition
use Rattle.types_core.specs.declared.type_info.Param.{Param}
use Rattle.types_core.specs.declared.type_info.TypeInfo.{TypeInfo}
use Rattle.scale_calls.specs.Describing.{described_arm}
use Rattle.scale_calls.specs.declared.annotations.Subject.{Subject}
use Rattle.scale_calls.specs.declared.annotations.Subject.TheVariants as subject
use Rattle.scale_calls.specs.declared.describing.PartRefusal.{PartRefusal}
use Rattle.scale_calls.specs.declared.describing.PartRefusal.TheVariants as refusal

-- the field at a position of a composite
abbrev pub described_field : TypeDef → ℕ → Option Field
described_field (definition.Composite fields) i = slice_get fields i
described_field (definition.Variant arms) i = None
described_field (definition.Sequence element) i = None
described_field (definition.Array len element) i = None
described_field (definition.Tuple members) i = None
described_field (definition.Primitive p) i = None
described_field (definition.Compact target) i = None
described_field (definition.BitSequence store order form) i = None

-- the field at a position of an arm, if there is an arm
abbrev pub field_in_arm : ℕ → Option Arm → Option Field
field_in_arm i (Some arm) = slice_get arm.fields i
field_in_arm i None = None

-- the field that a subject is
abbrev pub field_of : TypeDef → Subject → Option Field
field_of d subject.Type = None
field_of d (subject.Field i) = described_field d i
field_of d (subject.Arm i) = None
field_of d (subject.ArmField arm i) = field_in_arm i (described_arm d arm)

-- the documentation of a subject: of the type, or of a part of it
abbrev pub docs_of : TypeInfo → Subject → Option (List (List ℕ))
docs_of info subject.Type = Some info.docs
docs_of info (subject.Field i) = option_map (λ f. f.docs) (described_field info.shape i)
docs_of info (subject.Arm i) = option_map (λ a. a.docs) (described_arm info.shape i)
docs_of info (subject.ArmField arm i) =
    option_map (λ f. f.docs) (field_in_arm i (described_arm info.shape arm))

-- what `find` finds in a type, or why there is nothing
abbrev pub in_info : {X : Type 0} → (TypeInfo → Option X) → Option TypeInfo → Result X PartRefusal
in_info find (Some info) = ok_or (find info) refusal.UnknownPart
in_info find None = Err refusal.UnknownType

-- the parameter at a position of the type at a position
abbrev pub type_param : List TypeInfo → ℕ → ℕ → Result Param PartRefusal
type_param r id i = in_info (λ info. slice_get info.params i) (slice_get r id)

-- the name of a field's type, if it was kept
abbrev pub type_name : List TypeInfo → ℕ → Subject → Result (Option (List ℕ)) PartRefusal
type_name r id s =
    in_info (λ info. option_map (λ f. f.type_name) (field_of info.shape s)) (slice_get r id)

-- the line at a position of a documentation, if there is one
abbrev pub line_in : ℕ → Option (List (List ℕ)) → Option (List ℕ)
line_in i (Some docs) = slice_get docs i
line_in i None = None

-- the line at a position of the documentation of a subject
abbrev pub docs_line : List TypeInfo → ℕ → Subject → ℕ → Result (List ℕ) PartRefusal
docs_line r id s i = in_info (λ info. line_in i (docs_of info s)) (slice_get r id)
